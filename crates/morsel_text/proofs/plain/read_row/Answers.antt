use Rattle.std.proofs.Common.{◌∙◌, List, sym, ap, subst, refl}
use Rattle.std.specs.Prelude.{Some}
use Rattle.morsel_meaning.specs.declared.value.ColType.{ColType}
use Rattle.morsel_meaning.specs.Values.{Row, FitsRow, kinds_of}
use Rattle.morsel_text.specs.Pushes.{column_kinds}
use Rattle.morsel_text.specs.Plain.{with_values}
use Rattle.morsel_text.proofs.StepLemmas.{row_read}
use Rattle.morsel_text.proofs.PlainLemmas.{row_fits, fits-length}
use Rattle.morsel_text.proofs.plain.read_row.Goals as goal

pub push_row-requires : goal.push_row-requires
push_row-requires c =
    let row = rw c.in-Row.is at c.in_ok-values.ensures.row in
    let P : List ColType → Type 0 = λ kinds. FitsRow kinds c.in-Row.values.items in
    let Q : Row → Type 0 = λ values. FitsRow (column_kinds c.args.columns.now.items) values in
    subst Q (sym c.as_slice.ensures.value) (subst P (sym c.requires.kinds)
    (row_fits c.args.reader.now.options.now (kinds_of c.args.reader.now.schema.now) c.args.reader.now.used.now c.args.fields.now row.0 c.in-Row.values.items row.1 row.2))

pub returns-in_ok-push_row-in-Row : goal.returns-in_ok-push_row-in-Row
returns-in_ok-push_row-in-Row c =
    let row = rw c.in-Row.is at c.in_ok-values.ensures.row in
    let P : List ColType → Type 0 = λ kinds. FitsRow kinds c.in-Row.values.items in
    let fits = subst P (sym c.requires.kinds)
    (row_fits c.args.reader.now.options.now (kinds_of c.args.reader.now.schema.now) c.args.reader.now.used.now c.args.fields.now row.0 c.in-Row.values.items row.1 row.2) in (
      Some c.in-Row.values.items,
      (refl, fits-length c.args.columns.now.items c.in-Row.values.items fits, c.in_ok-push_row-in-Row.ensures.ok ∙ ap (with_values c.args.columns.now.items) c.as_slice.ensures.value),
      row_read c.args.reader.now.used.now c.args.at _ row.0 c.in-Row.values.items row.1 row.2,
    )
