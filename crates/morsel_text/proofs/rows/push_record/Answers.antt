use Rattle.std.proofs.Common.{◌∙◌, ap, sym, refl, rules, length, map}
use Rattle.morsel_text.specs.RawFields.{shown}
use Rattle.morsel_grammar.specs.Rows.{row_or_misfit}
use Rattle.morsel_text.specs.declared.rows.RowPushed.TheVariants as rows
use Rattle.morsel_text.proofs.RowLemmas.{row_put, row_bad, cells_of-misfit, filled_row, shown_length}
use Rattle.morsel_text.proofs.rows.push_record.Goals as goal

pub returns-then-fields-len-clause-row : goal.returns-then-fields-len-clause-row
returns-then-fields-len-clause-row c =
    let columns = c.args.columns.now.items in
    let fields = map shown c.args.fields.now in
    filled_row c.args.options.now c.args.used.now columns columns fields rows.Misfit (sym c.is_empty.ensures ∙ c.if-is_empty.false)
    (ap row_or_misfit (cells_of-misfit c.args.options.now columns fields
    (λ same. c.if-fields-len.true (sym (shown_length c.args.fields.now _ refl) ∙ same ∙ search rules))))

pub returns-in-Done-clause-row : goal.returns-in-Done-clause-row
returns-in-Done-clause-row c =
    let columns = c.args.columns.now.items in
    let fields = map shown c.args.fields.now in
    let new = c.push_fields.new.columns.items in
    filled_row c.args.options.now c.args.used.now columns new fields rows.Row (sym c.is_empty.ensures ∙ c.if-is_empty.false)
    (row_put c.args.options.now c.args.used.now columns new fields c.requires.used (shown_length c.args.fields.now (length columns) (search rules)) (rw c.in-Done.is at c.in_ok-push_fields.ensures.fields))

pub returns-in-Bad-clause-row : goal.returns-in-Bad-clause-row
returns-in-Bad-clause-row c =
    let columns = c.args.columns.now.items in
    let fields = map shown c.args.fields.now in
    let new = c.push_fields.new.columns.items in
    filled_row c.args.options.now c.args.used.now columns new fields rows.Bad (sym c.is_empty.ensures ∙ c.if-is_empty.false)
    (row_bad c.args.options.now c.args.used.now columns new fields c.requires.used (shown_length c.args.fields.now (length columns) (search rules)) (rw c.in-Bad.is at c.in_ok-push_fields.ensures.fields))
