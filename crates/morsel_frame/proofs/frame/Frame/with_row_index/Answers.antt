use Rattle.std.proofs.Common.{arith, ◌≡◌, ◌∙◌, ◌<◌, [], ◌∷◌, ap, sym, length, refl}
use Rattle.std.proofs.lemmas.List.{nil_from_length}
use Rattle.morsel_meaning.specs.declared.value.ColType.TheVariants as types
use Rattle.morsel_frame.specs.Refusals.{first_fault, index_fault, repeat_fault}
use Rattle.morsel_frame.proofs.BesideLemmas.{field_of, framed-with_index, rows-with_index, no_index_fault, index_fits, index_too_large}
use Rattle.morsel_frame.proofs.frame.Frame.with_row_index.Goals as goal

pub returns-then-height-eq0-clause-ok : goal.returns-then-height-eq0-clause-ok
returns-then-height-eq0-clause-ok c =
    let none : c.args.self.rows ≡ [] = nil_from_length c.args.self.rows (omega arith) in
    rw (c.empty.ensures, c.in_ok-schema.ensures.ok, c.into_parts-schema.ensures.schema, none) refl

pub returns-then-height-eq0-clause-refused : goal.returns-then-height-eq0-clause-refused
returns-then-height-eq0-clause-refused c =
    let none = no_index_fault c.args.offset (length c.args.self.rows) (omega arith) in
    ap (λ fields. first_fault (repeat_fault (field_of c.args.name types.Int ∷ fields)) (index_fault c.args.offset (length c.args.self.rows))) (sym c.into_parts-schema.ensures.schema)
    ∙ ap (λ due. first_fault due (index_fault c.args.offset (length c.args.self.rows))) c.in_ok-schema.ensures.refused ∙ none

pub returns-then-height-offset-clause-refused : goal.returns-then-height-offset-clause-refused
returns-then-height-offset-clause-refused c =
    let due = index_too_large c.args.offset (length c.args.self.rows) (omega arith) (omega arith) in
    ap (λ fields. first_fault (repeat_fault (field_of c.args.name types.Int ∷ fields)) (index_fault c.args.offset (length c.args.self.rows))) (sym c.into_parts-schema.ensures.schema)
    ∙ ap (λ found. first_fault found (index_fault c.args.offset (length c.args.self.rows))) c.in_ok-schema.ensures.refused ∙ due

pub framed-requires : goal.framed-requires
framed-requires c =
    let some : 0 < c.into_parts-schema.result.2 = omega arith in
    rw (c.in_ok-schema.ensures.ok, c.in_ok-columns.ensures.ok, c.in_ok-index.ensures.ok, c.into_parts-schema.ensures.schema)
    (framed-with_index c.args.self.schema c.args.name c.args.offset c.into_parts-schema.result.2 c.into_parts-schema.result.1.items some c.into_parts-schema.ensures.framed)

pub returns-clause-ok : goal.returns-clause-ok
returns-clause-ok c =
    rw (
      c.framed.ensures,
      c.in_ok-schema.ensures.ok,
      c.in_ok-columns.ensures.ok,
      c.in_ok-index.ensures.ok,
      c.into_parts-schema.ensures.schema,
      rows-with_index c.args.self.schema c.args.offset c.into_parts-schema.result.2 c.into_parts-schema.result.1.items c.into_parts-schema.ensures.framed,
      c.into_parts-schema.ensures.rows,
    ) refl

pub returns-clause-refused : goal.returns-clause-refused
returns-clause-refused c =
    let none = index_fits c.args.offset (length c.args.self.rows) (omega (arith, c.ranges.offset.fits)) in
    ap (λ fields. first_fault (repeat_fault (field_of c.args.name types.Int ∷ fields)) (index_fault c.args.offset (length c.args.self.rows))) (sym c.into_parts-schema.ensures.schema)
    ∙ ap (λ due. first_fault due (index_fault c.args.offset (length c.args.self.rows))) c.in_ok-schema.ensures.refused ∙ none
