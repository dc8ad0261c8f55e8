use Rattle.std.proofs.Common.{arith, ◌≡◌, ◌<◌, [], refl}
use Rattle.std.proofs.lemmas.List.{nil_from_length}
use Rattle.morsel_frame.proofs.BesideLemmas.{framed-with_text, rows-with_text}
use Rattle.morsel_frame.proofs.frame.Frame.with_text_column.Goals as goal

pub returns-then-height-eq0-clause-ok : goal.returns-then-height-eq0-clause-ok
returns-then-height-eq0-clause-ok c =
    let none : c.args.self.rows ≡ [] = nil_from_length c.args.self.rows (omega arith) in
    rw (c.empty.ensures, c.in_ok-schema.ensures.ok, c.into_parts-schema.ensures.schema, none) refl

pub framed-requires : goal.framed-requires
framed-requires c =
    let some : 0 < c.into_parts-schema.result.2 = omega arith in
    rw (c.in_ok-schema.ensures.ok, c.in_ok-push.ensures.items, c.in_ok-repeated_text.ensures.ok, c.into_parts-schema.ensures.schema)
    (framed-with_text c.args.self.schema c.args.name c.args.value.now c.into_parts-schema.result.2 c.into_parts-schema.result.1.items some c.into_parts-schema.ensures.framed)

pub returns-clause-ok : goal.returns-clause-ok
returns-clause-ok c =
    rw (
      c.framed.ensures,
      c.in_ok-schema.ensures.ok,
      c.in_ok-push.ensures.items,
      c.in_ok-repeated_text.ensures.ok,
      c.into_parts-schema.ensures.schema,
      rows-with_text c.args.self.schema c.args.name c.args.value.now c.into_parts-schema.result.2 c.into_parts-schema.result.1.items c.into_parts-schema.ensures.framed,
      c.into_parts-schema.ensures.rows,
    ) refl
