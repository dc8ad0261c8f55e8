use Rattle.std.proofs.Common.{arith, ◌≡◌, ◌<◌, [], refl}
use Rattle.std.proofs.lemmas.List.{nil_from_length}
use Rattle.morsel_frame.proofs.BesideLemmas.{framed-hstack, rows-hstack}
use Rattle.morsel_frame.proofs.frame.Frame.hstack.Goals as goal

pub returns-then-height-eq0-clause-ok : goal.returns-then-height-eq0-clause-ok
returns-then-height-eq0-clause-ok c =
    let none : c.args.self.rows ≡ [] = nil_from_length c.args.self.rows (omega arith) in
    rw (c.empty.ensures, c.in_ok-schema.ensures.ok, c.into_parts-schema.ensures.schema, c.into_parts-other_schema.ensures.schema, none) refl

pub framed-requires : goal.framed-requires
framed-requires c =
    let same : c.into_parts-other_schema.result.2 ≡ c.into_parts-schema.result.2 = omega arith in
    let some : 0 < c.into_parts-schema.result.2 = omega arith in
    rw (c.in_ok-schema.ensures.ok, c.in_ok-append_vec.ensures.ok, c.into_parts-schema.ensures.schema, c.into_parts-other_schema.ensures.schema)
    (framed-hstack c.args.self.schema c.args.other.schema c.into_parts-schema.result.2 c.into_parts-other_schema.result.2 c.into_parts-schema.result.1.items c.into_parts-other_schema.result.1.items same some c.into_parts-schema.ensures.framed c.into_parts-other_schema.ensures.framed)

pub returns-clause-ok : goal.returns-clause-ok
returns-clause-ok c =
    let same : c.into_parts-other_schema.result.2 ≡ c.into_parts-schema.result.2 = omega arith in
    let some : 0 < c.into_parts-schema.result.2 = omega arith in
    rw (
      c.framed.ensures,
      c.in_ok-schema.ensures.ok,
      c.in_ok-append_vec.ensures.ok,
      c.into_parts-schema.ensures.schema,
      c.into_parts-other_schema.ensures.schema,
      rows-hstack c.args.other.schema c.into_parts-schema.result.2 c.into_parts-other_schema.result.2 c.into_parts-schema.result.1.items c.into_parts-other_schema.result.1.items same some c.into_parts-other_schema.ensures.framed,
      c.into_parts-schema.ensures.rows,
      c.into_parts-other_schema.ensures.rows,
    ) refl
