use Rattle.std.proofs.Common.{arith, ◌≡◌, ◌<◌, [], refl}
use Rattle.std.proofs.lemmas.List.{nil_from_length}
use Rattle.morsel_frame.proofs.FrameLemmas.{length-fit}
use Rattle.morsel_frame.proofs.RowLemmas.{framed_rows-fit}
use Rattle.morsel_frame.proofs.SelectLemmas.{framed-places, rows-at_places}
use Rattle.morsel_frame.proofs.frame.Frame.select.Goals as goal

pub returns-then-height-eq0-clause-ok : goal.returns-then-height-eq0-clause-ok
returns-then-height-eq0-clause-ok c =
    let none : c.args.self.rows ≡ [] = nil_from_length c.args.self.rows (omega arith) in
    rw (c.empty.ensures, c.in_ok-schema.ensures.ok, c.into_parts-schema.ensures.schema, none) refl

pub take_columns-requires-clause-within : goal.take_columns-requires-clause-within
take_columns-requires-clause-within c =
    let some : 0 < c.into_parts-schema.result.2 = omega arith in
    let fit = framed_rows-fit c.args.self.schema c.into_parts-schema.result.2 c.into_parts-schema.result.1.items some c.into_parts-schema.ensures.framed in
    let lens = length-fit c.args.self.schema c.into_parts-schema.result.2 c.into_parts-schema.result.1.items fit in
    λ k d inside. omega (arith, c.requires.within k d inside, lens)

pub framed-requires : goal.framed-requires
framed-requires c =
    let some : 0 < c.into_parts-schema.result.2 = omega arith in
    rw (c.in_ok-schema.ensures.ok, c.in_ok-picked.ensures.ok, c.into_parts-schema.ensures.schema)
    (framed-places c.args.self.schema c.into_parts-schema.result.2 c.into_parts-schema.result.1.items c.args.columns.now
    (framed_rows-fit c.args.self.schema c.into_parts-schema.result.2 c.into_parts-schema.result.1.items some c.into_parts-schema.ensures.framed)
    c.into_parts-schema.ensures.framed.typed c.requires.within)

pub returns-clause-ok : goal.returns-clause-ok
returns-clause-ok c =
    let some : 0 < c.into_parts-schema.result.2 = omega arith in
    rw (
      c.framed.ensures,
      c.in_ok-schema.ensures.ok,
      c.in_ok-picked.ensures.ok,
      c.into_parts-schema.ensures.schema,
      rows-at_places c.args.self.schema c.into_parts-schema.result.2 c.into_parts-schema.result.1.items c.args.columns.now
          (framed_rows-fit c.args.self.schema c.into_parts-schema.result.2 c.into_parts-schema.result.1.items some c.into_parts-schema.ensures.framed) c.requires.within,
      c.into_parts-schema.ensures.rows,
    ) refl
