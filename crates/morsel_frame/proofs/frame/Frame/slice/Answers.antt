use Rattle.std.proofs.Common.{rules, arith, ◌+◌, refl}
use Rattle.morsel_frame.specs.Frames.{rows_of}
use Rattle.morsel_frame.proofs.FrameLemmas.{length-framed}
use Rattle.morsel_frame.proofs.RowLemmas.{level-tall, framed-level, framed-range, rows-range, clamped}
use Rattle.morsel_frame.proofs.frame.Frame.slice.Goals as goal

pub range_of_each-requires-clause-within : goal.range_of_each-requires-clause-within
range_of_each-requires-clause-within c =
    rw c.as_slice.ensures.value
    (level-tall c.self.inside.height (c.min-from.result + c.min-height.result) c.self.inside.columns.items (omega (arith, c.min-from.ensures, c.min-height.ensures))
    (framed-level c.self.inside.schema c.self.inside.height c.self.inside.columns.items c.self.invariant.0))

pub framed-requires : goal.framed-requires
framed-requires c =
    rw (c.in_ok-schema.ensures.same, c.in_ok-columns.ensures.ok, c.as_slice.ensures.value)
    (framed-range c.self.inside.schema c.self.inside.height c.min-from.result c.min-height.result (c.min-from.result + c.min-height.result) c.self.inside.columns.items (search rules) (omega (arith, c.min-from.ensures, c.min-height.ensures)) c.self.invariant.0)

pub returns-clause-ok : goal.returns-clause-ok
returns-clause-ok c =
    let lens = length-framed c.self.inside.schema c.self.inside.height c.self.inside.columns.items c.self.invariant.0 in
    let ranges = rows-range c.self.inside.height c.min-from.result c.min-height.result (c.min-from.result + c.min-height.result) c.self.inside.columns.items refl (omega (arith, c.min-from.ensures, c.min-height.ensures)) in
    let cut = clamped (rows_of c.self.inside.height c.self.inside.columns.items) c.args.offset c.args.len c.self.inside.height c.min-from.result c.min-height.result lens (omega (arith, c.min-from.ensures)) (omega (arith, c.min-height.ensures)) in
    rw (← c.self.view_is, c.framed.ensures, c.in_ok-schema.ensures.same, c.in_ok-columns.ensures.ok, c.as_slice.ensures.value, ranges, cut) refl
