use Rattle.std.proofs.Common.{rules, arith}
use Rattle.morsel_frame.proofs.ColumnLemmas.{length-marks, length-kept, masked-append, masked-range}
use Rattle.morsel_frame.proofs.column.Column.append_rows.Goals as goal

pub append_range-requires-clause-within : goal.append_range-requires-clause-within
append_range-requires-clause-within c =
    omega (arith, length-kept c.other.inside.packed c.other.inside.valid.items c.args.other.now c.other.invariant c.other.view_is, c.requires.within)

pub append_slice-requires-clause-within : goal.append_slice-requires-clause-within
append_slice-requires-clause-within c =
    omega (arith, length-marks c.other.inside.packed c.other.inside.valid.items c.args.other.now c.other.invariant c.other.view_is, c.requires.within)

pub returns-clause-ok : goal.returns-clause-ok
returns-clause-ok c =
    rw (← c.self.view_is, ← c.other.view_is, c.in_ok-append_slice.ensures.ok, c.in_ok-reserve.ensures.items, c.in_ok-append_range.ensures.items, c.in_ok-append_range.ensures.kind)
    (rw (masked-append _ _ _ _ c.self.invariant, masked-range) (search rules))
