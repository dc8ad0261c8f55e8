use Rattle.std.proofs.Common.{rules, arith}
use Rattle.morsel_frame.specs.Packing.{stored, kind_of, blank_of}
use Rattle.morsel_frame.proofs.ColumnLemmas.{length-marks, length-kept, masked-append, masked-gather}
use Rattle.morsel_frame.proofs.column.Column.gather_below.Goals as goal

pub append_gather-requires-clause-within : goal.append_gather-requires-clause-within
append_gather-requires-clause-within g c =
    omega (arith, length-kept c.other.inside.packed c.other.inside.valid.items c.args.other.now c.other.invariant c.other.view_is, c.requires.within)

pub gather_slice-requires : goal.gather_slice-requires
gather_slice-requires g c =
    rw c.deref.ensures.value
    (omega (arith, length-marks c.other.inside.packed c.other.inside.valid.items c.args.other.now c.other.invariant c.other.view_is, c.requires.within))

pub returns-clause-ok : goal.returns-clause-ok
returns-clause-ok g c =
    rw (← c.self.view_is, ← c.other.view_is, c.in_ok-gather_slice.ensures.ok, c.in_ok-reserve.ensures.items, c.in_ok-append_gather.ensures.items, c.in_ok-append_gather.ensures.kind, c.deref.ensures.value)
    (rw (
      masked-append _ _ _ _ c.self.invariant,
      masked-gather c.other.inside.valid.items (stored c.other.inside.packed) c.args.limit g.R.RowNumber.place c.args.rows.now (blank_of (kind_of c.other.inside.packed)) c.other.invariant,
    ) (search rules))
