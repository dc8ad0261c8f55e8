use Rattle.std.proofs.Common.{◌≡◌, ℕ, length, map, take}
use Rattle.morsel_meaning.specs.declared.value.Value.TheVariants as values
use Rattle.morsel_frame.specs.Columns.{masked}
use Rattle.morsel_keys.specs.declared.reduction.Reduction.TheVariants as ops
use Rattle.morsel_states.specs.GroupRows.{group_rows, with_group_rows}
use Rattle.morsel_states.proofs.sums.add_each.Given as goal

abbrev pub invariant-loop-i : goal.invariant-loop-i
invariant-loop-i l = record {
  len : length l.sums ≡ length l.initial.sums;
  done : (at : ℕ) → l.sums ≡ with_group_rows ops.Sum l.initial.sums (take l.i (group_rows at l.groups (masked l.valid (map values.Int l.numbers))));
}
