use Rattle.std.proofs.Common.{◌≡◌, ℕ, length, map, take}
use Rattle.morsel_meaning.specs.declared.value.Value.TheVariants as values
use Rattle.morsel_frame.specs.Columns.{masked}
use Rattle.morsel_states.specs.GroupRows.{group_rows, with_group_rows}
use Rattle.morsel_states.proofs.bounds.bound_each.Given as goal

abbrev pub invariant-loop-i : goal.invariant-loop-i
invariant-loop-i l = record {
  len : length l.bounds ≡ length l.initial.bounds;
  done : (at : ℕ) → l.bounds ≡ with_group_rows l.fn.op l.initial.bounds (take l.i (group_rows at l.groups (masked l.valid (map values.Int l.numbers))));
}
