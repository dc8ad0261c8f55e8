use Rattle.std.proofs.Common.{◌≡◌, ℕ, List, length, take}
use Rattle.morsel_meaning.specs.declared.value.Value.{Value}
use Rattle.morsel_keys.specs.declared.reduction.Reduction.TheVariants as ops
use Rattle.morsel_states.specs.GroupParts.{AreWithinLimit}
use Rattle.morsel_states.specs.GroupRows.{group_rows, with_group_rows}
use Rattle.morsel_states.proofs.lens.count_each.Given as goal

abbrev pub invariant-loop-i : goal.invariant-loop-i
invariant-loop-i l = record {
  len : length l.lens ≡ length l.initial.lens;
  room : AreWithinLimit (take l.i l.groups) l.lens;
  done : (at : ℕ) (vs : List Value) → length vs ≡ length l.groups → l.lens ≡ with_group_rows ops.Len l.initial.lens (take l.i (group_rows at l.groups vs));
}
