use Rattle.std.proofs.Common.{◌≡◌, ◌≤◌, length, max}
use Rattle.morsel_states.specs.States.{with_groups}
use Rattle.morsel_states.proofs.sums.grow_sums.Given as goal

abbrev pub invariant-loop-at : goal.invariant-loop-at
invariant-loop-at l = record {
  after : length l.initial.sums.items ≤ l.at;
  within : l.at ≤ max (length l.initial.sums.items) l.groups;
  done : l.sums.items ≡ with_groups l.at l.initial.sums.items;
}
