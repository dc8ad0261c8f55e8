use Rattle.std.proofs.Common.{◌≡◌, ◌≤◌, length, max}
use Rattle.morsel_states.specs.States.{with_groups}
use Rattle.morsel_states.proofs.bounds.grow_bounds.Given as goal

abbrev pub invariant-loop-at : goal.invariant-loop-at
invariant-loop-at l = record {
  after : length l.initial.bounds.items ≤ l.at;
  within : l.at ≤ max (length l.initial.bounds.items) l.groups;
  done : l.bounds.items ≡ with_groups l.at l.initial.bounds.items;
}
