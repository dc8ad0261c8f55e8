use Rattle.std.proofs.Common.{◌≡◌, ◌≤◌, length, max}
use Rattle.morsel_states.specs.States.{with_groups}
use Rattle.morsel_states.proofs.lens.grow_lens.Given as goal

abbrev pub invariant-loop-at : goal.invariant-loop-at
invariant-loop-at l = record {
  after : length l.initial.lens.items ≤ l.at;
  within : l.at ≤ max (length l.initial.lens.items) l.groups;
  done : l.lens.items ≡ with_groups l.at l.initial.lens.items;
}
