use Rattle.std.proofs.Common.{◌≡◌, ◌≤◌, length, max}
use Rattle.morsel_states.specs.States.{with_groups}
use Rattle.morsel_states.proofs.picks.grow_picks.Given as goal

abbrev pub invariant-loop-at : goal.invariant-loop-at
invariant-loop-at l = record {
  after : length l.initial.picks.items ≤ l.at;
  within : l.at ≤ max (length l.initial.picks.items) l.groups;
  done : l.picks.items ≡ with_groups l.at l.initial.picks.items;
}
