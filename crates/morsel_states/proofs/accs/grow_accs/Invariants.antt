use Rattle.std.proofs.Common.{◌≡◌, ◌≤◌, ◌-◌, ◌++◌, None, length, max, replicate}
use Rattle.morsel_states.proofs.accs.grow_accs.Given as goal

abbrev pub invariant-loop-at : goal.invariant-loop-at
invariant-loop-at l = record {
  after : length l.initial.accs.items ≤ l.at;
  within : l.at ≤ max (length l.initial.accs.items) l.groups;
  done : l.accs.items ≡ l.initial.accs.items ++ replicate (l.at - length l.initial.accs.items) (record { op = l.op; kind = l.kind; entry = None });
}
