use Rattle.std.proofs.Common.{◌≡◌, ◌≤◌, ◌-◌, length}
use Rattle.morsel_join.specs.Cuts.{PutsUnmarked}
use Rattle.morsel_join.proofs.probe_some.put_lone_some.Given as goal

abbrev pub invariant-loop-at : goal.invariant-loop-at
invariant-loop-at l = record {
  put : PutsUnmarked l.seen l.numbers l.fn.from l.initial.lefts.items l.initial.rights.items l.lefts.items l.rights.items l.at;
  room : length l.lefts.items ≤ l.limit;
  len : length l.rights.items ≡ length l.lefts.items;
}

abbrev pub decreases-loop-at : goal.decreases-loop-at
decreases-loop-at l = length l.numbers - l.at
