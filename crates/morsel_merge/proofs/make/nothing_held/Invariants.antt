use Rattle.std.proofs.Common.{◌≡◌, ◌≤◌, vec_capacity, vec_len}
use Rattle.morsel_merge.specs.Merging.{AreNone}
use Rattle.morsel_merge.proofs.make.nothing_held.Given as goal

abbrev pub invariant-places : goal.invariant-places
invariant-places g l = record {
  len : vec_len l.held ≡ l.counter;
  room : l.count ≤ vec_capacity l.held;
  none : AreNone l.held.items;
}
