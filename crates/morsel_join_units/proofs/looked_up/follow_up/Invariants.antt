use Rattle.std.proofs.Common.{◌≡◌, ◌++◌, map}
use Rattle.std.specs.Vec.Iter.{into_iter_items}
use Rattle.morsel_join_units.specs.LookedUps.{looked_rows}
use Rattle.morsel_join_units.specs.RowKeepers.{FollowUp}
use Rattle.morsel_join_units.proofs.looked_up.follow_up.Given as goal

abbrev pub invariant-loop-one : goal.invariant-loop-one
invariant-loop-one l = record {
  every : l.yielded ++ into_iter_items l.one-iterator ≡ l.fn.looked.items;
  follow : FollowUp (map looked_rows l.yielded) 0 l.at;
}
