use Rattle.std.proofs.Common.{◌≡◌, ◌++◌, map}
use Rattle.std.specs.Vec.Iter.{into_iter_items}
use Rattle.morsel_join_units.specs.RowKeepers.{FollowUp}
use Rattle.morsel_join_units.specs.declared.row_keeper.KeptRows.{KeptRows}
use Rattle.morsel_join_units.proofs.order.following.Given as goal

abbrev pub invariant-loop-rows : goal.invariant-loop-rows
invariant-loop-rows l = record {
  every : l.yielded ++ into_iter_items l.rows-iterator ≡ l.fn.kept.items;
  frames : l.frames.items ≡ map (λ (rows : KeptRows). rows.frame) l.yielded;
  follow : FollowUp l.yielded 0 l.at;
}
