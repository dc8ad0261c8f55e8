use Rattle.std.proofs.Common.{rules}
use Rattle.morsel_group_units.specs.TakenLoads.{PlacesRise}
use Rattle.morsel_group_units.proofs.FollowLemmas.{rise_next}
use Rattle.morsel_group_units.proofs.order.rise.Goals as goal

pub loop-load-preserved : goal.loop-load-preserved
loop-load-preserved c = rise_next c.loop-load.at c.in-Some.end c.args.loads.now c.loop-load.load-index c.load-item.result (PlacesRise 0 c.args.loads.now) c.loop-load-test.true c.load-item.is (search rules) (search rules) c.loop-load.invariant
