use Rattle.morsel_group_units.proofs.FollowLemmas.{greatest_next}
use Rattle.morsel_group_units.proofs.order.greatest_end.Goals as goal

pub loop-load-preserved : goal.loop-load-preserved
loop-load-preserved c = rw c.max-end.ensures (greatest_next c.loop-load.end c.args.loads.now c.loop-load.load-index c.load-item.result c.loop-load-test.true c.load-item.is c.loop-load.invariant)
