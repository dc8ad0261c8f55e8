use Rattle.std.proofs.Common.{map}
use Rattle.morsel_rows_job.specs.RowsJobs.{FollowCuts}
use Rattle.morsel_group_units.specs.TakenLoads.{taken_cut}
use Rattle.morsel_group_units.proofs.FollowLemmas.{follow_first, follow_next}
use Rattle.morsel_group_units.proofs.order.follow_up.Goals as goal

pub loop-load-init : goal.loop-load-init
loop-load-init c goes = follow_first (map taken_cut c.args.loads.now) c.args.to goes

pub loop-load-preserved : goal.loop-load-preserved
loop-load-preserved c = follow_next c.loop-load.next c.in_ok-next.next c.args.loads.now c.loop-load.load-index c.load-item.result c.args.to (FollowCuts (map taken_cut c.args.loads.now) c.args.to) c.loop-load-test.true c.load-item.is c.in_ok-next.ensures.goes_on c.loop-load.invariant
