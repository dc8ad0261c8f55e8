use Rattle.std.proofs.Common.{drop, map}
use Rattle.morsel_rows_job.specs.RowsJobs.{FollowCuts}
use Rattle.morsel_group_units.specs.TakenLoads.{taken_cut}
use Rattle.morsel_group_units.proofs.FollowLemmas.{GoOnFrom}
use Rattle.morsel_group_units.proofs.order.follow_up.Given as goal

abbrev pub invariant-loop-load : goal.invariant-loop-load
invariant-loop-load l = GoOnFrom l.next (map taken_cut (drop l.load-index l.loads)) l.to → FollowCuts (map taken_cut l.loads) l.to
