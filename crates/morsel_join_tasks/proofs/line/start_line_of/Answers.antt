use Rattle.std.proofs.Common.{sym, subst}
use Rattle.morsel_scan_units.specs.LaneJobs.{LaneFor, IsUnitFault}
use Rattle.morsel_join_tasks.proofs.line.start_line_of.Goals as goal

pub new-requires-clause-fails : goal.new-requires-clause-fails
new-requires-clause-fails g c fault fails =
    let take = rw (sym c.in-Some.ensures.value) at c.requires.take in
    let tasks = rw (sym c.in-Some.ensures.value) at c.requires.tasks in
    subst (λ (lane : LaneFor). IsUnitFault lane fault) (sym take.1)
    (tasks.faults fault (subst (λ (stage : g.row.S.Denot). g.S.Stage.fails stage fault) c.in_ok-local.ensures.stage fails))
