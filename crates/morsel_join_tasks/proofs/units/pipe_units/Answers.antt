use Rattle.morsel_join_tasks.proofs.FaultLemmas.{memory_fault}
use Rattle.morsel_join_tasks.proofs.units.pipe_units.Goals as goal

pub returns-clause-tasks : goal.returns-clause-tasks
returns-clause-tasks g c = record {
  owed = c.in_ok-tasks.ensures.no_fault;
  polled = c.in_ok-tasks.ensures.can_poll;
  faults = λ fault is. memory_fault c.args.lane.now fault is;
}
