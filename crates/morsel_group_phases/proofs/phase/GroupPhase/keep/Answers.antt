use Rattle.std.proofs.Common.{ap}
use Rattle.morsel_group_phases.specs.GroupPhases.{group_job, group_rules}
use Rattle.morsel_group_phases.proofs.phase.GroupPhase.keep.Goals as goal

pub keep-requires : goal.keep-requires
keep-requires g c = record {
  rules = (rw c.in-Some.is at c.requires.rules) c.in-Sink.sink.taken.rules (ap group_rules c.in-Sink.is);
  suits = (rw c.in-Some.is at c.requires.suits) c.in-Sink.sink.job.value (ap group_job c.in-Sink.is);
}
