use Rattle.morsel_group_phases.proofs.PhaseLemmas.{taken_ends}
use Rattle.morsel_group_phases.proofs.phase.GroupPhase.taken_to.Goals as goal

pub returns-in-Sink-clause-to : goal.returns-in-Sink-clause-to
returns-in-Sink-clause-to g c = λ job is. taken_ends c.args.self.now c.in-Sink.sink c.taken_to.result c.in-Sink.is c.taken_to.ensures job is
