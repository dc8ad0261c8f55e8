use Rattle.morsel_group_phases.proofs.PhaseLemmas.{gives_groups}
use Rattle.morsel_group_phases.proofs.phase.GroupPhase.frame.Goals as goal

pub returns-in-Source-clause-grouped : goal.returns-in-Source-clause-grouped
returns-in-Source-clause-grouped g c = λ rules are. gives_groups g.J.RowsJob.yields c.args.self.now c.in-Source.source c.frame.result.now c.in-Source.is c.frame.ensures.rows c.frame.ensures.grouped c.in-Source.source.took rules are
