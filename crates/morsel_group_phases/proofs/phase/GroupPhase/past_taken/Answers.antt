use Rattle.std.proofs.Common.{◌≡◌, ◌⊎◌, sym, subst}
use Rattle.morsel_meaning.specs.declared.fault.Fault.TheVariants.{OutOfMemory}
use Rattle.morsel_group_phases.specs.GroupPhases.{IsFaultOfGroups}
use Rattle.morsel_group_phases.proofs.phase.GroupPhase.past_taken.Goals as goal

pub returns-in-Err-clause-refused : goal.returns-in-Err-clause-refused
returns-in-Err-clause-refused g c = subst (λ phase. (c.in-Err.fault ≡ OutOfMemory) ⊎ IsFaultOfGroups g.J.RowsJob.yields phase c.in-Err.fault) (sym c.in-Sink.is) c.in-Err.ensures.refused
