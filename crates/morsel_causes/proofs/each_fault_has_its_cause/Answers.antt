-- The cause of a fault.
use Rattle.morsel_causes.proofs.CauseLemmas.{each_cause}
use Rattle.morsel_causes.proofs.each_fault_has_its_cause.Goals as goal

pub returns : goal.returns
returns c = each_cause
