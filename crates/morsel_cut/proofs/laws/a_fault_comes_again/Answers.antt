use Rattle.morsel_cut.proofs.CuttingLemmas.{keeps_faults}
use Rattle.morsel_cut.proofs.laws.a_fault_comes_again.Goals as goal

pub returns : goal.returns
returns c = keeps_faults
