use Rattle.morsel_scan.proofs.StretchLemmas.{gives_faults}
use Rattle.morsel_scan.proofs.place_laws.a_fault_is_that_of_a_place.Goals as goal

pub returns : goal.returns
returns c = gives_faults
