-- How many places there are.
use Rattle.morsel_scan.proofs.AxisRowLemmas.{has_each_byte}
use Rattle.morsel_scan.proofs.place_laws.each_byte_has_its_place.Goals as goal

pub returns : goal.returns
returns c = λ s fit. has_each_byte s fit
