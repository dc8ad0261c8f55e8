-- What is made of pieces one after the other.
use Rattle.morsel_scan.proofs.AxisEndLemmas.{scans_chained}
use Rattle.morsel_scan.proofs.place_laws.pieces_one_after_the_other_are_the_scan.Goals as goal

pub returns : goal.returns
returns c = λ s fit. scans_chained s fit
