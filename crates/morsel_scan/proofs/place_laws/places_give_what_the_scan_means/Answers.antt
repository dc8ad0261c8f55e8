-- What all places give.
use Rattle.morsel_scan.proofs.AxisFileLemmas.{gives_scan}
use Rattle.morsel_scan.proofs.place_laws.places_give_what_the_scan_means.Goals as goal

pub returns : goal.returns
returns c = λ s fit. gives_scan s fit
