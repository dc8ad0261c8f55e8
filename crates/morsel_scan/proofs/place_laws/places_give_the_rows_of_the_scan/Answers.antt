-- The rows that all places give.
use Rattle.morsel_scan.proofs.AxisFileLemmas.{gives_scan_rows}
use Rattle.morsel_scan.proofs.place_laws.places_give_the_rows_of_the_scan.Goals as goal

pub returns : goal.returns
returns c = λ s fit. gives_scan_rows s fit
