-- What the stretch of a piece gives.
use Rattle.morsel_scan.proofs.AxisEndLemmas.{gives_pieces}
use Rattle.morsel_scan.proofs.place_laws.a_stretch_gives_the_rows_of_its_piece.Goals as goal

pub returns : goal.returns
returns c = λ s fit. gives_pieces s fit
