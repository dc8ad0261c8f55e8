use Rattle.morsel_cut.proofs.PieceReadLemmas.{stops_at_open_end}
use Rattle.morsel_cut.proofs.pieces.a_file_stops_at_an_open_end.Goals as goal

pub returns : goal.returns
returns c = λ o fit. stops_at_open_end o fit
