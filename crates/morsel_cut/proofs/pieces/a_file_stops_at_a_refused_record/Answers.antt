use Rattle.morsel_cut.proofs.PieceReadLemmas.{stops_at_refused}
use Rattle.morsel_cut.proofs.pieces.a_file_stops_at_a_refused_record.Goals as goal

pub returns : goal.returns
returns c = λ o fit. stops_at_refused o fit
