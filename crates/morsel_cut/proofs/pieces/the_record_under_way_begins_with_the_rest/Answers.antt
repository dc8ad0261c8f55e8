use Rattle.morsel_cut.proofs.PieceWholeLemmas.{begins_with_rest}
use Rattle.morsel_cut.proofs.pieces.the_record_under_way_begins_with_the_rest.Goals as goal

pub returns : goal.returns
returns c = λ o fit. begins_with_rest o fit
