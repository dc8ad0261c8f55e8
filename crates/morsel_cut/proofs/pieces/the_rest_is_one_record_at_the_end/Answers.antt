use Rattle.morsel_cut.proofs.PieceWholeLemmas.{ends_with_rest}
use Rattle.morsel_cut.proofs.pieces.the_rest_is_one_record_at_the_end.Goals as goal

pub returns : goal.returns
returns c = λ o fit. ends_with_rest o fit
