use Rattle.morsel_cut.proofs.PieceLemmas.{cuts_by_chunk}
use Rattle.morsel_cut.proofs.pieces.a_chunk_with_an_end_ends_a_piece.Goals as goal

pub returns : goal.returns
returns c = λ o. cuts_by_chunk o
