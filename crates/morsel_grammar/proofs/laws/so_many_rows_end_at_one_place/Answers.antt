use Rattle.morsel_grammar.proofs.OneRowLemmas.{stands_once}
use Rattle.morsel_grammar.proofs.laws.so_many_rows_end_at_one_place.Goals as goal

pub returns : goal.returns
returns c = λ o fit. stands_once o fit
