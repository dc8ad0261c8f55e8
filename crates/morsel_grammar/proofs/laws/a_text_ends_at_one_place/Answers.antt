use Rattle.morsel_grammar.proofs.OneEndLemmas.{ends_once}
use Rattle.morsel_grammar.proofs.laws.a_text_ends_at_one_place.Goals as goal

pub returns : goal.returns
returns c = λ o fit. ends_once o fit
