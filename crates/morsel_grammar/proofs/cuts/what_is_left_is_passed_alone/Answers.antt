use Rattle.morsel_grammar.proofs.CutLemmas.{passes_what_is_left}
use Rattle.morsel_grammar.proofs.cuts.what_is_left_is_passed_alone.Goals as goal

pub returns : goal.returns
returns c = λ o fit. passes_what_is_left o fit
