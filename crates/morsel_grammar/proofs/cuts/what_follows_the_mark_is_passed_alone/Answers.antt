use Rattle.morsel_grammar.proofs.OpeningCutLemmas.{passes_mark}
use Rattle.morsel_grammar.proofs.cuts.what_follows_the_mark_is_passed_alone.Goals as goal

pub returns : goal.returns
returns c = λ o fit. passes_mark o fit
