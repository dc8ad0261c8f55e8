use Rattle.morsel_grammar.proofs.BegunLemmas.{refuses_for_good}
use Rattle.morsel_grammar.proofs.cuts.a_refused_record_stays_refused.Goals as goal

pub returns : goal.returns
returns c = λ o. refuses_for_good o
