use Rattle.morsel_grammar.proofs.CutLemmas.{may_cut_after_whole}
use Rattle.morsel_grammar.proofs.cuts.after_whole_records_a_text_may_be_cut.Goals as goal

pub returns : goal.returns
returns c = λ o fit. may_cut_after_whole o fit
