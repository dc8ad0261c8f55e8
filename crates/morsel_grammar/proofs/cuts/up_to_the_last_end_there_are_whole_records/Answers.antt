use Rattle.morsel_grammar.proofs.CutLemmas.{cuts_after_whole}
use Rattle.morsel_grammar.proofs.cuts.up_to_the_last_end_there_are_whole_records.Goals as goal

pub returns : goal.returns
returns c = λ o fit. cuts_after_whole o fit
