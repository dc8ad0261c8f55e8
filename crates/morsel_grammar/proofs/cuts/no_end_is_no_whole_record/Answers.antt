use Rattle.morsel_grammar.proofs.CutLemmas.{finds_no_end}
use Rattle.morsel_grammar.proofs.cuts.no_end_is_no_whole_record.Goals as goal

pub returns : goal.returns
returns c = λ o fit. finds_no_end o fit
