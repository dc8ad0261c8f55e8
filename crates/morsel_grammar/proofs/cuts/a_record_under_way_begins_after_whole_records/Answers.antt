use Rattle.morsel_grammar.proofs.CutLemmas.{begins_after_whole}
use Rattle.morsel_grammar.proofs.cuts.a_record_under_way_begins_after_whole_records.Goals as goal

pub returns : goal.returns
returns c = λ o fit. begins_after_whole o fit
