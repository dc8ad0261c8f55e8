use Rattle.morsel_grammar.proofs.FileLemmas.{reads_all_rows}
use Rattle.morsel_grammar.proofs.laws.a_text_with_rows_is_read_whole.Goals as goal

pub returns : goal.returns
returns c = λ o fit. reads_all_rows o fit
