use Rattle.morsel_grammar.proofs.ResultLemmas.{answers_all_rows}
use Rattle.morsel_grammar.proofs.laws.readers_answer_all_rows.Goals as goal

pub returns : goal.returns
returns c = λ o fit. answers_all_rows o fit
