-- Files that have rows.
use Rattle.morsel_causes.proofs.ValidLemmas.{files_with_rows}
use Rattle.morsel_causes.proofs.files_with_rows_are_of_the_grammar.Goals as goal

pub returns : goal.returns
returns c = files_with_rows
