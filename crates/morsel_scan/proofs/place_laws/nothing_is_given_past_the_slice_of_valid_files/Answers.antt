-- What places past the slice give, of files of the grammar.
use Rattle.morsel_scan.proofs.UnreadLemmas.{gives_nothing_of_grammar}
use Rattle.morsel_scan.proofs.place_laws.nothing_is_given_past_the_slice_of_valid_files.Goals as goal

pub returns : goal.returns
returns c = λ s fit. gives_nothing_of_grammar s fit
