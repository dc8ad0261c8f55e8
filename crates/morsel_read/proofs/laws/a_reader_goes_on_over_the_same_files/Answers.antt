-- The same files in another outside.
use Rattle.morsel_read.proofs.LawLemmas.{goes_on_over}
use Rattle.morsel_read.proofs.laws.a_reader_goes_on_over_the_same_files.Goals as goal

pub returns : goal.returns
returns c = goes_on_over
