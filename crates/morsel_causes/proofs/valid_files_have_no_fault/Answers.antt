-- Files without a fault.
use Rattle.morsel_causes.proofs.ValidLemmas.{valid_files}
use Rattle.morsel_causes.proofs.valid_files_have_no_fault.Goals as goal

pub returns : goal.returns
returns c = valid_files
