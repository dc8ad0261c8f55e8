-- Files without a cause of a fault.
use Rattle.morsel_causes.proofs.NoCauseLemmas.{no_cause}
use Rattle.morsel_causes.proofs.files_with_rows_have_no_cause.Goals as goal

pub returns : goal.returns
returns c = no_cause
