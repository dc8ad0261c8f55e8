-- The cause where there are no rows.
use Rattle.morsel_causes.proofs.CauseLemmas.{scan_cause}
use Rattle.morsel_causes.proofs.files_without_rows_have_a_cause.Goals as goal

pub returns : goal.returns
returns c = scan_cause
