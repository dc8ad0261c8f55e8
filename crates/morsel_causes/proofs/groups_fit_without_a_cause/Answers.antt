-- Rows whose groups fit.
use Rattle.morsel_causes.proofs.GroupLemmas.{groups_fit}
use Rattle.morsel_causes.proofs.groups_fit_without_a_cause.Goals as goal

pub returns : goal.returns
returns c = groups_fit
