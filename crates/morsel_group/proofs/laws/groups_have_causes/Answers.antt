use Rattle.morsel_group.proofs.CauseLemmas.{groups_have, sums_have}
use Rattle.morsel_group.proofs.FitLemmas.{rows_have}
use Rattle.morsel_group.proofs.laws.groups_have_causes.Goals as goal

pub returns-clause-groups : goal.returns-clause-groups
returns-clause-groups c = groups_have

pub returns-clause-sums : goal.returns-clause-sums
returns-clause-sums c = sums_have

pub returns-clause-fit : goal.returns-clause-fit
returns-clause-fit c = rows_have
