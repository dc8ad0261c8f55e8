use Rattle.morsel_meaning.proofs.OrderLemmas.{value_cmp_total}
use Rattle.morsel_meaning.proofs.laws.values_are_ordered.Goals as goal

pub returns-clause-total : goal.returns-clause-total
returns-clause-total c = value_cmp_total
