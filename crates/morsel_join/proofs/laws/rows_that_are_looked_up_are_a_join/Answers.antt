use Rattle.morsel_join.proofs.SideLemmas.{found-append, alone-alike}
use Rattle.morsel_join.proofs.SideJoins.{joined-by-side, alone-any-order}
use Rattle.morsel_join.proofs.laws.rows_that_are_looked_up_are_a_join.Goals as goal

pub returns-clause-parts : goal.returns-clause-parts
returns-clause-parts c = found-append

pub returns-clause-join : goal.returns-clause-join
returns-clause-join c = joined-by-side

pub returns-clause-alike : goal.returns-clause-alike
returns-clause-alike c = alone-alike

pub returns-clause-any_order : goal.returns-clause-any_order
returns-clause-any_order c = alone-any-order
