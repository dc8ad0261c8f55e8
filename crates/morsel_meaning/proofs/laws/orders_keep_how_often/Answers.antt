use Rattle.morsel_meaning.proofs.OftenLemmas.{keeps_often, joins_often, rises_alike}
use Rattle.morsel_meaning.proofs.laws.orders_keep_how_often.Goals as goal

pub returns-clause-permuted : goal.returns-clause-permuted
returns-clause-permuted given c = keeps_often

pub returns-clause-joined : goal.returns-clause-joined
returns-clause-joined given c = joins_often

pub returns-clause-rising : goal.returns-clause-rising
returns-clause-rising given c = rises_alike
