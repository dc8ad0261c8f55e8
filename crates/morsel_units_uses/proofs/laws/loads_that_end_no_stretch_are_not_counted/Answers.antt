use Rattle.morsel_units_uses.proofs.UncountedLemmas.{adds_no_stretch, bounds_no_number, has_some}
use Rattle.morsel_units_uses.proofs.laws.loads_that_end_no_stretch_are_not_counted.Goals as goal

pub returns-clause-uncounted : goal.returns-clause-uncounted
returns-clause-uncounted given c = adds_no_stretch

pub returns-clause-unbounded : goal.returns-clause-unbounded
returns-clause-unbounded given c = bounds_no_number _

pub returns-clause-some : goal.returns-clause-some
returns-clause-some given c = has_some
