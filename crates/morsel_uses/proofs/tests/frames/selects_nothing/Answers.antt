use Rattle.std.specs.List.{IsDistinct}
use Rattle.morsel_uses.proofs.tests.frames.selects_nothing.Goals as goal

pub select-requires-clause-once : goal.select-requires-clause-once
unfolding IsDistinct
select-requires-clause-once g c = tt
