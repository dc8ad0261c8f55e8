use Rattle.std.specs.Prelude.{refl}
use Rattle.std.specs.List.{IsDistinct}
use Rattle.morsel_uses.proofs.tests.frames.selects_two.Goals as goal

pub select-requires-clause-once : goal.select-requires-clause-once
unfolding IsDistinct
select-requires-clause-once g c = ((refl, tt), (tt, tt))
