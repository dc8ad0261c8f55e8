use Rattle.std.proofs.Common.{drop}
use Rattle.morsel_group_units.specs.TakenLoads.{PlacesRise}
use Rattle.morsel_group_units.proofs.order.rise.Given as goal

abbrev pub invariant-loop-load : goal.invariant-loop-load
invariant-loop-load l = PlacesRise l.at (drop l.load-index l.loads) → PlacesRise 0 l.loads
