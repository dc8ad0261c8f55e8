use Rattle.std.proofs.Common.{◌≡◌, drop, max}
use Rattle.morsel_group_units.specs.TakenLoads.{greatest_place}
use Rattle.morsel_group_units.proofs.order.greatest_end.Given as goal

abbrev pub invariant-loop-load : goal.invariant-loop-load
invariant-loop-load l = max l.end (greatest_place (drop l.load-index l.loads)) ≡ greatest_place l.loads
