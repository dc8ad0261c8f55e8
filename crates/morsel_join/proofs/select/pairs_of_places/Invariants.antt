use Rattle.std.proofs.Common.{◌≡◌, ◌++◌, drop}
use Rattle.morsel_join.specs.Payloads.{pairs_of_places}
use Rattle.morsel_join.proofs.select.pairs_of_places.Given as goal

abbrev pub invariant-loop-at : goal.invariant-loop-at
invariant-loop-at l = l.pairs.items ++ pairs_of_places (drop l.at l.lefts) (drop l.at l.rights) ≡ pairs_of_places l.lefts l.rights
