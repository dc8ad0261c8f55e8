use Rattle.std.proofs.Common.{◌≡◌, ◌++◌, drop}
use Rattle.morsel_scan.specs.Decoding.{true_places}
use Rattle.morsel_scan.proofs.source_marks.places_of.Given as goal

abbrev pub invariant-loop-at : goal.invariant-loop-at
invariant-loop-at l = l.places.items ++ true_places l.at (drop l.at l.mask) ≡ true_places 0 l.mask
