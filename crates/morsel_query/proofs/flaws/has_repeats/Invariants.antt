use Rattle.std.proofs.Common.{◌≡◌, drop}
use Rattle.morsel_query.specs.QueryFlaws.{has_repeats}
use Rattle.morsel_query.proofs.flaws.has_repeats.Given as goal

abbrev pub invariant-loop-at : goal.invariant-loop-at
invariant-loop-at l = has_repeats l.names ≡ has_repeats (drop l.at l.names)
