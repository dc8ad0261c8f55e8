use Rattle.std.proofs.Common.{◌≡◌, drop}
use Rattle.morsel_frame.specs.Tables.{first_difference}
use Rattle.morsel_frame.proofs.mismatch.first_mismatch.Given as goal

abbrev pub invariant-loop-at : goal.invariant-loop-at
invariant-loop-at l = first_difference l.fields l.others ≡ first_difference (drop l.at l.fields) (drop l.at l.others)
