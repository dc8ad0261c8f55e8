use Rattle.std.proofs.Common.{◌≡◌}
use Rattle.morsel_exec.specs.Permutation.{numbers_from}
use Rattle.morsel_exec.proofs.permutation.next_number.Given as goal

abbrev pub invariant-loop-at : goal.invariant-loop-at
invariant-loop-at l = numbers_from l.plan l.at ≡ numbers_from l.plan l.initial.place
