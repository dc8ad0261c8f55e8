use Rattle.std.proofs.Common.{◌-◌, length}
use Rattle.morsel_join.specs.Chains.{AreLinked}
use Rattle.morsel_join.proofs.chains.chains.Given as goal

abbrev pub invariant-loop-back : goal.invariant-loop-back
invariant-loop-back l = AreLinked l.numbers l.first.items l.next.items (length l.numbers - l.back) l.keys
