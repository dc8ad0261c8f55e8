use Rattle.std.proofs.Common.{◌≡◌, map}
use Rattle.morsel_merge.proofs.inserter.inserters_of.Given as goal

abbrev pub invariant-loop-sender : goal.invariant-loop-sender
invariant-loop-sender g l = map (λ inserter. inserter.sender) l.inserters.items ≡ l.yielded
