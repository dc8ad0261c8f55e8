use Rattle.std.proofs.Common.{◌≡◌, [], replicate}
use Rattle.morsel_text.proofs.batch.empty_batch.Given as goal

abbrev pub invariant-loop : goal.invariant-loop
invariant-loop l = l.batch.items ≡ replicate l.counter []
