use Rattle.std.proofs.Common.{◌≡◌, ◌++◌, length, take, drop}
use Rattle.morsel_text.specs.Batches.{spread}
use Rattle.morsel_text.proofs.batch.spread.Given as goal

abbrev pub invariant-loop-at : goal.invariant-loop-at
invariant-loop-at l = record {
  so_far : take l.at l.batch.items ++ spread (drop l.at l.batch.items) (drop l.at l.fields) ≡ spread l.fn.batch.items l.fields;
  width : length l.batch.items ≡ length l.fields;
}
