use Rattle.std.proofs.Common.{◌≡◌, ◌++◌, length, take, drop}
use Rattle.morsel_text.specs.Pushes.{column_kinds}
use Rattle.morsel_text.specs.Batches.{appended}
use Rattle.morsel_text.proofs.batch.append_each.Given as goal

abbrev pub invariant-loop-at : goal.invariant-loop-at
invariant-loop-at l = record {
  so_far : take l.at l.columns.items ++ appended (drop l.at l.columns.items) (drop l.at l.made) ≡ appended l.fn.columns.items l.made;
  width : length l.columns.items ≡ length l.made;
  kinds : column_kinds l.columns.items ≡ column_kinds l.made;
}
