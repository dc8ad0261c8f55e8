use Rattle.std.proofs.Common.{◌≡◌, length}
use Rattle.std.specs.Prelude.{IsUtf8}
use Rattle.morsel_text.specs.Batches.{SplitsBatch, AreTextColumns}
use Rattle.morsel_text.proofs.batch.split_rows.Given as goal

abbrev pub invariant-loop-row : goal.invariant-loop-row
invariant-loop-row l = record {
  so_far : SplitsBatch l.options l.fn.text l.fn.batch.items (l.rest, l.row) l.batch.items;
  width : length l.batch.items ≡ length l.fn.batch.items;
  utf8 : IsUtf8 l.rest;
  texts : AreTextColumns l.batch.items;
}
