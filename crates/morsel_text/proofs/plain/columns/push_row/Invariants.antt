use Rattle.std.proofs.Common.{◌≡◌, length, drop}
use Rattle.morsel_meaning.specs.Values.{FitsRow}
use Rattle.morsel_text.specs.Pushes.{column_kinds}
use Rattle.morsel_text.specs.Plain.{with_values}
use Rattle.morsel_text.proofs.PlainLemmas.{put_to}
use Rattle.morsel_text.proofs.plain.columns.push_row.Given as goal

abbrev pub invariant-loop-at : goal.invariant-loop-at
invariant-loop-at l = record {
  so_far : put_to l.at l.columns.items l.values ≡ with_values l.fn.columns.items l.values;
  fits : FitsRow (column_kinds (drop l.at l.columns.items)) (drop l.at l.values);
  width : length l.columns.items ≡ length l.values;
}
