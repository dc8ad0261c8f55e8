use Rattle.std.proofs.Common.{◌≡◌, ◌+◌, ◌*◌, length, take}
use Rattle.morsel_meaning.specs.declared.value.ColType.TheVariants as types
use Rattle.morsel_meaning.specs.declared.value.Value.TheVariants as values
use Rattle.morsel_text.specs.MarkedColumns.{column_fields}
use Rattle.morsel_text.proofs.MarkedLemmas.{CellsMore}
use Rattle.morsel_text.proofs.marked_texts.marked_texts.Given as goal

abbrev pub invariant-loop-row : goal.invariant-loop-row
invariant-loop-row l = record {
  cells : CellsMore values.Text l.marked.options.now types.Text
      (column_fields l.marked.options.now l.is_last l.marked.text.now l.marked.marks.now l.first l.width l.row) (take l.row l.valid.items) l.texts;
  place : l.j ≡ l.row * l.width + l.first;
  valid : length l.valid.items ≡ l.rows;
}
