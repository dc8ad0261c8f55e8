use Rattle.std.proofs.Common.{◌-◌, take, length}
use Rattle.morsel_text.specs.Pushes.{column_kinds}
use Rattle.morsel_text.specs.Batches.{AreMade}
use Rattle.morsel_text.specs.MarkedReads.{field_of_mark, raw_of, raw_columns}
use Rattle.morsel_text.proofs.marked.values_by_marks.Given as goal

abbrev pub invariant-loop-at : goal.invariant-loop-at
invariant-loop-at l =
    AreMade l.marked.options.now (take l.at l.used) (take l.at (column_kinds l.columns))
    (take l.at (raw_columns (λ j. raw_of (field_of_mark l.marked.options.now l.marked.text.now l.marked.marks.now j)) (length l.columns - 1) l.rows)) l.made.items
