use Rattle.std.proofs.Common.{take}
use Rattle.morsel_text.specs.Pushes.{column_kinds}
use Rattle.morsel_text.specs.Batches.{AreMade}
use Rattle.morsel_text.proofs.batch.made_columns.Given as goal

abbrev pub invariant-loop-at : goal.invariant-loop-at
invariant-loop-at l = AreMade l.options (take l.at l.used) (take l.at (column_kinds l.columns)) (take l.at l.batch) l.made.items
