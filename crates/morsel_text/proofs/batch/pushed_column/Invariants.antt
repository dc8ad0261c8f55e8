use Rattle.std.proofs.Common.{take}
use Rattle.morsel_text.specs.Batches.{IsColumnOf}
use Rattle.morsel_text.proofs.batch.pushed_column.Given as goal

abbrev pub invariant-loop-field : goal.invariant-loop-field
invariant-loop-field l = IsColumnOf l.options l.fn.kind (take l.field-index l.fields) l.column
