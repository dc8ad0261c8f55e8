use Rattle.morsel_text.proofs.RowLemmas.{raw_text}
use Rattle.morsel_text.proofs.BatchStepLemmas.{column_more}
use Rattle.morsel_text.proofs.batch.pushed_column.Goals as goal

pub push_cell-requires : goal.push_cell-requires
push_cell-requires c = raw_text c.args.fields.now c.loop-field.field-index _ c.requires c.loop-field-test.true

pub loop-field-preserved : goal.loop-field-preserved
loop-field-preserved c = column_more c.args.options.now c.args.kind c.args.fields.now c.loop-field.field-index _ c.loop-field.column c.push_cell.new.column c.loop-field.invariant c.loop-field-test.true (rw c.in-Done.is at c.in_ok-push_cell.ensures.cell)
