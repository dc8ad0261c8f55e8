use Rattle.std.proofs.Common.{◌∙◌, arith}
use Rattle.morsel_scan.proofs.FlawLemmas.{absent_here, present_here}
use Rattle.morsel_scan.proofs.source_fields.check_names.Goals as goal

pub returns-then-is_none : goal.returns-then-is_none
returns-then-is_none c =
    absent_here c.args.schema.now c.args.columns.now c.loop-column.column-index c.column-item.result c.as_str.result.now c.in_ok-new.field-0 c.find.result (omega arith) c.column-item.is
    c.find.ensures c.as_str.ensures c.if-is_none.ensures (c.in_ok-new.ensures.value ∙ c.as_str-then-is_none.ensures) c.loop-column.invariant

pub loop-column-preserved : goal.loop-column-preserved
loop-column-preserved c =
    present_here c.args.schema.now c.args.columns.now c.loop-column.column-index c.column-item.result c.as_str.result.now c.find.result (omega arith) c.column-item.is
    c.find.ensures c.as_str.ensures c.if-is_none.ensures c.loop-column.invariant
