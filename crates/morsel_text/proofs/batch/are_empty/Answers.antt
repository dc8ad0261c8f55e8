use Rattle.std.proofs.Common.{sym, arith}
use Rattle.morsel_text.proofs.BatchStepLemmas.{empty_more}
use Rattle.morsel_text.proofs.batch.are_empty.Goals as goal

pub loop-column-preserved : goal.loop-column-preserved
loop-column-preserved c =
    empty_more c.args.columns.now c.loop-column.column-index c.column-item.result (omega arith) (sym c.column-item.is)
    (omega (arith, c.len.ensures.len)) c.loop-column.invariant
