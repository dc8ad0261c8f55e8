use Rattle.std.proofs.Common.{rules, add-one}
use Rattle.morsel_frame.proofs.FrameLemmas.{typed-more}
use Rattle.morsel_frame.proofs.frame.check_types.Goals as goal

pub loop-column-preserved : goal.loop-column-preserved
loop-column-preserved c =
    rw add-one (typed-more c.args.columns.now.items c.loop-column.column-index c.column-item.result (search rules) (search rules) c.len-len.ensures.of_type c.loop-column.invariant)
