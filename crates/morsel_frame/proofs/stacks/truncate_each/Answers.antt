use Rattle.std.proofs.Common.{rules}
use Rattle.morsel_frame.specs.Stacks.{column_front}
use Rattle.morsel_frame.proofs.StackLemmas.{set-through}
use Rattle.morsel_frame.proofs.stacks.truncate_each.Goals as goal

pub loop-at-preserved : goal.loop-at-preserved
loop-at-preserved c =
    set-through (column_front c.args.height) c.args.columns.now.items c.loop-at.columns.items c.loop-at.at c.index_mut-column.result.now c.truncate.new.self (search rules) c.loop-at.invariant c.index_mut-column.ensures.value c.truncate.ensures
