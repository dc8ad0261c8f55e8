use Rattle.std.proofs.Common.{rules}
use Rattle.morsel_frame.proofs.StackLemmas.{tall-at}
use Rattle.morsel_frame.proofs.stacks.range_of_each.Goals as goal

pub range_of-requires-clause-within : goal.range_of-requires-clause-within
range_of-requires-clause-within c =
    tall-at c.args.to c.args.columns.now c.loop-column.column-index c.column-item.result c.requires.within (search rules) c.column-item.is
