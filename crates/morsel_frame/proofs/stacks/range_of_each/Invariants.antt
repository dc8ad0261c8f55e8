use Rattle.std.proofs.Common.{◌≡◌, take, map}
use Rattle.morsel_frame.specs.Stacks.{column_range}
use Rattle.morsel_frame.proofs.stacks.range_of_each.Given as goal

abbrev pub invariant-loop-column : goal.invariant-loop-column
invariant-loop-column l = l.copies.items ≡ map (column_range l.from l.to) (take l.column-index l.columns)
