use Rattle.std.proofs.Common.{◌≡◌, ◌++◌, take, drop, map}
use Rattle.morsel_frame.specs.Stacks.{column_front}
use Rattle.morsel_frame.proofs.stacks.truncate_each.Given as goal

abbrev pub invariant-loop-at : goal.invariant-loop-at
invariant-loop-at l = l.columns.items ≡ map (column_front l.height) (take l.at l.initial.columns.items) ++ drop l.at l.initial.columns.items
