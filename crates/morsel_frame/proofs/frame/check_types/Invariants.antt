use Rattle.std.proofs.Common.{take}
use Rattle.morsel_frame.specs.Frames.{AreTyped}
use Rattle.morsel_frame.proofs.frame.check_types.Given as goal

abbrev pub invariant-loop-column : goal.invariant-loop-column
invariant-loop-column l = AreTyped (take l.column-index l.columns.items)
