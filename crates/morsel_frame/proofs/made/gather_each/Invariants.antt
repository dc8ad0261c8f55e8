use Rattle.std.proofs.Common.{◌≡◌, take, map}
use Rattle.morsel_frame.specs.Made.{column_picks}
use Rattle.morsel_frame.proofs.made.gather_each.Given as goal

abbrev pub invariant-loop-column : goal.invariant-loop-column
invariant-loop-column l = l.picked.items ≡ map (column_picks l.rows) (take l.column-index l.columns)
