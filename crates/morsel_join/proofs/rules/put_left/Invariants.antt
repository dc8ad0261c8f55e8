use Rattle.std.proofs.Common.{◌≡◌, ◌++◌, drop}
use Rattle.morsel_join.specs.Rows.{left_columns}
use Rattle.morsel_join.proofs.rules.put_left.Given as goal

abbrev pub invariant-loop-at : goal.invariant-loop-at
invariant-loop-at l = l.columns.items ++ left_columns l.merged l.at (drop l.at l.names) ≡ l.initial.columns.items ++ left_columns l.merged 0 l.names
