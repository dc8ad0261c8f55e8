use Rattle.std.proofs.Common.{◌≡◌, ◌++◌, drop}
use Rattle.morsel_join.specs.Rows.{right_columns}
use Rattle.morsel_join.proofs.rules.put_right.Given as goal

abbrev pub invariant-loop-at : goal.invariant-loop-at
invariant-loop-at l = l.columns.items ++ right_columns l.at (drop l.at l.names) ≡ l.initial.columns.items ++ right_columns 0 l.names
