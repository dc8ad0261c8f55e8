use Rattle.std.proofs.Common.{◌≡◌, drop}
use Rattle.morsel_join.specs.Rows.{left_column}
use Rattle.morsel_join.proofs.rules.left_column.Given as goal

abbrev pub invariant-loop-pair : goal.invariant-loop-pair
invariant-loop-pair l = left_column l.merged l.at ≡ left_column (drop l.pair-index l.merged) l.at
