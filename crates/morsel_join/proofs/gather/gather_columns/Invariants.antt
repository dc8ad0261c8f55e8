use Rattle.std.proofs.Common.{◌≡◌, take, map}
use Rattle.morsel_join.specs.Rows.{marked_column}
use Rattle.morsel_join.proofs.gather.gather_columns.Given as goal

abbrev pub invariant-loop-column : goal.invariant-loop-column
invariant-loop-column l = l.gathered.items ≡ map (marked_column l.left l.right l.lefts l.rights) (take l.column-index l.columns)
