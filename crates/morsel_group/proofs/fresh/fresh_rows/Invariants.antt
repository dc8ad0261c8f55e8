use Rattle.std.proofs.Common.{◌≡◌, ◌≤◌, ◌+◌, ◌++◌, drop}
use Rattle.morsel_group.specs.Fresh.{fresh_from}
use Rattle.morsel_group.proofs.fresh.fresh_rows.Given as goal

abbrev pub invariant-loop-row : goal.invariant-loop-row
invariant-loop-row l = record {
  rows : l.rows.items ++ fresh_from l.next l.row (drop l.row l.numbers) ≡ fresh_from l.known 0 l.numbers;
  next : l.next ≤ l.known + l.row;
}
