use Rattle.std.proofs.Common.{◌≤◌, ◌-◌, length}
use Rattle.morsel_marks.proofs.RowLemmas.{RowsSoFar}
use Rattle.morsel_marks.proofs.rows.count_rows.Given as goal

abbrev pub invariant-loop-from : goal.invariant-loop-from
invariant-loop-from l = record {
  few : l.rows ≤ l.from;
  within : l.from ≤ length l.marks;
  rows : RowsSoFar l.separator l.text l.marks (l.width - 1) l.rows l.from;
}

abbrev pub decreases-loop-from : goal.decreases-loop-from
decreases-loop-from l = length l.marks - l.from
