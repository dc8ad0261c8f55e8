use Rattle.std.proofs.Common.{◌≡◌, ◌==◌, ◌+◌, ℕ, ◌<◌, true, get_or}
use Rattle.morsel_marks.proofs.rows.is_marked_row.Given as goal

abbrev pub invariant-loop-i : goal.invariant-loop-i
invariant-loop-i l = (k : ℕ) → k < l.i → (get_or l.text (get_or l.marks (l.from + k) 0) 0 == l.separator) ≡ true
