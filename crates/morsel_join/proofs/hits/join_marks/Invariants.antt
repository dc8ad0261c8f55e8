use Rattle.std.proofs.Common.{◌≡◌, ◌<◌, ◌≤◌, ◌||◌, ℕ, false, length, get_or}
use Rattle.morsel_join.proofs.hits.join_marks.Given as goal

abbrev pub invariant-loop-at : goal.invariant-loop-at
invariant-loop-at l = record {
  len : length l.marks ≡ length l.initial.marks;
  done : (m : ℕ) → m < l.at → get_or l.marks m false ≡ (get_or l.initial.marks m false || get_or l.others m false);
  rest : (m : ℕ) → l.at ≤ m → get_or l.marks m false ≡ get_or l.initial.marks m false;
}
