use Rattle.std.proofs.Common.{◌≡◌, ◌<◌, ◌≤◌, ℕ, get_or, false}
use Rattle.morsel_keys.specs.ColumnKeys.{placed_of}
use Rattle.morsel_keys.proofs.column_keys.place_each.Given as goal

abbrev pub invariant-loop-i : goal.invariant-loop-i
invariant-loop-i l = record {
  done : (k : ℕ) → k < l.i → get_or l.out k 0 ≡ placed_of l.null (get_or l.valid k false) (get_or l.initial.out k 0);
  rest : (k : ℕ) → l.i ≤ k → get_or l.out k 0 ≡ get_or l.initial.out k 0;
}
