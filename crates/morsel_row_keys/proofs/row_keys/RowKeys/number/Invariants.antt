use Rattle.std.proofs.Common.{◌≡◌, ◌≤◌, ℕ, take, slice_get, get_or, map, length, Some}
use Rattle.morsel_meaning.specs.Values.{Row}
use Rattle.morsel_frame.specs.Tables.{cells_at}
use Rattle.morsel_keys.specs.Slots.{IsFound, NumbersAll}
use Rattle.morsel_row_keys.proofs.row_keys.RowKeys.number.Given as goal

abbrev pub invariant-loop-row : goal.invariant-loop-row
invariant-loop-row l = record {
  kinds : l.self.kinds ≡ l.initial.self.kinds;
  len : length l.out ≡ length l.frame.rows;
  done : NumbersAll l.initial.self.keys (take l.row (map (cells_at l.columns) l.frame.rows)) (take l.row l.out) l.self.keys;
  rest : (k : ℕ) (key : Row) → l.row ≤ k → slice_get (map (cells_at l.columns) l.frame.rows) k ≡ Some key → IsFound l.initial.self.keys key (get_or l.out k 0);
}
