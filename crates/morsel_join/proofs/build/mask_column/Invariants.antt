use Rattle.std.proofs.Common.{◌≡◌, ◌<◌, ◌≤◌, ℕ, length, get_or, if◌then◌else◌}
use Rattle.morsel_frame.specs.Cells.{not_null}
use Rattle.morsel_frame.specs.Columns.{value_at}
use Rattle.morsel_keys.specs.Slots.{no_number}
use Rattle.morsel_join.proofs.build.mask_column.Given as goal

abbrev pub invariant-loop-row : goal.invariant-loop-row
invariant-loop-row l = record {
  len : length l.numbers ≡ length l.initial.numbers;
  done : (j : ℕ) → j < l.row → get_or l.numbers j 0 ≡ (if not_null (value_at l.column.values j) then get_or l.initial.numbers j 0 else no_number);
  rest : (j : ℕ) → l.row ≤ j → get_or l.numbers j 0 ≡ get_or l.initial.numbers j 0;
}
