use Rattle.std.proofs.Common.{◌≡◌, ◌<◌, ℕ, [], length, get_or, take, if◌then◌else◌}
use Rattle.morsel_frame.specs.Tables.{cells_at}
use Rattle.morsel_keys.specs.Slots.{no_number}
use Rattle.morsel_join.specs.Builds.{no_null}
use Rattle.morsel_join.proofs.build.mask_each.Given as goal

abbrev pub invariant-loop-at : goal.invariant-loop-at
invariant-loop-at l = record {
  len : length l.numbers ≡ length l.initial.numbers;
  masked : (j : ℕ) → j < length l.frame.rows → get_or l.numbers j 0 ≡ (if no_null (cells_at (take l.at-index l.columns) (get_or l.frame.rows j [])) then get_or l.initial.numbers j 0 else no_number);
}
