-- How many sweeps a run of a line makes at most.
use Rattle.std.specs.Prelude.{ℕ, ◌+◌, ◌*◌, ◌^◌, ◌<◌, ◌≤◌}
use Rattle.morsel_drive.specs.declared.progress.Progress.{Progress}
use Rattle.morsel_drive.specs.declared.progress.Progress.TheVariants as progress

-- how many of the rows that were written count as progress
abbrev pub counted_rows : Progress → ℕ → ℕ
counted_rows progress.Bytes rows = 0
counted_rows progress.Rows rows = rows

-- the count of sweeps went up by 1,024 for each byte of the sources and 1,024 more, and, where rows are progress, by 512 for each row that was written; so many there were, and this is so of them
pub record SweepsFew (how : Progress) (size before after : ℕ) (are : ℕ → Type 0) : Type 0 where
  pub rows : ℕ
  pub few : after ≤ before + 1024 * (size + 1) + 512 * counted_rows how rows
  pub small : rows < 2 ^ 64
  pub within : are rows
