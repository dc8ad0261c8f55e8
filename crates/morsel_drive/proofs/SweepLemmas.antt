-- How far a run has come.
use Rattle.std.proofs.Common.{ℕ, ◌+◌, ◌≤◌, arith}
use Rattle.morsel_drive.specs.declared.progress.Progress.{Progress}
use Rattle.morsel_drive.specs.declared.progress.Progress.TheVariants as progress
use Rattle.morsel_drive.specs.Sweeping.{counted_rows}

-- no further than before, where more rows are written
pub far_more : (how : Progress) (furthest size was now : ℕ) → was ≤ now → furthest ≤ size + counted_rows how was → furthest ≤ size + counted_rows how now
far_more progress.Bytes furthest size was now more far = far
far_more progress.Rows furthest size was now more far = omega (arith, more, far)
