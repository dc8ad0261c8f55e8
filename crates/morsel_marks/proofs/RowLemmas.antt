-- Marks counted row by row.
use Rattle.std.proofs.Common.{◌≡◌, ℕ, ◌+◌, ◌*◌, ◌<◌, List}
use Rattle.morsel_marks.specs.ByMarks.{AreRowMarks}

-- so many rows up to a number of marks
pub record RowsSoFar (separator : ℕ) (text marks : List ℕ) (w rows from : ℕ) : Type 0 where
  pub place : from ≡ rows * (w + 1)
  pub are : (i : ℕ) → i < rows → AreRowMarks separator text marks (i * (w + 1)) w
