-- How many sweeps the caller of a line that gives no text makes, where rows find many.
use Rattle.std.specs.Prelude.{◌≡◌, ◌⊎◌, ℕ, ◌+◌, ◌*◌, ◌≤◌}
use Rattle.morsel_pipe.specs.Pieces.{Piece}
use Rattle.morsel_drive.specs.declared.caller.Input.{Input}
use Rattle.morsel_drive.specs.declared.caller.Input.TheVariants.{Reading, Holding, Ended}

-- the last row of the piece that the caller holds is before this position
abbrev pub HoldsRowsTo : Input → ℕ → Type 0
HoldsRowsTo Reading rows = ⊥
HoldsRowsTo (Holding piece) rows = rows ≡ piece.first_row + piece.rows
HoldsRowsTo Ended rows = ⊥

-- the position behind the last row of a piece of the input; or there is no row
abbrev pub IsRowsEnd : (Piece → Type 0) → ℕ → Type 0
IsRowsEnd is_piece rows = (rows ≡ 0) ⊎ ((piece : Piece) × is_piece piece × (rows ≡ piece.first_row + piece.rows))

-- the count of sweeps went up by 512 for each byte of the sources and 512 more, and by 512 for each row that so many rows may find; there were at most so many, and this is so of them
pub record SweepsFinding (size per_row before after : ℕ) (are : ℕ → Type 0) : Type 0 where
  pub rows : ℕ
  pub few : after ≤ before + 512 * (size + 1) + 512 * (per_row * rows)
  pub small : rows ≤ 4294967295
  pub within : are rows
