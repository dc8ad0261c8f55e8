-- How many rows are cut into morsels.
use Rattle.std.specs.Prelude.{◌≡◌, ℕ, zero, suc, ◌≤◌, ◌+◌, ◌-◌, ◌*◌, ◌/◌, ◌<◌, max, min, nat_lt, if◌then◌else◌, List, [], ◌∷◌}

-- how many pieces are aimed at: about the ideal rows in each, and one where there are at most half as many more
abbrev pub piece_count : ℕ → ℕ → ℕ
piece_count height ideal = if nat_lt (3 * ideal / 2) height then max (height / ideal) 2 else 1

-- how many rows each piece has but the last
abbrev pub rows_per_piece : ℕ → ℕ → ℕ
rows_per_piece height ideal = 1 + height / piece_count height ideal

-- at most `n` pieces of at most so many rows, from a place up to a height, each by its offset and its length
abbrev pub pieces_up_to : ℕ → ℕ → ℕ → ℕ → List (ℕ × ℕ)
pieces_up_to zero height rows at = []
pieces_up_to (suc n) height rows at =
    if nat_lt at height then (at, min rows (height - at)) ∷ pieces_up_to n height rows (at + min rows (height - at)) else []

-- the pieces of so many rows, the last of what is left, from a place up to a height
unfoldable pub pieces_from : ℕ → ℕ → ℕ → List (ℕ × ℕ)
pieces_from height rows at = pieces_up_to (height - at) height rows at

-- the pieces stand one after the other from one place to another, and none is empty
abbrev pub StandWithoutGaps : ℕ → List (ℕ × ℕ) → ℕ → Type 0
StandWithoutGaps from [] to = from ≡ to
StandWithoutGaps from (piece ∷ pieces) to = (piece.0 ≡ from) × (0 < piece.1) × StandWithoutGaps (piece.0 + piece.1) pieces to

-- each piece has so many rows, and the last at most as many
abbrev pub HaveLengths : ℕ → List (ℕ × ℕ) → Type 0
HaveLengths rows [] = Unit {0}
HaveLengths rows (piece ∷ []) = piece.1 ≤ rows
HaveLengths rows (piece ∷ next ∷ later) = (piece.1 ≡ rows) × HaveLengths rows (next ∷ later)
