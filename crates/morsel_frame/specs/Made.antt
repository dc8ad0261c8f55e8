-- Values that are made: numbers that rise, and the values of some rows.
use Rattle.std.specs.Prelude.{ℕ, zero, suc, ◌+◌, ℤ, pos, List, [], ◌∷◌, map}
use Rattle.morsel_frame.specs.Columns.{Values, value_at}

-- so many numbers, from the first on
abbrev pub counted : ℕ → ℕ → List ℤ
counted first zero = []
counted first (suc n) = pos first ∷ counted (first + 1) n

-- the rows of a column that have these numbers
abbrev pub column_picks : List ℕ → Values → Values
column_picks rows column = record { kind = column.kind; values = map (value_at column.values) rows }
