-- The rows of a frame whose keys arrived with it.
use Rattle.std.specs.Prelude.{◌+◌, ◌==◌, ℕ, if◌then◌else◌, Some, List, [], ◌∷◌, map}
use Rattle.morsel_meaning.specs.Values.{Table}
use Rattle.morsel_frame.specs.Columns.{Values, value_at}
use Rattle.morsel_frame.specs.Tables.{cell_at}
use Rattle.morsel_group.specs.Asked.{kind_in}

-- the places of the rows with new numbers: the first with this number, the first with the next one, and so on
abbrev pub fresh_from : ℕ → ℕ → List ℕ → List ℕ
fresh_from next row [] = []
fresh_from next row (number ∷ numbers) = if number == next then row ∷ fresh_from (next + 1) (row + 1) numbers else fresh_from next (row + 1) numbers

-- the columns at these places, of the rows with these numbers
abbrev pub picked_from : Table → List ℕ → List ℕ → List Values
picked_from table places rows = map (λ at. record { kind = kind_in table.schema (Some at); values = map (value_at (map (cell_at at) table.rows)) rows }) places
