-- Columns at places.
use Rattle.std.specs.Prelude.{ℕ, List, [], map, get_or}
use Rattle.morsel_meaning.specs.declared.value.ColType.TheVariants as types
use Rattle.morsel_frame.specs.Columns.{Values}

-- what is left in the place of a column that was moved away
abbrev pub no_column : Values
no_column = record { kind = types.Int; values = [] }

-- the columns at these places, all of which are within
abbrev pub columns_at : List Values → List ℕ → List Values
columns_at columns places = map (λ at. get_or columns at no_column) places
