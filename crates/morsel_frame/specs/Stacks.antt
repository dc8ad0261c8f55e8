-- Columns one below the other, and ranges of columns: what is made of the columns of a frame.
use Rattle.std.specs.Prelude.{◌≡◌, ℕ, zero, suc, ◌≤◌, List, [], ◌∷◌, ◌++◌, length, take, slice_range}
use Rattle.morsel_frame.specs.Columns.{Values}

-- the rows of a column from one on to another
abbrev pub column_range : ℕ → ℕ → Values → Values
column_range from to column = record { kind = column.kind; values = slice_range column.values from to }

-- the first rows of a column
abbrev pub column_front : ℕ → Values → Values
column_front height column = record { kind = column.kind; values = take height column.values }

-- each column has at least so many rows
abbrev pub AreTall : ℕ → List Values → Type 0
AreTall height [] = Unit {0}
AreTall height (column ∷ columns) = (height ≤ length column.values) × AreTall height columns

-- each column has just so many rows
abbrev pub AreLevel : ℕ → List Values → Type 0
AreLevel height [] = Unit {0}
AreLevel height (column ∷ columns) = (length column.values ≡ height) × AreLevel height columns

-- the columns are of the same types, one by one
abbrev pub AreAlike : List Values → List Values → Type 0
AreAlike [] [] = Unit {0}
AreAlike [] (other ∷ others) = ⊥
AreAlike (column ∷ columns) [] = ⊥
AreAlike (column ∷ columns) (other ∷ others) = (other.kind ≡ column.kind) × AreAlike columns others

-- the first columns with the rows of the others below
abbrev pub stacked_up_to : ℕ → List Values → List Values → List Values
stacked_up_to zero columns others = columns
stacked_up_to (suc n) [] others = []
stacked_up_to (suc n) (column ∷ columns) [] = column ∷ columns
stacked_up_to (suc n) (column ∷ columns) (other ∷ others) =
    record { kind = column.kind; values = column.values ++ other.values } ∷ stacked_up_to n columns others

-- all columns with the rows of the others below
abbrev pub stacked : List Values → List Values → List Values
stacked columns others = stacked_up_to (length columns) columns others
