-- Columns of one height, seen as rows.
use Rattle.std.specs.Prelude.{◌≡◌, ◌⊎◌, ℕ, List, [], ◌∷◌, length, replicate}
use Rattle.morsel_meaning.specs.declared.value.ColType.TheVariants as types
use Rattle.morsel_meaning.specs.declared.value.Value.{Value}
use Rattle.morsel_meaning.specs.declared.value.Field.{Field}
use Rattle.morsel_meaning.specs.Values.{Row}
use Rattle.morsel_frame.specs.Columns.{Values, AreOfType}

-- a column before the rows
abbrev pub with_column : List Value → List Row → List Row
with_column [] rows = []
with_column (v ∷ vs) [] = []
with_column (v ∷ vs) (row ∷ rows) = (v ∷ row) ∷ with_column vs rows

-- the rows of columns of this height; of no columns, that many empty rows
abbrev pub rows_of : ℕ → List Values → List Row
rows_of height [] = replicate height []
rows_of height (column ∷ columns) = with_column column.values (rows_of height columns)

-- there is a column for each field, of its type and of this height
abbrev pub Fit : List Field → ℕ → List Values → Type 0
Fit [] height [] = Unit {0}
Fit [] height (column ∷ columns) = ⊥
Fit (field ∷ fields) height [] = ⊥
Fit (field ∷ fields) height (column ∷ columns) = (column.kind ≡ field.kind) × (length column.values ≡ height) × Fit fields height columns

-- the values of each column are of its type
abbrev pub AreTyped : List Values → Type 0
AreTyped [] = Unit {0}
AreTyped (column ∷ columns) = AreOfType column.kind column.values × AreTyped columns

-- the columns fit, or are left out where there is no row
pub record IsFramed (fields : List Field) (height : ℕ) (columns : List Values) : Type 0 where
  pub fit : Fit fields height columns ⊎ ((height ≡ 0) × (columns ≡ []))
  pub typed : AreTyped columns

-- three columns without values, one of each type
abbrev pub AreBlank : Values → Values → Values → Type 0
AreBlank ints bools texts = (ints ≡ record { kind = types.Int; values = [] })
    × (bools ≡ record { kind = types.Bool; values = [] }) × (texts ≡ record { kind = types.Text; values = [] })
