-- Rows and tables: what a query is about, however columns keep it.
use Rattle.std.specs.Prelude.{◌≡◌, ℕ, List, [], ◌∷◌, map}
use Rattle.morsel_meaning.specs.declared.value.ColType.{ColType}
use Rattle.morsel_meaning.specs.declared.value.ColType.TheVariants as types
use Rattle.morsel_meaning.specs.declared.value.Value.{Value}
use Rattle.morsel_meaning.specs.declared.value.Value.TheVariants.{Null, Int, Bool, Text}
use Rattle.morsel_meaning.specs.declared.value.Field.{Field}

-- a row has a value for each column
abbrev pub Row : Type 0
Row = List Value

-- the value is null, or of the type
abbrev pub IsOfType : ColType → Value → Type 0
IsOfType kind Null = Unit {0}
IsOfType kind (Int n) = kind ≡ types.Int
IsOfType kind (Bool b) = kind ≡ types.Bool
IsOfType kind (Text t) = kind ≡ types.Text

-- the row has a value of each type, in order
abbrev pub FitsRow : List ColType → Row → Type 0
FitsRow [] [] = Unit {0}
FitsRow [] (v ∷ row) = ⊥
FitsRow (kind ∷ kinds) [] = ⊥
FitsRow (kind ∷ kinds) (v ∷ row) = IsOfType kind v × FitsRow kinds row

-- each row fits
abbrev pub FitsRows : List ColType → List Row → Type 0
FitsRows kinds [] = Unit {0}
FitsRows kinds (row ∷ rows) = FitsRow kinds row × FitsRows kinds rows

-- the names of a schema
abbrev pub names_of : List Field → List (List ℕ)
names_of fields = map (λ f. f.name) fields

-- the types of a schema
abbrev pub kinds_of : List Field → List ColType
kinds_of fields = map (λ f. f.kind) fields

-- columns by name and type, and rows that fit them
pub record Table : Type 0 where
  pub schema : List Field
  pub rows : List Row
