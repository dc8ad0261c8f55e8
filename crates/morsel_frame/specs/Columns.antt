-- Columns: a type, and values from the first row on.
use Rattle.std.specs.Prelude.{ℕ, nat_lt, Bool, if◌then◌else◌, List, [], ◌∷◌, get_or}
use Rattle.morsel_meaning.specs.declared.value.ColType.{ColType}
use Rattle.morsel_meaning.specs.declared.value.Value.{Value}
use Rattle.morsel_meaning.specs.declared.value.Value.TheVariants.{Null}
use Rattle.morsel_meaning.specs.Values.{IsOfType}

-- a column: its type, and its values from the first row on
pub record Values : Type 0 where
  pub kind : ColType
  pub values : List Value

-- each value is null, or of the type
abbrev pub AreOfType : ColType → List Value → Type 0
AreOfType kind [] = Unit {0}
AreOfType kind (v ∷ vs) = IsOfType kind v × AreOfType kind vs

-- the values, and null where one is not valid
abbrev pub masked : List Bool → List Value → List Value
masked [] vs = []
masked (valid ∷ valids) [] = []
masked (valid ∷ valids) (v ∷ vs) = (if valid then v else Null) ∷ masked valids vs

-- the value of a row, and null past the last
abbrev pub value_at : List Value → ℕ → Value
value_at vs row = get_or vs row Null

-- the greatest row number of 32 bits, which names no row
abbrev pub no_row : ℕ
no_row = 4294967295

-- the value of a row, and null where the number names none
abbrev pub value_or_null : List Value → ℕ → Value
value_or_null vs row = if nat_lt row no_row then value_at vs row else Null
