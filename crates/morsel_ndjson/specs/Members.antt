-- A row of JSON as it is written: before each value comes what a column's member begins with, after the last the end.
use Rattle.std.specs.Prelude.{◌≡◌, ℕ, ◌+◌, ◌*◌, ◌<◌, ◌≤◌, Bool, false, ◌||◌, ◌==◌, nat_lt, Result, Ok, Err, List, [], ◌∷◌, ◌++◌, codes, length, map, take, get_or}
use Rattle.std.specs.List.{flat_map}
use Rattle.morsel_meaning.specs.declared.value.Value.{Value}
use Rattle.morsel_meaning.specs.declared.value.Value.TheVariants as values
use Rattle.morsel_meaning.specs.Values.{Row}
use Rattle.morsel_frame.specs.Columns.{value_at}
use Rattle.morsel_frame.specs.Tables.{cell_at}
use Rattle.morsel_ndjson.specs.declared.members.Lent.{Lent}
use Rattle.morsel_ndjson.specs.declared.members.Lent.TheVariants as lents
use Rattle.morsel_ndjson.specs.Ndjson.{json_string, json_value}

-- whether a byte within a string is escaped
abbrev pub needs_escape : ℕ → Bool
needs_escape b = b == 34 || b == 92 || nat_lt b 32

-- no byte from one place to another needs an escape
abbrev pub ArePlain : ℕ → ℕ → List ℕ → Type 0
ArePlain from to text = (k : ℕ) → from ≤ k → k < to → needs_escape (get_or text k 0) ≡ false

-- a member up to its value
abbrev pub beginning : ℕ → List ℕ → List ℕ
beginning mark name = mark ∷ json_string name ++ 58 ∷ []

-- those of all columns: a comma comes before each but the first
abbrev pub beginnings : ℕ → List (List ℕ) → List (List ℕ)
beginnings mark [] = []
beginnings mark (name ∷ names) = beginning mark name ∷ beginnings 44 names

-- the values that a column lends
abbrev pub lent_values : Lent → List Value
lent_values (lents.Ints numbers) = map values.Int numbers.now
lent_values (lents.Bools flags) = map values.Bool flags.now
lent_values (lents.Texts texts) = map values.Text texts.now

-- what a column's member begins with, and the column's values
abbrev pub BegunValues : Type 0
BegunValues = List ℕ × List Value

-- what each column's member begins with, and the column's values; the first column is at this place
abbrev pub members_from : ℕ → List (List ℕ) → List Row → List (List ℕ × List Value)
members_from at [] rows = []
members_from at (begin ∷ begins) rows = (begin, map (cell_at at) rows) ∷ members_from (at + 1) begins rows

-- a row's members, one from each column
abbrev pub members_at : ℕ → List (List ℕ × List Value) → List ℕ
members_at row members = flat_map (λ m. m.0 ++ json_value (value_at m.1 row)) members

-- each column has a value for this row
abbrev pub HaveRow : ℕ → List (List ℕ × List Value) → Type 0
HaveRow row [] = Unit {0}
HaveRow row (m ∷ members) = (row < length m.1) × HaveRow row members

-- how many bytes a row takes at most, but for its texts of more than 16 bytes
abbrev pub members_room : List (List ℕ × List Value) → ℕ
members_room [] = 3
members_room (m ∷ members) = length m.0 + 114 + members_room members

-- values, each after its beginning
abbrev pub begun : List (List ℕ) → Row → List ℕ
begun [] row = []
begun (begin ∷ begins) [] = []
begun (begin ∷ begins) (v ∷ row) = begin ++ json_value v ++ begun begins row

-- the end of each line: an object without members has no beginning
abbrev pub line_end : {A : Type 0} → List A → List ℕ
line_end [] = codes "{}\n"
line_end (begin ∷ begins) = codes "}\n"

-- more than 20 bytes are asked for by texts alone: six for each byte
abbrev pub text_room : Value → ℕ
text_room (values.Text text) = 6 * length text
text_room v = 0

-- the text is there from place `at` to place `end`, after what was there before
pub record Put (old : List ℕ) (at : ℕ) (text : List ℕ) (end : ℕ) (new : List ℕ) : Type 0 where
  pub rises : at ≤ end
  pub within : end ≤ length new
  pub written : take end new ≡ take at old ++ text

-- the text was put from place `at` on; after a fault the bytes before it are as they were
abbrev pub Puts : {E : Type 0} → List ℕ → ℕ → List ℕ → Result ℕ E → List ℕ → Type 0
Puts old at text (Ok end) new = Put old at text end new
Puts old at text (Err fault) new = take at new ≡ take at old
