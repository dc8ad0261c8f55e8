-- Keys of one column: those that are no nulls, and the null at its place among them.
use Rattle.std.specs.Prelude.{◌≡◌, ◌≤◌, ◌+◌, ℕ, zero, suc, nat_lt, nat_eq, Bool, if◌then◌else◌, Option, Some, None, List, [], ◌∷◌, length, map, get_or, slice_get, true, ◌==◌}
use Rattle.std.specs.Int.{cast_signed, w64}
use Rattle.morsel_meaning.specs.declared.value.ColType.{ColType}
use Rattle.morsel_meaning.specs.declared.value.ColType.TheVariants as types
use Rattle.morsel_meaning.specs.declared.value.Value.{Value}
use Rattle.morsel_meaning.specs.declared.value.Value.TheVariants as values
use Rattle.morsel_keys.specs.declared.store.Store.{Store}
use Rattle.morsel_keys.specs.declared.store.Store.TheVariants as stores
use Rattle.morsel_frame.specs.Cells.{not_null}
use Rattle.morsel_keys.specs.Slots.{HasKeysEachOnce, IsFound, no_number}

-- the number that a word holds
abbrev pub int_held : ℕ → Value
int_held word = values.Int (cast_signed w64 word)

-- the truth value that a word holds
abbrev pub flag_held : ℕ → Value
flag_held word = values.Bool (nat_eq word 1)

-- the word of a truth value
abbrev pub flag_word : Bool → ℕ
flag_word flag = if flag then 1 else 0

-- the type of the keys
abbrev pub store_kind : Store → ColType
store_kind (stores.Ints words) = types.Int
store_kind (stores.Bools words) = types.Bool
store_kind (stores.Texts texts) = types.Text

-- the keys that are no nulls, in order of arrival
abbrev pub stored_keys : Store → List Value
stored_keys (stores.Ints words) = map int_held words
stored_keys (stores.Bools words) = map flag_held words
stored_keys (stores.Texts texts) = map values.Text texts

-- the words of truth values are no others
abbrev pub IsStore : Store → Type 0
IsStore (stores.Ints words) = Unit {0}
IsStore (stores.Bools words) = (k : ℕ) → get_or words k 0 ≤ 1
IsStore (stores.Texts texts) = Unit {0}

-- a list with one more at a place
abbrev pub inserted_at : {X : Type 0} → ℕ → X → List X → List X
inserted_at zero x xs = x ∷ xs
inserted_at (suc at) x [] = x ∷ []
inserted_at (suc at) x (y ∷ ys) = y ∷ inserted_at at x ys

-- keys, with the null at its place if it has arrived
abbrev pub with_null : Option ℕ → List Value → List Value
with_null None vs = vs
with_null (Some null) vs = inserted_at null values.Null vs

-- the number of a key that is no null, where the null is among them
abbrev pub shifted : Option ℕ → ℕ → ℕ
shifted None at = at
shifted (Some null) at = if nat_lt at null then at else at + 1

-- the null arrived when there were no more keys than this
abbrev pub IsNullPlace : Option ℕ → ℕ → Type 0
IsNullPlace None count = Unit {0}
IsNullPlace (Some null) count = null ≤ count

-- the keys of a column, each once
pub record AreColumnKeys (null : Option ℕ) (store : Store) : Type 0 where
  pub words : IsStore store
  pub place : IsNullPlace null (length (stored_keys store))
  pub within : length (with_null null (stored_keys store)) ≤ no_number
  pub once : HasKeysEachOnce (with_null null (stored_keys store))

-- the number that the null has
abbrev pub null_number : Option ℕ → ℕ
null_number None = no_number
null_number (Some null) = null

-- the number of a row: the null's, or that of its value with the null among the keys
abbrev pub placed_of : Option ℕ → Bool → ℕ → ℕ
placed_of null valid at = if valid then (if at == no_number then no_number else shifted null at) else null_number null

-- what look-ups of values find, where they are no nulls
pub record FindsValues (keys vs : List Value) (ats : List ℕ) : Type 0 where
  pub len : length ats ≡ length vs
  pub each : (i : ℕ) (v : Value) → slice_get vs i ≡ Some v → not_null v ≡ true → IsFound keys v (get_or ats i 0)
