-- Keys of two parts: a number and a value.
use Rattle.std.specs.Prelude.{◌≡◌, ◌<◌, ◌≤◌, ◌+◌, ◌*◌, ◌/◌, ◌%◌, ◌^◌, ℕ, ℤ, List, [], ◌∷◌, length, slice_get, Some}
use Rattle.std.specs.Int.{cast_signed, cast_unsigned, w64}
use Rattle.morsel_meaning.specs.declared.value.ColType.{ColType}
use Rattle.morsel_meaning.specs.declared.value.ColType.TheVariants as types
use Rattle.morsel_meaning.specs.declared.value.Value.{Value}
use Rattle.morsel_meaning.specs.declared.value.Value.TheVariants as values
use Rattle.morsel_frame.specs.Columns.{Values, value_at}
use Rattle.morsel_keys.specs.Slots.{HasKeysEachOnce, no_number}

-- a number and a value
pub record Pair : Type 0 where
  pub first : ℕ
  pub second : Value

-- keys of two parts: the type of their values, and the pairs in order of arrival
pub record PairList : Type 0 where
  pub kind : ColType
  pub pairs : List Pair

abbrev pub pair_with : ℕ → Value → Pair
pair_with first second = record { first = first; second = second }

-- numbers, each with the value at its place
abbrev pub pairs_of : List ℕ → List Value → List Pair
pairs_of [] vs = []
pairs_of (first ∷ firsts) [] = []
pairs_of (first ∷ firsts) (v ∷ vs) = pair_with first v ∷ pairs_of firsts vs

-- two numbers as one
abbrev pub pair_word : ℕ → ℕ → ℤ
pair_word first second = cast_signed w64 (first * 2 ^ 32 + second)

-- numbers, each with the one at its place, as one
abbrev pub pair_words : List ℕ → List ℕ → List Value
pair_words [] seconds = []
pair_words (first ∷ firsts) [] = []
pair_words (first ∷ firsts) (second ∷ seconds) = values.Int (pair_word first second) ∷ pair_words firsts seconds

-- the pair that is kept as a word, by the values that are numbered
abbrev pub held_pair : List Value → Value → Pair
held_pair seconds (values.Int n) = pair_with (cast_unsigned w64 n / 2 ^ 32) (value_at seconds (cast_unsigned w64 n % 2 ^ 32))
held_pair seconds values.Null = pair_with 0 values.Null
held_pair seconds (values.Bool b) = pair_with 0 values.Null
held_pair seconds (values.Text t) = pair_with 0 values.Null

-- the word of a number and of one of so many
abbrev pub IsPairWord : ℕ → Value → Type 0
IsPairWord count v = (first : ℕ) × (second : ℕ) × (first < no_number) × (second < count) × (v ≡ values.Int (pair_word first second))

-- values that are numbered, and the words of pairs of them
pub record ArePairs (seconds words : Values) : Type 0 where
  pub kind : words.kind ≡ types.Int
  pub within : length seconds.values ≤ no_number
  pub once : HasKeysEachOnce seconds.values
  pub words_once : HasKeysEachOnce words.values
  pub each : (k : ℕ) (v : Value) → slice_get words.values k ≡ Some v → IsPairWord (length seconds.values) v
