-- Keys of any number of columns: rows of values, each once, in order of arrival.
use Rattle.std.specs.Prelude.{◌<◌, ◌*◌, ◌%◌, ◌^◌, ℕ, if◌then◌else◌, List, [], ◌∷◌, length, get_or}
use Rattle.std.specs.List.{All}
use Rattle.std.specs.Int.{cast_unsigned, w64}
use Rattle.morsel_meaning.specs.declared.value.ColType.{ColType}
use Rattle.morsel_meaning.specs.declared.value.Value.{Value}
use Rattle.morsel_meaning.specs.declared.value.Value.TheVariants as values
use Rattle.morsel_meaning.specs.Values.{Row, FitsRows}
use Rattle.morsel_frame.specs.Tables.{cells_at}
use Rattle.morsel_keys.specs.declared.key_row.KeyRow.{KeyRow}
use Rattle.morsel_keys.specs.declared.key_row.KeyRow.TheVariants as rows
use Rattle.morsel_keys.specs.Slots.{IsIndexed, HasKeysEachOnce}
use Rattle.morsel_keys.specs.Words.{spread_of}
use Rattle.morsel_keys.specs.TextHomes.{mix_of, text_mix}

-- a table of keys: the types of their values, and the keys in order of arrival
pub record Keyed : Type 0 where
  pub kinds : List ColType
  pub keys : List Row

-- the key that comes
abbrev pub row_values : KeyRow → Row
row_values (rows.OfFrame frame columns row) = cells_at columns.now (get_or frame.now.rows row [])
row_values (rows.OfTable vs) = vs.now

-- its places are within
abbrev pub IsKeyRow : KeyRow → Type 0
IsKeyRow (rows.OfFrame frame columns row) = (row < length frame.now.rows) × All (λ at. at < length frame.now.schema) columns.now
IsKeyRow (rows.OfTable vs) = Unit {0}

-- a value as a word, of which a search makes its beginning
abbrev pub value_word : Value → ℕ
value_word values.Null = 3
value_word (values.Int n) = cast_unsigned w64 n
value_word (values.Bool b) = if b then 5 else 7
value_word (values.Text t) = text_mix 11 t

-- a state with the values of a row mixed in
abbrev pub row_mix : ℕ → Row → ℕ
row_mix state [] = state
row_mix state (v ∷ row) = row_mix (mix_of state (value_word v)) row

-- the place where the search for a row begins
unfoldable pub row_home : ℕ → ℕ → Row → ℕ
row_home seed mask row = spread_of mask (row_mix seed row * 11400714819323198485 % 2 ^ 64)

-- the keys are found, each once, and are of these types
pub record AreRowKeys (seed mask : ℕ) (kinds : List ColType) (slots : List ℕ) (keys : List Row) : Type 0 where
  pub indexed : IsIndexed (row_home seed mask) mask slots keys
  pub once : HasKeysEachOnce keys
  pub fit : FitsRows kinds keys
