-- The rows of one side by the numbers of their keys.
use Rattle.std.specs.Prelude.{◌≡◌, ◌≤◌, ◌⊎◌, ℕ, ◌&&◌, ◌||◌, Bool, true, false, Some, List, [], ◌∷◌, length, get_or, slice_get}
use Rattle.morsel_meaning.specs.declared.value.ColType.{ColType}
use Rattle.morsel_meaning.specs.Values.{Row}
use Rattle.morsel_frame.specs.Cells.{not_null}
use Rattle.morsel_frame.specs.Tables.{cells_at}
use Rattle.morsel_keys.specs.Slots.{HasKeysEachOnce, no_number}
use Rattle.morsel_join.specs.declared.build.KeyedRows.{KeyedRows}
use Rattle.morsel_join.specs.Chains.{AreLinked}

-- whether a key has no null
abbrev pub no_null : Row → Bool
no_null [] = true
no_null (v ∷ key) = not_null v && no_null key

-- the number of a row's key; a key with a null has none, unless nulls are equal
abbrev pub IsNumber : Bool → List Row → Row → ℕ → Type 0
IsNumber nulls keys key n = (((nulls || no_null key) ≡ true) × (slice_get keys n ≡ Some key)) ⊎ (((nulls || no_null key) ≡ false) × (n ≡ no_number))

-- rows have the numbers of their keys
abbrev pub HaveNumbers : Bool → List Row → List ℕ → List Row → List ℕ → Type 0
HaveNumbers nulls keys columns rows numbers = (j : ℕ) (row : Row) → slice_get rows j ≡ Some row → IsNumber nulls keys (cells_at columns row) (get_or numbers j 0)

-- rows with numbers of their keys, and chains of them
pub record AreKeyed (nulls : Bool) (columns : List ℕ) (types : List ColType) (rows : List Row) (build : KeyedRows) : Type 0 where
  pub kinds : build.keys.kinds ≡ types
  pub once : HasKeysEachOnce build.keys.keys
  pub few : length build.keys.keys ≤ no_number
  pub len : length build.numbers.items ≡ length rows
  pub each : HaveNumbers nulls build.keys.keys columns rows build.numbers.items
  pub linked : AreLinked build.numbers.items build.first.items build.next.items 0 (length build.keys.keys)
