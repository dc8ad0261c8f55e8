-- What a group-by means: one row for each distinct key, with what each reduction says of the rows of this key.
use Rattle.std.specs.Prelude.{◌≡◌, ◌++◌, ◌↔◌, ℕ, Bool, true, false, ◌&&◌, if◌then◌else◌, Option, Some, None, List, [], ◌∷◌, map, slice_get}
use Rattle.morsel_meaning.specs.declared.value.Value.{Value}
use Rattle.morsel_meaning.specs.declared.value.Value.TheVariants as values
use Rattle.morsel_meaning.specs.Values.{Row}
use Rattle.morsel_meaning.specs.Order.{value_eq}
use Rattle.morsel_meaning.specs.Sequences.{by_number}
use Rattle.morsel_frame.specs.Tables.{cell_at, cells_at}
use Rattle.morsel_keys.specs.Slots.{HasKeysEachOnce}
use Rattle.morsel_keys.specs.Groups.{passing}
use Rattle.morsel_keys.specs.Reductions.{reduction_of}
use Rattle.morsel_group.specs.Asked.{Reducer, GroupShape}

-- whether two keys are the same, a null being the same as a null
abbrev pub same_key : Row → Row → Bool
same_key [] [] = true
same_key [] (w ∷ l) = false
same_key (v ∷ k) [] = false
same_key (v ∷ k) (w ∷ l) = value_eq v w && same_key k l

-- the rows of a key, in their order
abbrev pub rows_of_key : GroupShape → Row → List Row → List Row
rows_of_key shape key rows = passing (λ row. same_key key (cells_at shape.keys row)) rows

-- the value of a row that is reduced; a count of rows reads none
abbrev pub value_in : Option ℕ → Row → Value
value_in None row = values.Null
value_in (Some at) row = cell_at at row

-- what a reduction says of rows, in their order
abbrev pub reduced_rows : List Row → Reducer → Value
reduced_rows rows agg = reduction_of agg.op (map (value_in agg.column) rows)

-- the row of a key: its values, and then what each reduction says of the rows of this key
abbrev pub group_row : GroupShape → List Row → Row → Row
group_row shape rows key = key ++ map (reduced_rows (rows_of_key shape key rows)) shape.aggs

-- some row has this key
abbrev pub IsKeyOf : GroupShape → List Row → Row → Type 0
IsKeyOf shape rows key = (at : ℕ) × (row : Row) × (slice_get rows at ≡ Some row) × (cells_at shape.keys row ≡ key)

-- one row for each distinct key, in any order: the key, and what each reduction says of the rows of this key, in their order
pub record Grouped (shape : GroupShape) (rows list : List Row) : Type 0 where
  pub keys : List Row  -- the keys, in the order of the list
  pub once : HasKeysEachOnce keys
  pub each : (key : Row) → ((at : ℕ) × (slice_get keys at ≡ Some key)) ↔ IsKeyOf shape rows key
  pub rows_are : list ≡ map (group_row shape rows) keys

-- a row, and its place in the order of the input
pub record RowAt : Type 0 where
  pub at : ℕ
  pub row : Row

-- rows in the order of the input
abbrev pub in_order : List RowAt → List Row
in_order rows = map (λ r. r.row) (by_number (λ r. r.at) rows)

-- whether a key is one of these
abbrev pub is_among : Row → List Row → Bool
is_among key [] = false
is_among key (k ∷ keys) = if same_key key k then true else is_among key keys

-- keys, and those of others that are none of them, as they arrive
abbrev pub arrived : List Row → List Row → List Row
arrived known [] = known
arrived known (key ∷ keys) = arrived (if is_among key known then known else known ++ key ∷ []) keys

-- the keys of rows as they arrive, each once
abbrev pub distinct_keys : GroupShape → List RowAt → List Row
distinct_keys shape rows = arrived [] (map (λ r. cells_at shape.keys r.row) rows)

-- the rows of a key, as they arrive
abbrev pub rows_at_key : GroupShape → Row → List RowAt → List RowAt
rows_at_key shape key rows = passing (λ r. same_key key (cells_at shape.keys r.row)) rows
