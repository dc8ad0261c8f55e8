-- What is kept of rows for a reduction at a key, and what holds of it.
use Rattle.std.specs.Prelude.{◌≡◌, ◌≢◌, ◌++◌, ℕ, Option, Some, None, List, map, slice_get}
use Rattle.morsel_meaning.specs.Values.{Row}
use Rattle.morsel_keys.specs.Groups.{both_parts}
use Rattle.morsel_keys.specs.Reductions.{ValueAt, Entry, entry_of, plus_entries, finished}
use Rattle.morsel_group.specs.Asked.{Reducer, GroupShape}
use Rattle.morsel_group.specs.Grouping.{Grouped, RowAt, value_in, in_order, arrived, rows_at_key, distinct_keys}

-- the values that a reduction reads of rows, each with the place of its row
abbrev pub valued : Reducer → List RowAt → List ValueAt
valued agg rows = map (λ r. record { at = r.at; value = value_in agg.column r.row }) rows

-- what is kept of the rows of a key
abbrev pub kept_at : GroupShape → List RowAt → Reducer → Row → Option Entry
kept_at shape rows agg key = entry_of agg.op (valued agg (rows_at_key shape key rows))

-- the row of a key, by what was kept
abbrev pub kept_row : GroupShape → List RowAt → Row → Row
kept_row shape rows key = key ++ map (λ agg. finished agg.op (kept_at shape rows agg key)) shape.aggs

-- the keys of two lists of rows are those of the one, and then those of the other that are none of them
abbrev pub MergesKeys : Type 0
MergesKeys = (shape : GroupShape) (rows more : List RowAt) → distinct_keys shape (rows ++ more) ≡ arrived (distinct_keys shape rows) (distinct_keys shape more)

-- what is kept of two lists of rows at a key is what is kept of both, put together
abbrev pub MergesKept : Type 0
MergesKept = (shape : GroupShape) (rows more : List RowAt) (agg : Reducer) (key : Row)
    → kept_at shape (rows ++ more) agg key ≡ both_parts (plus_entries agg.op) (kept_at shape rows agg key) (kept_at shape more agg key)

-- a key that no row has has nothing
abbrev pub KeepsNothing : Type 0
KeepsNothing = (shape : GroupShape) (rows : List RowAt) (agg : Reducer) (key : Row) → ((at : ℕ) → slice_get (distinct_keys shape rows) at ≢ Some key) → kept_at shape rows agg key ≡ None

-- what was kept of rows, in whatever order they came, is the group-by of the rows in the order of the input
abbrev pub KeepsGrouped : Type 0
KeepsGrouped = (shape : GroupShape) (rows : List RowAt) → Grouped shape (in_order rows) (map (kept_row shape rows) (distinct_keys shape rows))
