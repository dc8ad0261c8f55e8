-- What local groups do: rows are put to the groups of their keys, and groups to those of others.
use Rattle.std.specs.Prelude.{◌≡◌, ◌+◌, ◌++◌, ℕ, List, [], ◌∷◌, length, map}
use Rattle.morsel_meaning.specs.Values.{Row}
use Rattle.morsel_frame.specs.Tables.{cells_at}
use Rattle.morsel_keys.specs.Slots.{NumbersAll}
use Rattle.morsel_states.specs.GroupParts.{with_group_parts}
use Rattle.morsel_states.specs.GroupRows.{group_rows, with_group_rows}
use Rattle.morsel_states.specs.States.{with_groups}
use Rattle.morsel_group.specs.Asked.{Reducer, GroupShape}
use Rattle.morsel_group.specs.Grouping.{RowAt, value_in, distinct_keys}
use Rattle.morsel_group.specs.Kept.{kept_at}

-- rows that arrive one after the other, from a place on
abbrev pub placed_rows : ℕ → List Row → List RowAt
placed_rows at [] = []
placed_rows at (row ∷ rows) = (record { at = at; row = row }) ∷ placed_rows (at + 1) rows

-- where the keys of more rows get numbers among those of rows before, there are the keys of all
abbrev pub NumbersKeys : Type 0
NumbersKeys = (shape : GroupShape) (rows : List RowAt) (place : ℕ) (more : List Row) (numbers : List ℕ) (keys : List Row)
    → NumbersAll (distinct_keys shape rows) (map (cells_at shape.keys) more) numbers keys → keys ≡ distinct_keys shape (rows ++ placed_rows place more)

-- where the rows are put to the groups of these numbers, each group has what is kept of all rows
abbrev pub TakesMoreRows : Type 0
TakesMoreRows = (shape : GroupShape) (agg : Reducer) (rows : List RowAt) (place : ℕ) (more : List Row) (numbers : List ℕ) (keys : List Row)
    → NumbersAll (distinct_keys shape rows) (map (cells_at shape.keys) more) numbers keys
    → with_group_rows agg.op (with_groups (length keys) (map (kept_at shape rows agg) (distinct_keys shape rows))) (group_rows place numbers (map (value_in agg.column) more))
    ≡ map (kept_at shape (rows ++ placed_rows place more) agg) keys

-- where the keys of others get numbers among those of rows, there are the keys of both
abbrev pub NumbersOthers : Type 0
NumbersOthers = (shape : GroupShape) (rows more : List RowAt) (numbers : List ℕ) (keys : List Row)
    → NumbersAll (distinct_keys shape rows) (distinct_keys shape more) numbers keys → keys ≡ distinct_keys shape (rows ++ more)

-- where what others have is put to the groups of these numbers, each group has what is kept of the rows of both
abbrev pub TakesOthers : Type 0
TakesOthers = (shape : GroupShape) (agg : Reducer) (rows more : List RowAt) (numbers : List ℕ) (keys : List Row)
    → NumbersAll (distinct_keys shape rows) (distinct_keys shape more) numbers keys
    → with_group_parts agg.op (with_groups (length keys) (map (kept_at shape rows agg) (distinct_keys shape rows))) numbers (map (kept_at shape more agg) (distinct_keys shape more))
    ≡ map (kept_at shape (rows ++ more) agg) keys
