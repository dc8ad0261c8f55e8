-- What is asked of a group-by, by name, and where its columns are.
use Rattle.std.specs.Prelude.{ℕ, Option, Some, None, List, [], ◌∷◌, ◌++◌, map, drop, option_map}
use Rattle.morsel_meaning.specs.declared.value.ColType.{ColType}
use Rattle.morsel_meaning.specs.declared.value.ColType.TheVariants as types
use Rattle.morsel_meaning.specs.declared.value.Field.{Field}
use Rattle.morsel_frame.specs.Tables.{fields_at}
use Rattle.morsel_expr.specs.Predicates.{place_of}
use Rattle.morsel_keys.specs.declared.reduction.Reduction.{Reduction}
use Rattle.morsel_keys.specs.declared.reduction.Reduction.TheVariants as ops
use Rattle.morsel_keys.specs.Reductions.{reduced_kind}
use Rattle.morsel_group.specs.declared.spec.Agg.{Agg}

-- what is asked of a group-by: the names of its keys, and its reductions
pub record GroupAsked : Type 0 where
  pub keys : List (List ℕ)
  pub aggs : List Agg

-- a count of rows has no column, and each other reduction has one
abbrev pub HasItsColumn : Reduction → Option (List ℕ) → Type 0
HasItsColumn ops.Len None = Unit {0}
HasItsColumn ops.Len (Some name) = ⊥
HasItsColumn op None = ⊥
HasItsColumn op (Some name) = Unit {0}

-- each reduction has its column
abbrev pub HaveColumns : List Agg → Type 0
HaveColumns [] = Unit {0}
HaveColumns (agg ∷ aggs) = HasItsColumn agg.op agg.column × HaveColumns aggs

-- the names of the columns of its rows: the keys, and then the reductions
abbrev pub output_names : GroupAsked → List (List ℕ)
output_names asked = asked.keys ++ map (λ agg. agg.output) asked.aggs

-- a reduction of the values of a column at a place, or of rows
pub record Reducer : Type 0 where
  pub op : Reduction
  pub column : Option ℕ

-- a group-by whose columns are found: the places of its keys, and its reductions
pub record GroupShape : Type 0 where
  pub keys : List ℕ
  pub aggs : List Reducer

-- the place that is found, where one is
abbrev pub place_or_first : Option ℕ → ℕ
place_or_first None = 0
place_or_first (Some at) = at

-- the place of the column of a name that there is
abbrev pub column_place : List Field → List ℕ → ℕ
column_place fields name = place_or_first (place_of fields name)

-- a reduction whose column is found
abbrev pub reducer_of : List Field → Agg → Reducer
reducer_of fields agg = record { op = agg.op; column = option_map (column_place fields) agg.column }

-- the shape of what is asked, over these columns
abbrev pub shape_of : List Field → GroupAsked → GroupShape
shape_of fields asked = record { keys = map (column_place fields) asked.keys; aggs = map (reducer_of fields) asked.aggs }

-- the type of the columns at a place; of rows that are counted, numbers
abbrev pub kind_of_fields : List Field → ColType
kind_of_fields [] = types.Int
kind_of_fields (field ∷ fields) = field.kind

-- the type of the values that are reduced
abbrev pub kind_in : List Field → Option ℕ → ColType
kind_in fields None = types.Int
kind_in fields (Some at) = kind_of_fields (drop at fields)

-- the column of a reduction
abbrev pub agg_field : List Field → Agg → Field
agg_field fields agg = record { name = agg.output; kind = reduced_kind agg.op (kind_in fields (option_map (column_place fields) agg.column)) }

-- the columns of its rows: the keys in their order, and then the reductions
abbrev pub group_fields : List Field → GroupAsked → List Field
group_fields fields asked = fields_at fields (map (column_place fields) asked.keys) ++ map (agg_field fields) asked.aggs
