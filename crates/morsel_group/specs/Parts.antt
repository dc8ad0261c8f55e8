-- What each reduction has of each group, in the code's own words.
use Rattle.std.specs.Prelude.{◌≡◌, ◌<◌, ℕ, Option, Some, None, List, [], ◌∷◌, length, map, drop, get_or, slice_get}
use Rattle.morsel_meaning.specs.declared.value.ColType.TheVariants as types
use Rattle.morsel_meaning.specs.declared.value.Field.{Field}
use Rattle.morsel_meaning.specs.declared.fault.Fault.{Fault}
use Rattle.morsel_meaning.specs.Values.{Row}
use Rattle.morsel_frame.specs.Columns.{Values}
use Rattle.morsel_keys.specs.declared.reduction.Reduction.TheVariants as ops
use Rattle.morsel_keys.specs.Reductions.{finished, reduced_kind, total_fault}
use Rattle.morsel_states.specs.GroupParts.{with_group_parts}
use Rattle.morsel_states.specs.GroupRows.{group_rows, with_group_rows}
use Rattle.morsel_states.specs.States.{GroupStates, with_groups}
use Rattle.morsel_group.specs.declared.part.AggStates.{AggStates}
use Rattle.morsel_group.specs.Asked.{kind_of_fields}
use Rattle.morsel_group.specs.Grouping.{value_in}

-- a reduction reads a column of its type, or counts rows
abbrev pub ReadsColumn : List Field → GroupStates → Option ℕ → Type 0
ReadsColumn fields states None = (states.op ≡ ops.Len) × (states.kind ≡ types.Int)
ReadsColumn fields states (Some at) = (at < length fields) × (kind_of_fields (drop at fields) ≡ states.kind)

-- a part reads its column, says values of its type, and has so many groups
pub record IsPart (fields : List Field) (count : ℕ) (part : AggStates) : Type 0 where
  pub reads : ReadsColumn fields part.states part.column
  pub kind : part.kind ≡ reduced_kind part.states.op part.states.kind
  pub groups : length part.states.entries ≡ count

-- a part with rows put to their groups, of which there are so many
abbrev pub updated_part : ℕ → ℕ → List ℕ → List Row → AggStates → AggStates
updated_part count at numbers rows part = record part { states = record part.states { entries = with_group_rows part.states.op (with_groups count part.states.entries) (group_rows at numbers (map (value_in part.column) rows)) } }

-- a part with what another has put to these groups, of which there are so many
abbrev pub joined_part : ℕ → List ℕ → AggStates → AggStates → AggStates
joined_part count numbers other part = record part { states = record part.states { entries = with_group_parts part.states.op (with_groups count part.states.entries) numbers other.states.entries } }

-- parts with what others have put to these groups, each to the one at its place
abbrev pub joined_parts : ℕ → List ℕ → List AggStates → List AggStates → List AggStates
joined_parts count numbers [] others = []
joined_parts count numbers (part ∷ parts) [] = part ∷ parts
joined_parts count numbers (part ∷ parts) (other ∷ others) = joined_part count numbers other part ∷ joined_parts count numbers parts others

-- two parts are of one reduction of one column
pub record AreSameReduction (part other : AggStates) : Type 0 where
  pub op : other.states.op ≡ part.states.op
  pub kind : other.states.kind ≡ part.states.kind

-- what a reduction says of each group, as a column
abbrev pub finished_values : AggStates → Values
finished_values part = record { kind = part.kind; values = map (finished part.states.op) part.states.entries }

-- a group's total is refused
abbrev pub RefusesGroup : AggStates → Fault → Type 0
RefusesGroup part fault = (group : ℕ) × (group < length part.states.entries) × (total_fault part.states.op (get_or part.states.entries group None) ≡ Some fault)

-- a total of a group of one of these is refused
abbrev pub RefusesSome : List AggStates → Fault → Type 0
RefusesSome parts fault = (place : ℕ) × (part : AggStates) × (slice_get parts place ≡ Some part) × RefusesGroup part fault

-- no group's total is refused
abbrev pub RefusesNone : AggStates → Type 0
RefusesNone part = (group : ℕ) → group < length part.states.entries → total_fault part.states.op (get_or part.states.entries group None) ≡ None
