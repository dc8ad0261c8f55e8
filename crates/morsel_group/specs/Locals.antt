-- What a local group-by has of the rows that it took.
use Rattle.std.specs.Prelude.{◌≡◌, ◌<◌, ◌≤◌, ◌++◌, ◌⊎◌, ℕ, Option, Some, None, List, [], ◌∷◌, length, map}
use Rattle.std.specs.List.{All}
use Rattle.morsel_meaning.specs.declared.value.ColType.TheVariants as types
use Rattle.morsel_meaning.specs.declared.value.Field.{Field}
use Rattle.morsel_meaning.specs.declared.fault.Fault.{Fault}
use Rattle.morsel_meaning.specs.declared.fault.Fault.TheVariants.{OutOfMemory, ComputeError}
use Rattle.morsel_meaning.specs.declared.fault.ComputeKind.TheVariants.{TooManyGroups, LenTooLarge, SumTooLarge}
use Rattle.morsel_meaning.specs.Values.{Row, kinds_of}
use Rattle.morsel_frame.specs.Tables.{fields_at}
use Rattle.morsel_keys.specs.declared.reduction.Reduction.TheVariants as ops
use Rattle.morsel_keys.specs.Slots.{no_number}
use Rattle.morsel_keys.specs.Reductions.{Entry, len_limit}
use Rattle.morsel_group.specs.declared.part.AggStates.{AggStates}
use Rattle.morsel_group.specs.declared.groups.Groups.{Groups}
use Rattle.morsel_group.specs.Asked.{GroupAsked, Reducer, GroupShape, shape_of, group_fields}
use Rattle.morsel_group.specs.Grouping.{RowAt, in_order, distinct_keys, rows_at_key}
use Rattle.morsel_group.specs.GroupCauses.{HasLargeTotal}
use Rattle.morsel_group.specs.Kept.{kept_at}
use Rattle.morsel_group.specs.Arrivals.{keyed_in}
use Rattle.morsel_group.specs.Parts.{IsPart}

-- the rows have more distinct keys than there may be
abbrev pub HasManyKeys : GroupShape → List RowAt → Type 0
HasManyKeys shape rows = no_number < length (distinct_keys shape rows)

-- some key has more rows than a group may have
abbrev pub HasLongGroup : GroupShape → List RowAt → Type 0
HasLongGroup shape rows = (key : Row) × (len_limit < length (rows_at_key shape key rows))

-- there may be as many keys, and as many rows of each
pub record AreFewEnough (shape : GroupShape) (rows : List RowAt) : Type 0 where
  pub keys : length (distinct_keys shape rows) ≤ no_number
  pub rows_each : (key : Row) → length (rows_at_key shape key rows) ≤ len_limit

-- why rows are refused: there are more keys than may be, or more rows of one; or memory is short
abbrev pub IsGroupFault : GroupShape → List RowAt → Fault → Type 0
IsGroupFault shape rows fault = (fault ≡ OutOfMemory)
    ⊎ ((fault ≡ ComputeError TooManyGroups 4294967295 0) × HasManyKeys shape rows)
    ⊎ ((fault ≡ ComputeError LenTooLarge 4294967295 0) × HasLongGroup shape rows)

-- each sum that is asked for has a total within 64 bits at each key
abbrev pub HasSums : GroupShape → List RowAt → Type 0
HasSums shape rows = HasLargeTotal shape (in_order rows) → ⊥

-- why no rows come out: the total of some sum at some key is outside 64 bits; or memory is short
abbrev pub IsSumFault : GroupShape → List RowAt → Fault → Type 0
IsSumFault shape rows fault = (fault ≡ OutOfMemory) ⊎ ((fault ≡ ComputeError SumTooLarge 4294967295 0) × HasLargeTotal shape (in_order rows))

-- a reduction, and the column that it reads
abbrev pub reducer_in : AggStates → Reducer
reducer_in part = record { op = part.states.op; column = part.column }

-- a local group-by, as contracts see it: the columns of its input, its shape, the columns of its rows, how many rows it took, its keys as they
-- arrived, how many rows each has, and what is kept of them
pub record HeldGroups : Type 0 where
  pub input : List Field
  pub shape : GroupShape
  pub output : List Field
  pub took : ℕ
  pub keys : List Row
  pub counts : List (Option Entry)
  pub kept : List (List (Option Entry))

-- the same, of the code's own parts
abbrev pub held_in : Groups → HeldGroups
held_in g = record {
  input = g.input;
  shape = record { keys = g.keys.items; aggs = map reducer_in g.parts.items };
  output = g.key_rows.schema ++ g.reduced;
  took = g.took;
  keys = (keyed_in g.table).keys;
  counts = g.counts.entries;
  kept = map (λ part. part.states.entries) g.parts.items;
}

-- the code's parts fit one another
pub record AreGroups (g : Groups) : Type 0 where
  pub within : All (λ at. at < length g.input) g.keys.items
  pub kinds : (keyed_in g.table).kinds ≡ kinds_of (fields_at g.input g.keys.items)
  pub key_fields : g.key_rows.schema ≡ fields_at g.input g.keys.items
  pub key_values : g.key_rows.rows ≡ (keyed_in g.table).keys
  pub counts_op : g.counts.op ≡ ops.Len
  pub counts_kind : g.counts.kind ≡ types.Int
  pub counts_len : length g.counts.entries ≡ length (keyed_in g.table).keys
  pub each_part : All (IsPart g.input (length (keyed_in g.table).keys)) g.parts.items
  pub reduced_kinds : kinds_of g.reduced ≡ map (λ part. part.kind) g.parts.items

-- there are no parts, or they fit one another
abbrev pub AreGroupsIfAny : Option Groups → Type 0
AreGroupsIfAny None = Unit {0}
AreGroupsIfAny (Some g) = AreGroups g

-- what each reduction has of each key, where it took these rows
abbrev pub KeepsGroupedRows : GroupShape → List RowAt → List Row → List Reducer → List (List (Option Entry)) → Type 0
KeepsGroupedRows shape rows keys [] [] = Unit {0}
KeepsGroupedRows shape rows keys [] (entries ∷ kept) = ⊥
KeepsGroupedRows shape rows keys (agg ∷ aggs) [] = ⊥
KeepsGroupedRows shape rows keys (agg ∷ aggs) (entries ∷ kept) = (entries ≡ map (kept_at shape rows agg) keys) × KeepsGroupedRows shape rows keys aggs kept

-- a count of rows
abbrev pub len_reducer : Reducer
len_reducer = record { op = ops.Len; column = None }

-- what a local group-by has is what these rows come to, in whatever order they arrived
pub record HasGroupedRows (held : HeldGroups) (rows : List RowAt) : Type 0 where
  pub took : held.took ≡ length rows
  pub keys : held.keys ≡ distinct_keys held.shape rows
  pub counts : held.counts ≡ map (kept_at held.shape rows len_reducer) held.keys
  pub kept : KeepsGroupedRows held.shape rows held.keys held.shape.aggs held.kept
  pub few : AreFewEnough held.shape rows

-- a local group-by has taken these rows; after a fault it has taken none
abbrev pub HasTakenRows : Option HeldGroups → List RowAt → Type 0
HasTakenRows None rows = ⊥
HasTakenRows (Some held) rows = HasGroupedRows held rows

-- each has taken its own rows
abbrev pub HaveTaken : List (Option HeldGroups) → List (List RowAt) → Type 0
HaveTaken [] [] = Unit {0}
HaveTaken [] (rows ∷ more) = ⊥
HaveTaken (local ∷ locals) [] = ⊥
HaveTaken (local ∷ locals) (rows ∷ more) = HasTakenRows local rows × HaveTaken locals more

-- there are no groups where there are no rows, and else they have these rows
abbrev pub HaveRowsIfAny : Option Groups → List RowAt → Type 0
HaveRowsIfAny None rows = rows ≡ []
HaveRowsIfAny (Some g) rows = HasGroupedRows (held_in g) rows

-- it is the group-by that was asked for, over these columns
abbrev pub IsGroupBy : List Field → GroupAsked → Option HeldGroups → Type 0
IsGroupBy fields asked None = ⊥
IsGroupBy fields asked (Some held) = (held.input ≡ fields) × (held.shape ≡ shape_of fields asked) × (held.output ≡ group_fields fields asked)

-- it takes rows of these columns; after a fault, of any
abbrev pub TakesColumns : List Field → Option HeldGroups → Type 0
TakesColumns fields None = Unit {0}
TakesColumns fields (Some held) = fields ≡ held.input

-- two are the same group-by over the same columns; after a fault, any
abbrev pub AreSameGroupBy : Option HeldGroups → Option HeldGroups → Type 0
AreSameGroupBy None other = Unit {0}
AreSameGroupBy (Some held) None = Unit {0}
AreSameGroupBy (Some held) (Some other) = (other.input ≡ held.input) × (other.shape ≡ held.shape) × (other.output ≡ held.output)

-- one that had no fault is the same group-by over the same columns then
abbrev pub StaysGroupBy : Option HeldGroups → Option HeldGroups → Type 0
StaysGroupBy None other = Unit {0}
StaysGroupBy (Some held) None = ⊥
StaysGroupBy (Some held) (Some other) = (other.input ≡ held.input) × (other.shape ≡ held.shape) × (other.output ≡ held.output)

-- the shape of one that had no fault
abbrev pub HasShape : Option HeldGroups → GroupShape → Type 0
HasShape None shape = ⊥
HasShape (Some held) shape = held.shape ≡ shape

-- the columns of its rows
abbrev pub HasOutput : Option HeldGroups → List Field → Type 0
HasOutput None fields = ⊥
HasOutput (Some held) fields = held.output ≡ fields
