-- Why a group-by of rows has no answer.
use Rattle.std.specs.Prelude.{◌≡◌, ◌<◌, ℕ, Some, List, length, map, slice_get}
use Rattle.std.specs.List.{All}
use Rattle.morsel_meaning.specs.declared.fault.Fault.{Fault}
use Rattle.morsel_meaning.specs.declared.fault.Fault.TheVariants.{ComputeError}
use Rattle.morsel_meaning.specs.declared.fault.ComputeKind.TheVariants.{TooManyGroups, LenTooLarge, SumTooLarge}
use Rattle.morsel_meaning.specs.Values.{Row}
use Rattle.morsel_keys.specs.declared.reduction.Reduction.TheVariants as ops
use Rattle.morsel_keys.specs.Slots.{HasKeysEachOnce, no_number}
use Rattle.morsel_keys.specs.Reductions.{len_limit, total_of, sum_fault}
use Rattle.morsel_group.specs.Asked.{Reducer, GroupShape}
use Rattle.morsel_group.specs.Grouping.{IsKeyOf, rows_of_key, value_in}

-- the rows have more keys than there may be groups
pub record HasManyGroups (shape : GroupShape) (rows : List Row) : Type 0 where
  pub keys : List Row
  pub once : HasKeysEachOnce keys
  pub each : All (IsKeyOf shape rows) keys
  pub many : no_number < length keys

-- some key has more rows than a group may have
abbrev pub HasLongRows : GroupShape → List Row → Type 0
HasLongRows shape rows = (key : Row) × (len_limit < length (rows_of_key shape key rows))

-- a sum that is asked for has a total outside 64 bits at some key
pub record HasLargeTotal (shape : GroupShape) (rows : List Row) : Type 0 where
  pub place : ℕ
  pub agg : Reducer
  pub asked : slice_get shape.aggs place ≡ Some agg
  pub is_sum : agg.op ≡ ops.Sum
  pub key : Row
  pub large : sum_fault (total_of (map (value_in agg.column) (rows_of_key shape key rows))) ≡ Some (ComputeError SumTooLarge 4294967295 0)

-- why a group-by of these rows has no answer: too many keys, too many rows of one, or too large a sum; nothing else
abbrev pub GroupCause : GroupShape → List Row → Fault → Type 0
GroupCause shape rows (ComputeError TooManyGroups file at) = (file ≡ 4294967295) × (at ≡ 0) × HasManyGroups shape rows
GroupCause shape rows (ComputeError LenTooLarge file at) = (file ≡ 4294967295) × (at ≡ 0) × HasLongRows shape rows
GroupCause shape rows (ComputeError SumTooLarge file at) = (file ≡ 4294967295) × (at ≡ 0) × HasLargeTotal shape rows
GroupCause shape rows fault = ⊥

-- a group-by of these rows has an answer, where there is memory
pub record FitsGroups (shape : GroupShape) (rows : List Row) : Type 0 where
  pub few : HasManyGroups shape rows → ⊥
  pub short : HasLongRows shape rows → ⊥
  pub small : HasLargeTotal shape rows → ⊥
