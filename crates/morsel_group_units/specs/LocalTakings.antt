-- What local groups have of the loads that were taken, or the fault that some of their rows had.
use Rattle.std.specs.Prelude.{◌≡◌, ◌++◌, ℕ, Option, Some, None, List, length}
use Rattle.std.specs.List.{All, flat_map}
use Rattle.morsel_meaning.specs.declared.fault.Fault.{Fault}
use Rattle.morsel_meaning.specs.Often.{AsOften}
use Rattle.morsel_group.specs.Asked.{GroupShape}
use Rattle.morsel_group.specs.Grouping.{RowAt}
use Rattle.morsel_group.specs.Locals.{HasTakenRows, HaveTaken, HeldGroups, IsGroupBy, IsGroupFault}
use Rattle.morsel_group_units.specs.GroupAsks.{GroupRulesSeen, rules_shape}
use Rattle.morsel_group_units.specs.TakenLoads.{placed_loads}
use Rattle.morsel_group_units.specs.declared.taken_load.TakenLoad.{TakenLoad}

-- some of these rows have a fault, whatever comes beside them
pub record HaveFault (shape : GroupShape) (all : List RowAt) (fault : Fault) : Type 0 where
  pub some : List RowAt
  pub others : List RowAt
  pub same : AsOften (some ++ others) all
  pub fault_is : IsGroupFault shape some fault

-- the groups of a unit have taken the rows of these loads, so many
pub record HoldsRows (rules : GroupRulesSeen) (groups : Option HeldGroups) (rows : ℕ) (loads : List TakenLoad) : Type 0 where
  pub group_by : IsGroupBy rules.columns rules.asked groups
  pub taken : HasTakenRows groups (placed_loads loads)
  pub count : rows ≡ length (placed_loads loads)

-- they have, or some of the rows have this fault
abbrev pub HoldsLoads : GroupRulesSeen → Option HeldGroups → ℕ → Option Fault → List TakenLoad → Type 0
HoldsLoads rules groups rows None loads = HoldsRows rules groups rows loads
HoldsLoads rules groups rows (Some fault) loads = HaveFault (rules_shape rules) (placed_loads loads) fault

-- several groups have taken the rows of these loads, each some of them
pub record HoldAllRows (rules : GroupRulesSeen) (locals : List (Option HeldGroups)) (loads : List TakenLoad) : Type 0 where
  pub group_by : All (IsGroupBy rules.columns rules.asked) locals
  pub lists : List (List RowAt)
  pub taken : HaveTaken locals lists
  pub same : AsOften (flat_map (λ own. own) lists) (placed_loads loads)

-- they have, or some of the rows have this fault
abbrev pub HoldAllLoads : GroupRulesSeen → List (Option HeldGroups) → Option Fault → List TakenLoad → Type 0
HoldAllLoads rules locals None loads = HoldAllRows rules locals loads
HoldAllLoads rules locals (Some fault) loads = HaveFault (rules_shape rules) (placed_loads loads) fault
