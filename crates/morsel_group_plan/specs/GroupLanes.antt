-- What the lanes of a group-by's rows are for, and what it has between the runs of its phases.
use Rattle.std.specs.Prelude.{◌≡◌, ◌⊎◌, ℕ, ◌+◌, ◌*◌, ◌^◌, ◌<◌, ◌≤◌, IfErr, Result, Ok, Err, List, [], ◌∷◌, Some, length}
use Rattle.atomic_table.specs.Seated.{TableId}
use Rattle.morsel_meaning.specs.declared.fault.Fault.{Fault}
use Rattle.morsel_meaning.specs.Values.{Row}
use Rattle.morsel_outside.specs.Outside.{Outside}
use Rattle.morsel_read.specs.ScanReads.{HasGivenRows}
use Rattle.morsel_scan_units.specs.LaneJobs.{LaneFor}
use Rattle.morsel_scan_units.specs.LaneRows.{PlacesYield}
use Rattle.morsel_line.specs.RowStages.{GivenRows, StageSeen}
use Rattle.morsel_group.specs.Grouping.{Grouped}
use Rattle.morsel_group.specs.GroupCauses.{FitsGroups, GroupCause}
use Rattle.morsel_group_units.specs.GroupAsks.{GroupRulesSeen, rules_output, rules_shape}
use Rattle.morsel_group_phases.specs.LaneEnds.{TookFrom}
use Rattle.morsel_group_phases.specs.declared.places.GroupAt.TheVariants as at
use Rattle.morsel_group_phases.specs.GroupPhases.{ends_of_group, group_at, group_rules}
use Rattle.morsel_group_phases.specs.declared.phase.GroupPhase.{GroupPhase}
use Rattle.morsel_keep_run.specs.KeepRuns.{KeepsScan}
use Rattle.morsel_emit_run.specs.EmitRuns.{WritesPlace}
use Rattle.morsel_join_plan.specs.JoinLanes.{rows_lane}
use Rattle.morsel_join_plan.specs.JoinRuns.{IsLeftSo, JoinScan}
use Rattle.morsel_group_plan.specs.GroupRuns.{IsLastFault}

-- rows are those of all places of these lanes up to their ends
abbrev pub AreRowsTo : List (LaneFor × ℕ) → List Row → Type 0
AreRowsTo ends rows = ∥ TookFrom PlacesYield ends rows ∥₁

-- of all rows of lanes that end so a group-by has no answer
pub record HasCauseTo (group : GroupRulesSeen) (ends : List (LaneFor × ℕ)) (fault : Fault) : Type 0 where
  pub rows : List Row
  pub are : AreRowsTo ends rows
  pub cause : GroupCause (rules_shape group) rows fault

-- a group-by that is asked for this takes rows, of lanes that end so
pub record TakesTo {K : Type 0} {a b : _} (phase : GroupPhase K LaneFor a b) (group : GroupRulesSeen) (ends : List (LaneFor × ℕ)) : Type 0 where
  pub takes : group_at phase ≡ at.Sink
  pub rules_are : group_rules phase ≡ Some group
  pub ends_are : ends_of_group phase ≡ Some ends

-- it took all rows of a scan
pub record HasTakenScan {K : Type 0} {a b : _} (phase : GroupPhase K LaneFor a b) (scan : JoinScan) (group : GroupRulesSeen) (before after : Outside) : Type 0 where
  pub given : ℕ
  pub keeps : KeepsScan scan.scan scan.reader before (Ok given) after
  pub tokens : TableId
  pub takes : TakesTo phase group ((rows_lane scan.scan scan.reader before tokens, given) ∷ [])

-- of all rows of lanes that end so a group-by is these rows, which a stage gives
pub record GivesStage (group : GroupRulesSeen) (ends : List (LaneFor × ℕ)) (stage : StageSeen) : Type 0 where
  pub rows : List Row
  pub are : AreRowsTo ends rows
  pub groups : List Row
  pub grouped : Grouped (rules_shape group) rows groups
  pub fits : FitsGroups (rules_shape group) rows
  pub few : length groups ≤ length rows
  pub stage_is : stage ≡ GivenRows (rules_output group) groups

-- all rows were taken, of lanes that end so: they have no answer, and nothing was done; or the answer was written; or memory ran out before that
abbrev pub GivesGroups : JoinScan → GroupRulesSeen → List (LaneFor × ℕ) → Outside → Outside → Result ℕ Fault → Outside → Type 0
GivesGroups scan group ends opened before result after = IsLeftSo before result after
    ⊎ ((fault : Fault) × (result ≡ Err fault) × (after ≡ before) × HasCauseTo group ends fault)
    ⊎ ((rows : List Row) × (groups : List Row) × AreRowsTo ends rows × Grouped (rules_shape group) rows groups × FitsGroups (rules_shape group) rows × (length groups ≤ length rows)
    × WritesPlace scan.scan scan.reader opened (GivenRows (rules_output group) groups) before result after × IfErr result IsLastFault)

-- few sweeps were made for each row of the group-by, of which there are no more than rows, where it is told what the files contain
pub record SweepsGiving (scan : JoinScan) (ends : List (LaneFor × ℕ)) (opened : Outside) (before after : ℕ) : Type 0 where
  pub groups : ℕ
  pub few : after ≤ before + 2048 + 512 * groups
  pub small : groups < 2 ^ 64
  pub within : (files : List (List ℕ)) → HasGivenRows scan.scan files opened scan.reader → (groups ≡ 0) ⊎ ((rows : List Row) × AreRowsTo ends rows × (groups ≤ length rows))
