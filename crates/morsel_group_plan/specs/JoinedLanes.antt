-- What the lanes are for that carry the rows of a join, where those are grouped, and what was done with them.
use Rattle.std.specs.Prelude.{◌≡◌, ◌⊎◌, if◌then◌else◌, ℕ, ◌+◌, ◌*◌, ◌^◌, ◌<◌, ◌≤◌, Ok, List, [], ◌∷◌, Some, length}
use Rattle.atomic_table.specs.Seated.{TableId}
use Rattle.morsel_meaning.specs.Values.{Row}
use Rattle.morsel_outside.specs.Outside.{Outside}
use Rattle.morsel_read.specs.ScanReads.{HasGivenRows}
use Rattle.morsel_drain.specs.Finding.{IsRowsEnd}
use Rattle.morsel_join.specs.Sides.{KeptSide, wants_kept}
use Rattle.morsel_line.specs.RowStages.{AloneRows, FoundRows}
use Rattle.morsel_line.specs.ScanJobs.{IsJobPiece}
use Rattle.morsel_line.specs.ScanRuns.{job_of}
use Rattle.morsel_scan_units.specs.LaneJobs.{LaneFor}
use Rattle.morsel_group_units.specs.GroupAsks.{GroupRulesSeen}
use Rattle.morsel_group_phases.specs.declared.places.GroupAt.TheVariants as at
use Rattle.morsel_group_phases.specs.declared.phase.GroupPhase.{GroupPhase}
use Rattle.morsel_group_phases.specs.GroupPhases.{group_at, group_job, group_rules, past_ends}
use Rattle.morsel_keep_run.specs.KeepRuns.{KeepsScan}
use Rattle.morsel_join_plan.specs.JoinLanes.{rows_lane}
use Rattle.morsel_join_plan.specs.JoinRuns.{JoinScan, scan_size}
use Rattle.morsel_group_plan.specs.GroupLanes.{TakesTo}
use Rattle.morsel_group_plan.specs.GroupRuns.{JoinGives}

-- the lane of what rows find on this side, where their lane is this; and that of the kept rows that none of them finds
abbrev pub found_lane : KeptSide → LaneFor → LaneFor
found_lane side rows = record rows { stage = FoundRows side }

abbrev pub alone_lane : KeptSide → LaneFor → LaneFor
alone_lane side rows = record rows { stage = AloneRows side }

-- where the lanes of a join's rows end: those of what the rows up to a place find, and those of the kept rows that none finds, where the kind of the join has them
abbrev pub joined_ends : KeptSide → LaneFor → ℕ → List (LaneFor × ℕ)
joined_ends side rows given = (found_lane side rows, given) ∷ (if wants_kept side then (alone_lane side rows, 1) ∷ [] else [])

-- a group-by that is asked for this has taken nothing yet; the rows that it is to take are those of this lane
pub record HasTakenNone {K : Type 0} {a b : _} (phase : GroupPhase K LaneFor a b) (group : GroupRulesSeen) (lane : LaneFor) : Type 0 where
  pub takes : group_at phase ≡ at.Sink
  pub rules_are : group_rules phase ≡ Some group
  pub lane_is : group_job phase ≡ Some lane
  pub none : past_ends phase ≡ []

-- a group-by took all rows of a join, of which the kept side is this and the other one this scan
pub record HasTakenJoined {K : Type 0} {a b : _} (phase : GroupPhase K LaneFor a b) (asked : JoinScan) (side : KeptSide) (group : GroupRulesSeen) (before after : Outside) : Type 0 where
  pub given : ℕ
  pub keeps : KeepsScan asked.scan asked.reader before (Ok given) after
  pub tokens : TableId
  pub takes : TakesTo phase group (joined_ends side (rows_lane asked.scan asked.reader before tokens) given)

-- few sweeps were made for each byte of the files of the other scan, and for each row that its rows may find on this side
pub record SweepsTaken (asked : JoinScan) (side : KeptSide) (opened : Outside) (before after : ℕ) : Type 0 where
  pub per_row : ℕ
  pub looked_up : ℕ
  pub few : after ≤ before + 512 * (scan_size asked opened + 1) + 512 * (per_row * looked_up)
  pub kept_small : per_row ≤ 4294967295
  pub asked_small : looked_up ≤ 4294967295
  pub finds : per_row ≤ length side.rows
  pub ends : (others : List (List ℕ)) → HasGivenRows asked.scan others opened asked.reader → IsRowsEnd (IsJobPiece (job_of asked.scan asked.reader others)) looked_up

-- and then few for each row of the group-by, of which there are no more than rows of the join
pub record SweepsGrouped (asked : JoinScan) (side : KeptSide) (opened : Outside) (before after : ℕ) : Type 0 where
  pub between : ℕ
  pub taken : SweepsTaken asked side opened before between
  pub groups : ℕ
  pub few : after ≤ between + 2048 + 512 * groups
  pub groups_small : groups < 2 ^ 64
  pub within : (others : List (List ℕ)) → HasGivenRows asked.scan others opened asked.reader → (groups ≡ 0) ⊎ ((to : ℕ) × (rows : List Row) × JoinGives asked side to others rows × (groups ≤ length rows))
