-- What the lanes of a join of two scans are for, and what its node has between its phases.
use Rattle.std.specs.Prelude.{◌≡◌, ◌⊎◌, ℕ, ◌+◌, ◌*◌, ◌^◌, ◌<◌, ◌≤◌, Result, Ok, Err, List, Some, length}
use Rattle.atomic_table.specs.Seated.{TableId}
use Rattle.morsel_meaning.specs.declared.fault.Fault.{Fault}
use Rattle.morsel_meaning.specs.declared.fault.Fault.TheVariants as faults
use Rattle.morsel_meaning.specs.declared.value.Field.{Field}
use Rattle.morsel_outside.specs.Outside.{Outside}
use Rattle.morsel_load.specs.declared.load.LoadKind.TheVariants.{Morsels}
use Rattle.morsel_lane_pipe.specs.Tasks.{HoldsTokensOf}
use Rattle.morsel_scan.specs.Scans.{CsvScan}
use Rattle.morsel_scan.specs.StretchRows.{before_fault}
use Rattle.morsel_read.specs.ScanReads.{PiecesRead, HasGivenRows}
use Rattle.morsel_join.specs.declared.build_side.Build.{Build}
use Rattle.morsel_join.specs.declared.rules.JoinRules.{JoinRules}
use Rattle.morsel_join.specs.BuildSides.{IsBuild, kept_side}
use Rattle.morsel_join.specs.Sides.{KeptSide, rows_found, rows_alone}
use Rattle.morsel_line.specs.RowStages.{ScannedRows}
use Rattle.morsel_line.specs.ScanJobs.{scan_axis}
use Rattle.morsel_line.specs.ScanRuns.{job_of}
use Rattle.morsel_scan_units.specs.LaneJobs.{LaneFor}
use Rattle.morsel_scan_units.specs.LaneRows.{PlacesGive}
use Rattle.morsel_join_phases.specs.declared.places.JoinAt.TheVariants as at
use Rattle.morsel_join_phases.specs.declared.phase.JoinPhase.{JoinPhase}
use Rattle.morsel_join_phases.specs.JoinPhases.{asked_job_of, asked_of, asked_to_of, at_of, build_of, kept_job_of}
use Rattle.morsel_keep_run.specs.KeepRuns.{KeepsScan}
use Rattle.morsel_join_plan.specs.JoinRuns.{JoinScan, HasKept, IsLeftSo, WritesJoin, scan_size}

-- the lane of the rows of a scan whose files this reader is to read from this outside, with tokens of this table
abbrev pub rows_lane : CsvScan → PiecesRead → Outside → TableId → LaneFor
rows_lane scan reader outside tokens = record { kind = Morsels; scan = scan; reader = reader; outside = outside; tokens = tokens; stage = ScannedRows }

-- the tokens of lanes with tokens of the first table are those of the second one
abbrev pub HoldsTokensAt : {Token : Type 0} → (LaneFor → Token → Type 0) → (Token → TableId) → TableId → TableId → Type 0
HoldsTokensAt holds home tokens table = (lane : LaneFor) → lane.tokens ≡ tokens → HoldsTokensOf holds home lane table

-- a join has the rows by their keys that the first places of its lanes give, up to this one
pub record HasKeptTo {K : Type 0} {a b : _} (phase : JoinPhase K LaneFor a b) (given : ℕ) : Type 0 where
  pub build : Build
  pub build_is : build_of phase ≡ Some build
  pub built : IsBuild build
  pub lane : LaneFor
  pub lane_is : kept_job_of phase ≡ Some lane
  pub gives : ∥ PlacesGive lane 0 given (kept_side build).rows ∥₁

-- it has the kept rows of a scan by their keys
pub record HasKeptScan {K : Type 0} {a b : _} (phase : JoinPhase K LaneFor a b) (kept : JoinScan) (rules : JoinRules) (before after : Outside) : Type 0 where
  pub build : Build
  pub build_is : build_of phase ≡ Some build
  pub has : HasKept kept rules (kept_side build) before after

-- the columns of the rows that it looks up are these, while it has them
abbrev pub AsksFor : {K : Type 0} {a b : _} → JoinPhase K LaneFor a b → List Field → Type 0
AsksFor phase columns = (asked : List Field) → asked_of phase ≡ Some asked → asked ≡ columns

-- it has all rows looked up of this lane's first places, up to this one, in these kept rows
pub record HasAskedTo {K : Type 0} {a b : _} (phase : JoinPhase K LaneFor a b) (build : Build) (lane : LaneFor) (given : ℕ) : Type 0 where
  pub to_is : asked_to_of phase ≡ Some given
  pub build_is : build_of phase ≡ Some build
  pub lane_is : asked_job_of phase ≡ Some lane

-- it looked rows up, or nothing is left to do; what it has of kept rows, and of lanes whose rows are looked up, are these
pub record HasJust {K : Type 0} {a b : _} (phase : JoinPhase K LaneFor a b) (build : Build) (lane : LaneFor) : Type 0 where
  pub at : (at_of phase ≡ at.Probe) ⊎ (at_of phase ≡ at.Done)
  pub build_is : (other : Build) → build_of phase ≡ Some other → other ≡ build
  pub lane_is : (other : LaneFor) → asked_job_of phase ≡ Some other → other ≡ lane

-- rows of a scan could not be kept: memory ran out before anything was done, or the run of the scan has the fault, or memory ran out behind it
abbrev pub StopsKept : JoinScan → Outside → Fault → Outside → Type 0
StopsKept kept before fault after = IsLeftSo before (Err fault) after
    ⊎ KeepsScan kept.scan kept.reader before (Err fault) after
    ⊎ ((given : ℕ) × KeepsScan kept.scan kept.reader before (Ok given) after × (fault ≡ faults.OutOfMemory))

-- few sweeps were made for each byte of the files and for each row that was written, and no more rows were written than those rows find and leave on this side
pub record SweepsRest (asked : JoinScan) (side : KeptSide) (opened : Outside) (before after : ℕ) : Type 0 where
  pub rows : ℕ
  pub few : after ≤ before + 1024 * (scan_size asked opened + 3) + 512 * rows
  pub small : rows < 2 ^ 65
  pub within : (others : List (List ℕ)) → HasGivenRows asked.scan others opened asked.reader
      → (let looked_up = before_fault (scan_axis (job_of asked.scan asked.reader others)).gives in rows ≤ length (rows_found side looked_up) + length (rows_alone side looked_up))

-- what the rows of a scan find was written, and then the kept rows that none finds; or memory ran out before anything was done
abbrev pub WritesRest : JoinScan → KeptSide → ℕ → Outside → Result ℕ Fault → Outside → Type 0
WritesRest asked side bound before result after = IsLeftSo before result after ⊎ WritesJoin asked side bound before result after
