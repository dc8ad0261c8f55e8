-- What a join asks of its lanes in its last two phases, and what it has behind them.
use Rattle.std.proofs.Common.{◌≡◌, ℕ, List, Result, Some, refl, sym, ap, subst, ◌∙◌, arith}
use Rattle.atomic_table.specs.Seated.{TableId}
use Rattle.morsel_meaning.specs.declared.fault.Fault.{Fault}
use Rattle.morsel_meaning.specs.declared.value.Field.{Field}
use Rattle.morsel_outside.specs.Outside.{Outside}
use Rattle.morsel_load.specs.declared.load.LoadKind.TheVariants.{Morsels, Parts}
use Rattle.morsel_scan.specs.Scans.{CsvScan}
use Rattle.morsel_read.specs.ScanReads.{PiecesRead}
use Rattle.morsel_join.specs.declared.build_side.Build.{Build}
use Rattle.morsel_join.specs.BuildSides.{kept_side}
use Rattle.morsel_join.specs.Sides.{KeptSide}
use Rattle.morsel_line.specs.RowStages.{AloneRows, FoundRows, ScannedRows, StageSeen}
use Rattle.morsel_scan_units.specs.LaneJobs.{LaneFor}
use Rattle.morsel_scan_units.specs.LaneRows.{AloneBetween, AreScanRows, CarriesRows, FindsBetween, PlacesGive}
use Rattle.morsel_ports.specs.Nodes.{NodeSeen}
use Rattle.morsel_join_lines.specs.JoinNodes.{IsFinding, IsGiving}
use Rattle.morsel_join_phases.specs.declared.places.JoinAt.{JoinAt}
use Rattle.morsel_join_phases.specs.declared.places.JoinAt.TheVariants as at
use Rattle.morsel_join_phases.specs.declared.phase.JoinPhase.{JoinPhase}
use Rattle.morsel_join_phases.specs.JoinTables.{recv_kinds_at, send_kinds_at}
use Rattle.morsel_join_phases.specs.JoinPhases.{FitsJoin, StaysJoin, asked_job_of, at_of, build_of}
use Rattle.morsel_probe_run.specs.ProbeRuns.{AreAllUpTo, SweepsFound}
use Rattle.morsel_emit_run.specs.EmitRuns.{SweepsAlone, WritesAloneOrNot}
use Rattle.morsel_join_plan.specs.JoinLanes.{AsksFor, HasAskedTo, HasJust, HoldsTokensAt, rows_lane}
use Rattle.morsel_join_plan.proofs.LaneFacts.{all_asked, has_just}
use Rattle.morsel_join_plan.proofs.PhaseFacts.{asked_there, fits_finding, fits_giving}
use Rattle.morsel_join_plan.proofs.PortFacts.{finds_rows, leaves_alone}

-- the ports of a join that looks rows up
pub finding_node : (pipelines : ℕ) (seen : NodeSeen) (place : JoinAt) → seen.pipelines ≡ Some pipelines → seen.recv_kinds ≡ recv_kinds_at place → seen.send_kinds ≡ send_kinds_at place → seen.units ≡ 0 → place ≡ at.Probe → IsFinding pipelines seen
finding_node pipelines seen place ready takes gives out is = record { ready = ready; takes = takes ∙ ap recv_kinds_at is; gives = gives ∙ ap send_kinds_at is; none_out = out }

-- and of one that gives kept rows
pub giving_node : (pipelines : ℕ) (seen : NodeSeen) (place : JoinAt) → seen.pipelines ≡ Some pipelines → seen.recv_kinds ≡ recv_kinds_at place → seen.send_kinds ≡ send_kinds_at place → seen.units ≡ 0 → place ≡ at.Emit → IsGiving pipelines seen
giving_node pipelines seen place ready takes gives out is = record { ready = ready; takes = takes ∙ ap recv_kinds_at is; gives = gives ∙ ap send_kinds_at is; none_out = out }

-- the rows' lane, where the scan and the reader are told in other words
pub lane_again : (rows : LaneFor) (scan other : CsvScan) (reader again : PiecesRead) (outside : Outside) (tokens : TableId) → rows ≡ rows_lane scan reader outside tokens → other ≡ scan → again ≡ reader → rows ≡ rows_lane other again outside rows.tokens
lane_again rows scan other reader again outside tokens is same read =
    subst (λ (r : PiecesRead). rows ≡ rows_lane other r outside rows.tokens) (sym read)
    (subst (λ (s : CsvScan). rows ≡ rows_lane s reader outside rows.tokens) (sym same) (subst (λ (t : TableId). rows ≡ rows_lane scan reader outside t) (sym (ap (λ (lane : LaneFor). lane.tokens) is)) is))

-- a lane behind a join, where its stage is told by that of the text
pub staged_again : (stage : StageSeen) (rows lane given : LaneFor) → given.stage ≡ stage → lane ≡ record rows { stage = stage } → lane ≡ record rows { stage = given.stage }
staged_again stage rows lane given same is = is ∙ sym (ap (λ (st : StageSeen). record rows { stage = st }) same)

pub texts_again : (stage : StageSeen) (rows given : LaneFor) → given.stage ≡ stage → given ≡ record rows { kind = Parts; stage = stage } → given ≡ record rows { kind = Parts; stage = given.stage }
texts_again stage rows given same is = is ∙ sym (ap (λ (st : StageSeen). record rows { kind = Parts; stage = st }) same)

-- tokens of the rows' lane are those of a board
pub tokens_again : {Token : Type 0} (holds : LaneFor → Token → Type 0) (home : Token → TableId) (rows : LaneFor) (tokens table : TableId) → rows.tokens ≡ tokens → HoldsTokensAt holds home tokens table → HoldsTokensAt holds home rows.tokens table
tokens_again holds home rows tokens table is hold = subst (λ (t : TableId). HoldsTokensAt holds home t table) (sym is) hold

-- its lanes, while rows are looked up
pub finds_there : {K : Type 0} {a b : _} (phase : JoinPhase K LaneFor a b) (build : Build) (rows found : LaneFor) (columns : List Field) → at_of phase ≡ at.Probe → build_of phase ≡ Some build → asked_job_of phase ≡ Some rows
    → AsksFor phase columns → CarriesRows rows columns → rows.stage ≡ ScannedRows → found ≡ record rows { stage = FoundRows (kept_side build) } → FitsJoin CarriesRows PlacesGive AreScanRows FindsBetween AloneBetween phase rows rows found
finds_there phase build rows found columns place of_build for_job asks carries scanned is =
    fits_finding CarriesRows PlacesGive AreScanRows FindsBetween AloneBetween phase build rows rows found place of_build for_job
    (λ asked asked_is. subst (CarriesRows rows) (sym (asks asked asked_is)) carries) (finds_rows (kept_side build) rows found scanned is)

-- and while the kept rows are given that none found
pub gives_there : {K : Type 0} {a b : _} (phase : JoinPhase K LaneFor a b) (build : Build) (rows kept : LaneFor) (tokens : TableId) (given : ℕ) → HasAskedTo phase build (record rows { tokens = tokens }) given → rows.kind ≡ Morsels → rows.stage ≡ ScannedRows
    → AreAllUpTo rows.scan rows.reader rows.outside given → kept ≡ record rows { stage = AloneRows (kept_side build) } → FitsJoin CarriesRows PlacesGive AreScanRows FindsBetween AloneBetween phase rows rows kept
gives_there phase build rows kept tokens given has of_rows scanned all is =
    fits_giving CarriesRows PlacesGive AreScanRows FindsBetween AloneBetween phase build (record rows { tokens = tokens }) given rows rows kept has.to_is has.build_is has.lane_is (all_asked rows tokens given scanned all) (leaves_alone (kept_side build) rows kept of_rows scanned is)

pub is_emitting : {K : Type 0} {a b : _} (phase : JoinPhase K LaneFor a b) (build : Build) (lane : LaneFor) (given : ℕ) → HasAskedTo phase build lane given → at_of phase ≡ at.Emit
is_emitting phase build lane given has = (asked_there phase given has.to_is).4

-- what it has where it has looked rows up, whose lane is told in other words
pub has_looked_up : {K : Type 0} {a b : _} (begun now : JoinPhase K LaneFor a b) (build : Build) (rows lane : LaneFor) → rows ≡ lane → at_of begun ≡ at.Probe → build_of begun ≡ Some build → asked_job_of begun ≡ Some rows → StaysJoin begun now → HasJust now build lane
has_looked_up begun now build rows lane same place of_build for_job stays = has_just begun now build lane place of_build (for_job ∙ ap Some same) stays

-- nothing was done
pub unswept_found : (scan : CsvScan) (reader : PiecesRead) (side : KeptSide) (opened : Outside) (steps : ℕ) → SweepsFound scan reader side opened steps steps
unswept_found scan reader side opened steps = record { rows = 0; few = omega arith; small = omega arith; within = λ files had. omega arith }

pub unswept_alone : (scan : CsvScan) (reader : PiecesRead) (opened : Outside) (side : KeptSide) (steps : ℕ) → SweepsAlone scan reader opened side steps steps
unswept_alone scan reader opened side steps = record { rows = 0; few = omega arith; small = omega arith; within = λ files had. omega arith }

-- lanes of the rows of one scan tell the same of it
module _ (rows : LaneFor) (scan : CsvScan) (reader : PiecesRead) (outside : Outside) (tokens : TableId) (is : rows ≡ rows_lane scan reader outside tokens) where
  pub wrote_alone : (side : KeptSide) (before : Outside) (result : Result ℕ Fault) (after : Outside) → WritesAloneOrNot rows.scan rows.reader rows.outside side before result after → WritesAloneOrNot scan reader outside side before result after
  wrote_alone side before result after writes = subst (λ (lane : LaneFor). WritesAloneOrNot lane.scan lane.reader lane.outside side before result after) is writes

  pub swept_alone : (side : KeptSide) (before after : ℕ) → SweepsAlone rows.scan rows.reader rows.outside side before after → SweepsAlone scan reader outside side before after
  swept_alone side before after few = subst (λ (lane : LaneFor). SweepsAlone lane.scan lane.reader lane.outside side before after) is few

  pub all_there : (given : ℕ) → AreAllUpTo scan reader outside given → AreAllUpTo rows.scan rows.reader rows.outside given
  all_there given all = subst (λ (lane : LaneFor). AreAllUpTo lane.scan lane.reader lane.outside given) (sym is) all

  pub just_there : {K : Type 0} {a b : _} (phase : JoinPhase K LaneFor a b) (build : Build) (other : TableId) → HasJust phase build (rows_lane scan reader outside other) → HasJust phase build (record rows { tokens = other })
  just_there phase build other has = subst (HasJust phase build) (sym (ap (λ (lane : LaneFor). record lane { tokens = other }) is)) has

-- tokens that tell their table are those of a board with that table
pub home_tokens : {Token : Type 0} (home : Token → TableId) (tokens table : TableId) → table ≡ tokens → HoldsTokensAt (λ lane token. home token ≡ lane.tokens) home tokens table
home_tokens home tokens table same = λ lane of token. (λ at_home. at_home ∙ of ∙ sym same, λ at_table. at_table ∙ same ∙ sym of)

-- a lane of rows tells its own scan
pub lane_itself : (rows : LaneFor) (scan : CsvScan) (reader : PiecesRead) (outside : Outside) (tokens : TableId) → rows ≡ rows_lane scan reader outside tokens → rows ≡ rows_lane rows.scan rows.reader rows.outside rows.tokens
lane_itself rows scan reader outside tokens is = subst (λ (lane : LaneFor). lane ≡ rows_lane lane.scan lane.reader lane.outside lane.tokens) (sym is) refl
