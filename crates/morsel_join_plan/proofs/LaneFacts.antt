-- What the lanes of a scan tell of its files, and what a join has of their rows.
use Rattle.std.proofs.Common.{◌≡◌, ◌⊎◌, inl, inr, ℕ, List, Some, Ok, refl, sym, ap, subst, ◌∙◌}
use Rattle.std.proofs.Math.Logic.{∥∥₁_map}
use Rattle.atomic_table.specs.Seated.{TableId}
use Rattle.morsel_meaning.specs.declared.fault.Fault.{Fault}
use Rattle.morsel_meaning.specs.declared.fault.Fault.TheVariants as faults
use Rattle.morsel_meaning.specs.declared.value.Field.{Field}
use Rattle.morsel_meaning.specs.Values.{Row}
use Rattle.morsel_outside.specs.Outside.{Outside}
use Rattle.morsel_load.specs.declared.load.LoadKind.{LoadKind}
use Rattle.morsel_scan.specs.Scans.{CsvScan}
use Rattle.morsel_scan.specs.StretchRows.{before_fault}
use Rattle.morsel_read.specs.ScanReads.{PiecesRead, HasGivenRows}
use Rattle.morsel_join.specs.declared.build_side.Build.{Build}
use Rattle.morsel_join.specs.declared.rules.JoinRules.{JoinRules}
use Rattle.morsel_join.specs.BuildSides.{IsBuild, kept_side}
use Rattle.morsel_line.specs.Jobs.{Job}
use Rattle.morsel_line.specs.RowStages.{StageSeen, ScannedRows}
use Rattle.morsel_line.specs.ScanJobs.{scan_axis}
use Rattle.morsel_line.specs.ScanRuns.{JobGives, job_of}
use Rattle.morsel_scan_units.specs.LaneJobs.{LaneFor, TellsJob, IsUnitFault}
use Rattle.morsel_scan_units.specs.LaneRows.{PlacesGive, AreScanRows}
use Rattle.morsel_join_phases.specs.declared.places.JoinAt.{JoinAt}
use Rattle.morsel_join_phases.specs.declared.places.JoinAt.TheVariants as at
use Rattle.morsel_join_phases.specs.declared.phase.JoinPhase.{JoinPhase}
use Rattle.morsel_join_phases.specs.JoinPhases.{HadRules, KeepsJoin, StaysJoin, asked_job_of, asked_of, asked_to_of, at_of, build_of, kept_job_of, kept_to_of, rules_of}
use Rattle.morsel_keep_run.specs.KeepRuns.{KeepsScan}
use Rattle.morsel_probe_run.specs.ProbeRuns.{AreAllUpTo}
use Rattle.morsel_join_plan.specs.JoinLanes.{AsksFor, HasAskedTo, HasJust, HasKeptScan, HasKeptTo, rows_lane}
use Rattle.morsel_join_plan.proofs.KnownFacts.{gives_known, rows_known}
use Rattle.morsel_join_plan.proofs.PhaseFacts.{asked_there, keeps_no_more, kept_there, rules_there, some_same}

-- memory may run out in any unit
pub unit_out_of_memory : (lane : LaneFor) (fault : Fault) → fault ≡ faults.OutOfMemory → IsUnitFault lane fault
unit_out_of_memory lane fault is = subst (IsUnitFault lane) (sym is) (tt, λ job tells. tt)

-- a fault of a unit that makes rows is one of the lanes behind it
pub unit_fault_behind : (lane : LaneFor) (kind : LoadKind) (stage : StageSeen) (fault : Fault) → lane.stage ≡ ScannedRows → IsUnitFault lane fault → IsUnitFault (record lane { kind = kind; stage = stage }) fault
unit_fault_behind lane kind stage fault scanned is =
    (is.0, λ job tells. is.1 (record job { stage = ScannedRows }) (tells.0, record { given = tells.1.given; names = tells.1.names; first = tells.1.first; opened = tells.1.opened }, sym scanned))

-- the job that a lane tells is the one of its reader
told_job : (lane : LaneFor) (job : Job) → lane.stage ≡ ScannedRows → TellsJob lane job → job ≡ job_of lane.scan lane.reader job.files
told_job lane job scanned tells =
    ap (λ (s : CsvScan). record job { scan = s }) tells.0
    ∙ ap (λ (n : ℕ). record job { scan = lane.scan; first = n }) (sym tells.1.first)
    ∙ ap (λ (ns : List (List ℕ)). record job { scan = lane.scan; first = lane.reader.sources.first; names = ns }) (sym tells.1.names)
    ∙ ap (λ (ns : List ℕ). record job { scan = lane.scan; first = lane.reader.sources.first; names = lane.reader.sources.names; opened = ns }) (sym tells.1.opened)
    ∙ ap (λ (st : StageSeen). record (job_of lane.scan lane.reader job.files) { stage = st }) (tells.2 ∙ scanned)

-- all rows that were looked up are those of the scan
pub all_asked : (rows : LaneFor) (tokens : TableId) (given : ℕ) → rows.stage ≡ ScannedRows → AreAllUpTo rows.scan rows.reader rows.outside given
    → (some : List Row) → ∥ PlacesGive (record rows { tokens = tokens }) 0 given some ∥₁ → AreScanRows rows some
all_asked rows tokens given scanned all some known = λ job tells.
    let same = told_job rows job scanned tells in
    let had : HasGivenRows rows.scan job.files rows.outside rows.reader = subst (λ (s : CsvScan). HasGivenRows s job.files rows.outside rows.reader) tells.0 tells.1.given in
    subst (λ (j : Job). before_fault (scan_axis j).gives ≡ some) (sym same)
    (rows_known _ some (∥∥₁_map known (λ places. all job.files had some (subst (λ (j : Job). JobGives j given some) same (places job tells)))))

-- where it is known up to which place rows were kept, it has those of the places before
pub has_kept_to : {K : Type 0} {a b : _} (phase : JoinPhase K LaneFor a b) (to : ℕ) → kept_to_of phase ≡ Some to → ((build : Build) → build_of phase ≡ Some build → IsBuild build)
    → ((build : Build) (lane : LaneFor) → build_of phase ≡ Some build → kept_job_of phase ≡ Some lane → ∥ PlacesGive lane 0 to (kept_side build).rows ∥₁) → HasKeptTo phase to
has_kept_to phase to is built gives = (let there = kept_there phase to is in record {
  build = there.0;
  build_is = there.2;
  built = built there.0 there.2;
  lane = there.1;
  lane_is = there.3;
  gives = gives there.0 there.1 there.2 there.3;
})

-- where it is known up to which place rows were looked up, the kept rows and the lanes are those that it had
pub has_asked_to : {K : Type 0} {a b : _} (before now : JoinPhase K LaneFor a b) (build : Build) (lane : LaneFor) (to : ℕ) → KeepsJoin before now → HasJust before build lane → asked_to_of now ≡ Some to → HasAskedTo now build lane to
has_asked_to before now build lane to keeps has is = (let there = asked_there now to is in record {
  to_is = is;
  build_is = there.2 ∙ ap Some (has.build_is there.0 ((keeps.kept (keeps_no_more _ has.at)).build there.0 there.2));
  lane_is = there.3 ∙ ap Some (has.lane_is there.1 (keeps.rules.asked_job there.1 there.3));
})

still_at : (before now : JoinAt) → before ≡ at.Probe → (now ≡ before) ⊎ (now ≡ at.Done) → (now ≡ at.Probe) ⊎ (now ≡ at.Done)
still_at before now place (inl same) = inl (same ∙ place)
still_at before now place (inr done) = inr done

-- where rows were looked up, it has the kept rows and the lanes that it had, or nothing
pub has_just : {K : Type 0} {a b : _} (begun now : JoinPhase K LaneFor a b) (build : Build) (lane : LaneFor) → at_of begun ≡ at.Probe → build_of begun ≡ Some build → asked_job_of begun ≡ Some lane → StaysJoin begun now → HasJust now build lane
has_just begun now build lane place of_build for_job stays = record {
  at = still_at (at_of begun) (at_of now) place stays.at;
  build_is = λ other is. some_same _ _ (sym (stays.build other is) ∙ of_build);
  lane_is = λ other is. some_same _ _ (sym (stays.rules.asked_job other is) ∙ for_job);
}

module _ {K : Type 0} {a b : _} (begun back now : JoinPhase K LaneFor a b) (stays : StaysJoin begun back) (had : HadRules back now) where
  -- the columns of the rows that are looked up stay
  pub still_asks : (columns : List Field) → asked_of begun ≡ Some columns → AsksFor now columns
  still_asks columns is = λ asked now_is. some_same _ _ (sym (stays.rules.asked asked (had.asked asked now_is)) ∙ is)

  -- the kept rows are those of the scan
  pub kept_scan : (scan : CsvScan) (reader : PiecesRead) (before after : Outside) (tokens : TableId) (rules : JoinRules) (given : ℕ) → rules_of begun ≡ Some rules → kept_job_of begun ≡ Some (rows_lane scan reader before tokens)
      → HasKeptTo now given → KeepsScan scan reader before (Ok given) after → HasKeptScan now (record { scan = scan; reader = reader }) rules before after
  kept_scan scan reader before after tokens rules given of_rules for_job has keeps = record {
    build = has.build;
    build_is = has.build_is;
    has = record {
      rules_are = some_same _ _ (sym (stays.rules.rules has.build.rules (had.rules has.build.rules (rules_there now has.build has.build_is))) ∙ of_rules);
      is_right = has.built.side;
      given = given;
      keeps = keeps;
      gives = λ files had_given.
          let lane_is : has.lane ≡ rows_lane scan reader before tokens = some_same _ _ (sym (stays.rules.job has.lane (had.job has.lane has.lane_is)) ∙ for_job) in
          gives_known _ 0 given _ (∥∥₁_map has.gives (λ places. subst (λ (lane : LaneFor). PlacesGive lane 0 given (kept_side has.build).rows) lane_is places (job_of scan reader files)
          (refl, record { given = had_given; names = refl; first = refl; opened = refl }, refl)));
    };
  }
