-- The rows of one place, from what their caller's loop says.
use Rattle.std.proofs.Common.{◌≡◌, ℕ, ◌≤◌, ap, refl, sym, subst, ◌∙◌, arith, append-nil}
use Rattle.std.specs.Prelude.{Result, Ok, Err, List, [], ◌∷◌, ◌++◌, length}
use Rattle.morsel_meaning.specs.declared.fault.Fault.{Fault}
use Rattle.morsel_meaning.specs.Values.{Row}
use Rattle.morsel_outside.specs.Outside.{Outside}
use Rattle.morsel_outside.specs.Actions.{Action}
use Rattle.morsel_scan.specs.Scans.{CsvScan}
use Rattle.morsel_scan.specs.StretchRows.{Gives, before_fault}
use Rattle.morsel_read.specs.ScanReads.{PiecesRead, HasGivenRows}
use Rattle.morsel_drive.specs.Lines.{IsSoundAxis}
use Rattle.morsel_drive.specs.Sweeping.{SweepsFew}
use Rattle.morsel_drive.specs.declared.progress.Progress.TheVariants.{Rows}
use Rattle.morsel_drive.specs.Driving.{WritesRows}
use Rattle.morsel_drain.specs.Pouring.{IsOnePlace, Pours, PoursAxis}
use Rattle.morsel_line.specs.Jobs.{Job}
use Rattle.morsel_line.specs.RowStages.{StageSeen, ScannedRows, FoundRows, AloneRows, GivenRows, staged_gives}
use Rattle.morsel_line.specs.ScanJobs.{job_axis, scan_axis, staged_text, IsJobFault, IsPieceKind}
use Rattle.morsel_line.specs.ScanRuns.{job_of}
use Rattle.morsel_line.proofs.LineLemmas.{sound}
use Rattle.morsel_scan_units.specs.LaneJobs.{LaneFor, TellsJob}
use Rattle.morsel_emit_run.specs.EmitRuns.{AnswersPlace, IsOnePlaceStage, SweepsPlace, WritesPlace, place_rows}

-- the job of the rows of a stage
abbrev place_job : CsvScan → PiecesRead → List (List ℕ) → StageSeen → Job
place_job s r files stage = record (job_of s r files) { stage = stage }

-- it is told to a lane of those rows
tells : (lane : LaneFor) (stage : StageSeen) (files : List (List ℕ)) → lane.stage ≡ stage → HasGivenRows lane.scan files lane.outside lane.reader → TellsJob lane (place_job lane.scan lane.reader files stage)
tells lane stage files is had = (refl, record { given = had; names = refl; first = refl; opened = refl }, sym is)

-- what the one place gives
one_place : (stage : StageSeen) (job : Job) → IsOnePlaceStage stage → staged_gives stage (scan_axis job).gives ≡ Ok (place_rows stage job) ∷ []
one_place ScannedRows job one = absurd one
one_place (FoundRows side) job one = absurd one
one_place (AloneRows side) job one = refl
one_place (GivenRows fields rows) job one = refl

-- it has no fault
before_end : (stage : StageSeen) (job : Job) → IsOnePlaceStage stage → before_fault (staged_gives stage (scan_axis job).gives) ≡ place_rows stage job
before_end stage job one = ap before_fault (one_place stage job one) ∙ append-nil (place_rows stage job)

same_rows : (some others : List Row) → ◌≡◌ {A = Result (List Row) Fault} (Ok some) (Ok others) → some ≡ others
same_rows some others e = cc

-- one place gives its rows
of_one : (all rows : List Row) → Gives (Ok all ∷ []) 0 1 rows → rows ≡ all
of_one all rows gives = sym (same_rows (all ++ []) rows gives.all) ∙ append-nil all

answers_place : (s : CsvScan) (r : PiecesRead) (files : List (List ℕ)) (stage : StageSeen) (actions : List Action) (result : Result ℕ Fault) → IsOnePlaceStage stage
    → WritesRows (job_axis (place_job s r files stage)) IsOnePlace 1 actions result → AnswersPlace stage (job_of s r files) actions result
answers_place s r files stage actions (Ok n) is (rows, gives, one, text, count) =
    let job = job_of s r files in
    let are : rows ≡ place_rows stage job = of_one (place_rows stage job) rows (subst (λ (all : List (Result (List Row) Fault)). Gives all 0 1 rows) (one_place stage job is) gives) in
    (text ∙ ap (staged_text stage job.scan) are, count ∙ ap (λ (some : List Row). length some) are)
answers_place s r files stage actions (Err fault) is writes = tt

pub place_written : (lane : LaneFor) (stage : StageSeen) (before after : Outside) (result : Result ℕ Fault) → lane.stage ≡ stage → IsOnePlaceStage stage
    → Pours IsPieceKind (λ actions. (job : Job) → TellsJob lane job → IsSoundAxis (job_axis job) → PoursAxis (job_axis job) (IsJobFault job) actions result) before result after
    → WritesPlace lane.scan lane.reader lane.outside stage before result after
place_written lane stage before after result is one d = record {
  actions = d.actions;
  does = d.does;
  each = d.are;
  stops = d.stops;
  fine = d.fine;
  told = λ files had.
      let job = place_job lane.scan lane.reader files stage in
      let axis = d.told_them job (tells lane stage files is had) (sound job had.fit) 0 0 in record {
        answers = answers_place lane.scan lane.reader files stage d.actions result one axis.writes;
        due = axis.due;
        rest = axis.front.rest;
        front = axis.front.front ∙ ap (staged_text stage lane.scan) (before_end stage (job_of lane.scan lane.reader files) one);
      };
}

pub place_swept : (lane : LaneFor) (stage : StageSeen) (before after : ℕ) → lane.stage ≡ stage → IsOnePlaceStage stage
    → SweepsFew Rows 1 before after (λ rows. (job : Job) → TellsJob lane job → IsSoundAxis (job_axis job) → rows ≤ length (before_fault (job_axis job).gives))
    → SweepsPlace lane.scan lane.reader lane.outside stage before after
place_swept lane stage before after is one few = record {
  rows = few.rows;
  few = few.few;
  small = few.small;
  within = λ files had.
      let job = place_job lane.scan lane.reader files stage in
      subst (λ (some : List Row). few.rows ≤ length some) (before_end stage (job_of lane.scan lane.reader files) one) (few.within job (tells lane stage files is had) (sound job had.fit));
}

-- nothing was done
pub place_unswept : (s : CsvScan) (r : PiecesRead) (opened : Outside) (stage : StageSeen) (steps : ℕ) → SweepsPlace s r opened stage steps steps
place_unswept s r opened stage steps = record { rows = 0; few = omega arith; small = omega arith; within = λ files had. omega arith }
