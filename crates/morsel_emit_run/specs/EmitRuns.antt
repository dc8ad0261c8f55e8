-- The rows of one place are written: kept rows that no row of a scan finds, or rows that are given.
use Rattle.std.specs.Prelude.{◌≡◌, ◌⊎◌, ℕ, ◌≤◌, IfErr, OnOk, Result, Ok, Err, List, [], ◌++◌, length}
use Rattle.std.specs.List.{flat_map, sum_by}
use Rattle.morsel_meaning.specs.declared.fault.Fault.{Fault}
use Rattle.morsel_meaning.specs.declared.fault.Fault.TheVariants as faults
use Rattle.morsel_meaning.specs.Values.{Row}
use Rattle.morsel_outside.specs.Outside.{Outside}
use Rattle.morsel_outside.specs.Actions.{Action, Does, text_by, write_failures}
use Rattle.morsel_scan.specs.Scans.{CsvScan}
use Rattle.morsel_scan.specs.StretchRows.{before_fault}
use Rattle.morsel_read.specs.ScanReads.{PiecesRead, HasGivenRows}
use Rattle.morsel_drive.specs.Lines.{Each, IsDue}
use Rattle.morsel_drive.specs.Sweeping.{SweepsFew}
use Rattle.morsel_drive.specs.declared.progress.Progress.TheVariants.{Rows}
use Rattle.morsel_drive.specs.Driving.{IsWriting}
use Rattle.morsel_drain.specs.Pouring.{StopsWritesFor}
use Rattle.morsel_join.specs.Sides.{KeptSide, rows_alone}
use Rattle.morsel_line.specs.Jobs.{Job}
use Rattle.morsel_line.specs.RowStages.{StageSeen, ScannedRows, FoundRows, AloneRows, GivenRows}
use Rattle.morsel_line.specs.ScanJobs.{scan_axis, staged_text, IsJobFault, IsPieceKind}
use Rattle.morsel_line.specs.ScanRuns.{job_of}

-- the rows of the stage are of one place
abbrev pub IsOnePlaceStage : StageSeen → Type 0
IsOnePlaceStage ScannedRows = ⊥
IsOnePlaceStage (FoundRows side) = ⊥
IsOnePlaceStage (AloneRows side) = Unit {0}
IsOnePlaceStage (GivenRows fields rows) = Unit {0}

-- the kept rows of this side that no row of the scan finds, of those before a fault
abbrev pub not_found : Job → KeptSide → List Row
not_found job side = rows_alone side (before_fault (scan_axis job).gives)

-- the rows of that place
abbrev pub place_rows : StageSeen → Job → List Row
place_rows ScannedRows job = []
place_rows (FoundRows side) job = []
place_rows (AloneRows side) job = not_found job side
place_rows (GivenRows fields rows) job = rows

-- a number is that of all those rows, whose text was written
abbrev pub AnswersPlace : StageSeen → Job → List Action → Result ℕ Fault → Type 0
AnswersPlace stage job actions (Ok n) = (flat_map text_by actions ≡ staged_text stage job.scan (place_rows stage job)) × (n ≡ length (place_rows stage job))
AnswersPlace stage job actions (Err fault) = Unit {0}

-- what was written, given what the files of the scan contain: the text of those rows, or its beginning; the fault that is answered is due
pub record WritesPlaceRows (stage : StageSeen) (job : Job) (actions : List Action) (result : Result ℕ Fault) : Type 0 where
  pub answers : AnswersPlace stage job actions result
  pub due : IfErr result (IsDue (IsJobFault job))
  pub rest : List ℕ
  pub front : flat_map text_by actions ++ rest ≡ staged_text stage job.scan (place_rows stage job)

-- the rows of the stage's one place were written, for a scan whose files this reader was to read from the outside as it was opened: parts were written, and nothing else was done; a fault has its reason; with a number no write failed
pub record WritesPlace (s : CsvScan) (r : PiecesRead) (opened : Outside) (stage : StageSeen) (before : Outside) (result : Result ℕ Fault) (after : Outside) : Type 0 where
  pub actions : List Action
  pub does : Does before actions after
  pub each : Each IsWriting actions
  pub stops : IfErr result (StopsWritesFor IsPieceKind actions)
  pub fine : OnOk result (sum_by write_failures actions ≡ 0)
  pub told : (files : List (List ℕ)) → HasGivenRows s files opened r → WritesPlaceRows stage (job_of s r files) actions result

-- those rows were written; or memory ran out before anything was done
abbrev pub WritesPlaceOrNot : CsvScan → PiecesRead → Outside → StageSeen → Outside → Result ℕ Fault → Outside → Type 0
WritesPlaceOrNot s r opened stage before result after = ((result ≡ Err faults.OutOfMemory) × (after ≡ before)) ⊎ WritesPlace s r opened stage before result after

-- few sweeps were made for each row that was written, and no more rows were written than there are
abbrev pub SweepsPlace : CsvScan → PiecesRead → Outside → StageSeen → ℕ → ℕ → Type 0
SweepsPlace s r opened stage before after = SweepsFew Rows 1 before after (λ rows. (files : List (List ℕ)) → HasGivenRows s files opened r → rows ≤ length (place_rows stage (job_of s r files)))

-- the text of kept rows that no row finds
abbrev pub text_alone : Job → KeptSide → List Row → List ℕ
text_alone job side rows = staged_text (AloneRows side) job.scan rows

-- a number is that of all those rows, whose text was written
abbrev pub AnswersAlone : Job → KeptSide → List Action → Result ℕ Fault → Type 0
AnswersAlone job side actions result = AnswersPlace (AloneRows side) job actions result

-- those rows were written, of a scan whose files this reader was to read from the outside as it was opened
abbrev pub WritesAlone : CsvScan → PiecesRead → Outside → KeptSide → Outside → Result ℕ Fault → Outside → Type 0
WritesAlone s r opened side before result after = WritesPlace s r opened (AloneRows side) before result after

-- they were written; or memory ran out before anything was done
abbrev pub WritesAloneOrNot : CsvScan → PiecesRead → Outside → KeptSide → Outside → Result ℕ Fault → Outside → Type 0
WritesAloneOrNot s r opened side before result after = WritesPlaceOrNot s r opened (AloneRows side) before result after

-- few sweeps were made for each of them
abbrev pub SweepsAlone : CsvScan → PiecesRead → Outside → KeptSide → ℕ → ℕ → Type 0
SweepsAlone s r opened side before after = SweepsPlace s r opened (AloneRows side) before after
