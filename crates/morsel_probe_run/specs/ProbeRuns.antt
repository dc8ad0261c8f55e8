-- What the rows of a scan find on a kept side is written.
use Rattle.std.specs.Prelude.{◌≡◌, ◌⊎◌, ℕ, ◌+◌, ◌≤◌, IfErr, OnOk, Result, Ok, Err, List, length}
use Rattle.std.specs.List.{flat_map, filter, sum_by}
use Rattle.morsel_meaning.specs.declared.fault.Fault.{Fault}
use Rattle.morsel_meaning.specs.declared.fault.Fault.TheVariants as faults
use Rattle.morsel_meaning.specs.Values.{Row}
use Rattle.morsel_outside.specs.Outside.{Outside}
use Rattle.morsel_outside.specs.Actions.{Action, Does, event_of, text_by, read_failures, write_failures}
use Rattle.morsel_scan.specs.Scans.{CsvScan}
use Rattle.morsel_scan.specs.Ahead.{asked_up_to}
use Rattle.morsel_scan.specs.StretchRows.{before_fault}
use Rattle.morsel_read.specs.ScanReads.{PiecesRead, sizes_in, HasGivenRows}
use Rattle.morsel_drive.specs.Lines.{Each, IsReading, IsDue}
use Rattle.morsel_drive.specs.Sweeping.{SweepsFew}
use Rattle.morsel_drive.specs.declared.progress.Progress.TheVariants.{Rows}
use Rattle.morsel_drive.specs.Driving.{is_reading, IsWriting, Stops}
use Rattle.morsel_join.specs.Sides.{KeptSide, rows_found}
use Rattle.morsel_line.specs.Jobs.{Job}
use Rattle.morsel_line.specs.RowStages.{FoundRows}
use Rattle.morsel_line.specs.ScanJobs.{scan_axis, job_axis, staged_text, IsJobFault}
use Rattle.morsel_line.specs.ScanSources.{AskNextChunks}
use Rattle.morsel_line.specs.ScanRuns.{JobGives, MeansRows, StopsScan, job_of}
use Rattle.morsel_probe_run.specs.declared.probe_end.ProbeEnd.{ProbeEnd}

-- the job of what the rows of a scan find on this side
abbrev pub found_job : CsvScan → PiecesRead → List (List ℕ) → KeptSide → Job
found_job s r files side = record (job_of s r files) { stage = FoundRows side }

-- a number is that of the rows that some rows find, whose text was written; and those rows are what the scan means
abbrev pub AnswersFound : Job → KeptSide → List Action → Result ℕ Fault → Type 0
AnswersFound job side actions (Ok n) = (asked : List Row) × (flat_map text_by actions ≡ staged_text (FoundRows side) job.scan (rows_found side asked)) × (n ≡ length (rows_found side asked))
    × MeansRows job (asked_up_to (scan_axis job) 0 (flat_map event_of actions)) asked
AnswersFound job side actions (Err fault) = Unit {0}

-- what was written, given what the files contain: all that the scan's rows find, or the beginning of the text of what those before the first fault find; the fault that is answered is due; each read is in time
pub record WritesFoundRows (s : CsvScan) (r : PiecesRead) (files : List (List ℕ)) (side : KeptSide) (bound : ℕ) (actions : List Action) (result : Result ℕ Fault) : Type 0 where
  pub answers : AnswersFound (job_of s r files) side actions result
  pub due : IfErr result (IsDue (IsJobFault (job_of s r files)))
  pub front : Stops (job_axis (found_job s r files side)) (bound + (scan_axis (job_of s r files)).longest) r.sources.chunk actions

-- what the rows of a scan find was written: only the next chunks were read, and parts written; a fault has its reason; with a number, no read and no write failed, and all was asked, but where the slice ends within the greatest number of rows
pub record WritesFound (s : CsvScan) (r : PiecesRead) (side : KeptSide) (bound : ℕ) (before : Outside) (result : Result ℕ Fault) (after : Outside) : Type 0 where
  pub actions : List Action
  pub does : Does before actions after
  pub each : Each (λ action. IsReading action ⊎ IsWriting action) actions
  pub to : ℕ
  pub reads : AskNextChunks r.sources.files (sizes_in before.sizes r.sources.files) r.sources.chunk 0 (filter is_reading actions) to
  pub stops : IfErr result (StopsScan r.sources actions)
  pub fine : OnOk result ((sum_by read_failures (filter is_reading actions) ≡ 0) × (sum_by write_failures actions ≡ 0))
  pub all_asked : OnOk result ((to ≡ sum_by (λ n. n) (sizes_in before.sizes r.sources.files)) ⊎ (r.sources.stop ≤ 4294967295))
  pub told : (files : List (List ℕ)) → HasGivenRows s files before r → WritesFoundRows s r files side bound actions result

-- that was written; or memory ran out before anything was done
abbrev pub WritesFoundOrNot : CsvScan → PiecesRead → KeptSide → ℕ → Outside → Result ℕ Fault → Outside → Type 0
WritesFoundOrNot s r side bound before result after = ((result ≡ Err faults.OutOfMemory) × (after ≡ before)) ⊎ WritesFound s r side bound before result after

-- few sweeps were made for each byte of the files and for each row that was written, and no more rows were written than are found
abbrev pub SweepsFound : CsvScan → PiecesRead → KeptSide → Outside → ℕ → ℕ → Type 0
SweepsFound s r side opened before after = SweepsFew Rows (sum_by (λ n. n) (sizes_in opened.sizes r.sources.files)) before after
    (λ rows. (files : List (List ℕ)) → HasGivenRows s files opened r → rows ≤ length (rows_found side (before_fault (scan_axis (job_of s r files)).gives)))

-- how many rows a run has written that gives a node back, or its fault
abbrev pub rows_written : {M : Type 0} → Result (ProbeEnd M) Fault → Result ℕ Fault
rows_written (Ok probed) = Ok probed.rows
rows_written (Err fault) = Err fault

-- the rows up to this place of the scan's files are all those before a fault
abbrev pub AreAllUpTo : CsvScan → PiecesRead → Outside → ℕ → Type 0
AreAllUpTo s r before to = (files : List (List ℕ)) → HasGivenRows s files before r → (rows : List Row) → JobGives (job_of s r files) to rows
    → before_fault (scan_axis (job_of s r files)).gives ≡ rows
