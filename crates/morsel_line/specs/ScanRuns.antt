-- A whole scan from its open files into a sink.
use Rattle.std.specs.Prelude.{◌≡◌, ◌⊎◌, ℕ, ◌+◌, ◌≤◌, IfErr, OnOk, Result, Ok, Err, List, length}
use Rattle.std.specs.List.{flat_map, filter, sum_by}
use Rattle.morsel_meaning.specs.declared.fault.Fault.{Fault}
use Rattle.morsel_meaning.specs.declared.fault.Fault.TheVariants as faults
use Rattle.morsel_meaning.specs.Values.{Row}
use Rattle.morsel_outside.specs.Outside.{Outside}
use Rattle.morsel_outside.specs.Actions.{Action, Does, event_of, text_by, read_failures, write_failures}
use Rattle.morsel_scan.specs.Scans.{CsvScan}
use Rattle.morsel_scan.specs.CsvScans.{csv_scan_rows}
use Rattle.morsel_scan.specs.StretchRows.{Gives, HasFaultWithin}
use Rattle.morsel_scan.specs.Ahead.{asked_up_to}
use Rattle.morsel_read.specs.ScanReads.{FilesAsked, PiecesRead, sizes_in, IsPiecesFaultOf, HasGivenRows}
use Rattle.morsel_read.specs.PieceReads.{HaveRowsAtMost, IsSliceEnd}
use Rattle.morsel_drive.specs.Lines.{Each, IsReading, IsDue}
use Rattle.morsel_drive.specs.Driving.{is_reading, IsWriting, Stops, IsWriteStop}
use Rattle.morsel_line.specs.Jobs.{Job}
use Rattle.morsel_line.specs.RowStages.{ScannedRows}
use Rattle.morsel_line.specs.ScanJobs.{scan_text, scan_axis, IsJobFault, IsPieceKind}
use Rattle.morsel_line.specs.ScanSources.{opened_as, AskNextChunks, EndsInFailure}

-- the job of a reader whose files contain these bytes, of all rows of a scan
abbrev pub job_of : CsvScan → PiecesRead → List (List ℕ) → Job
job_of s r files = record { scan = s; first = r.sources.first; names = r.sources.names; opened = opened_as r.sources.files; files = files; stage = ScannedRows }

-- the places give the rows up to one of them
abbrev pub JobGives : Job → ℕ → List Row → Type 0
JobGives job to rows = Gives (scan_axis job).gives 0 to rows

-- no record that was not wholly asked has a fault
abbrev pub IsFaultlessPast : Job → ℕ → Type 0
IsFaultlessPast job asked = (fault : Fault) → HasFaultWithin (scan_axis job).gives asked (length (scan_axis job).gives) fault → ⊥

-- the places give the rows, of which so many bytes were asked, and they are what the scan means: all places, where all was asked, and no more rows than are allowed were; or those before the slice's end, and then they are so where no record that was not wholly asked has a fault
abbrev pub MeansRows : Job → ℕ → List Row → Type 0
MeansRows job asked rows =
    ((asked ≡ sum_by length job.files) × JobGives job (length (scan_axis job).gives) rows × (csv_scan_rows job.scan job.first job.names job.files ≡ Ok rows)
    × HaveRowsAtMost job.scan job.files 4294967295)
    ⊎ ((given : ℕ) × JobGives job given rows × IsSliceEnd job.scan job.files given asked
    × (IsFaultlessPast job asked → csv_scan_rows job.scan job.first job.names job.files ≡ Ok rows))

-- rows are answered where their text was written, and they are what the scan means
abbrev pub AnswersRows : Job → List Action → Result ℕ Fault → Type 0
AnswersRows job actions (Ok n) = (rows : List Row) × (flat_map text_by actions ≡ scan_text job.scan rows) × (n ≡ length rows)
    × MeansRows job (asked_up_to (scan_axis job) 0 (flat_map event_of actions)) rows
AnswersRows job actions (Err fault) = Unit {0}

-- what was written, given what the files contain: all rows, or the beginning of the text of those before the first fault; the fault that is answered is due; each read is in time
pub record WritesJob (job : Job) (bound chunk : ℕ) (actions : List Action) (result : Result ℕ Fault) : Type 0 where
  pub answers : AnswersRows job actions result
  pub due : IfErr result (IsDue (IsJobFault job))
  pub front : Stops (scan_axis job) (bound + (scan_axis job).longest) chunk actions

-- why a run of a scan has a fault: memory is out or a write failed, as the writes say; the reader answered it, and a read fault only where the last read failed; or decoding a piece did
abbrev pub StopsScan : FilesAsked → List Action → Fault → Type 0
StopsScan files actions fault = IsWriteStop actions fault
    ⊎ (IsPiecesFaultOf files fault × ((number : ℕ) → fault ≡ faults.ReadFault number → EndsInFailure files number (filter is_reading actions)))
    ⊎ IsPieceKind fault

-- a scan was written: only the next chunks were read, and parts written; a fault has its reason; with rows, no read and no write failed, and all was asked, but where the slice ends within the greatest number of rows
pub record WritesScan (s : CsvScan) (r : PiecesRead) (bound : ℕ) (before : Outside) (result : Result ℕ Fault) (after : Outside) : Type 0 where
  pub actions : List Action
  pub does : Does before actions after
  pub each : Each (λ action. IsReading action ⊎ IsWriting action) actions
  pub to : ℕ
  pub reads : AskNextChunks r.sources.files (sizes_in before.sizes r.sources.files) r.sources.chunk 0 (filter is_reading actions) to
  pub stops : IfErr result (StopsScan r.sources actions)
  pub fine : OnOk result ((sum_by read_failures (filter is_reading actions) ≡ 0) × (sum_by write_failures actions ≡ 0))
  pub all_asked : OnOk result ((to ≡ sum_by (λ n. n) (sizes_in before.sizes r.sources.files)) ⊎ (r.sources.stop ≤ 4294967295))
  pub told : (files : List (List ℕ)) → HasGivenRows s files before r → WritesJob (job_of s r files) bound r.sources.chunk actions result
