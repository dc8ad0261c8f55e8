-- A scan whose rows are kept.
use Rattle.std.specs.Prelude.{◌≡◌, ◌⊎◌, ℕ, ◌≤◌, IfErr, IfOk, OnOk, Result, Err, List}
use Rattle.std.specs.List.{flat_map, sum_by}
use Rattle.morsel_meaning.specs.declared.fault.Fault.{Fault}
use Rattle.morsel_meaning.specs.declared.fault.Fault.TheVariants as faults
use Rattle.morsel_meaning.specs.Values.{Row}
use Rattle.morsel_outside.specs.Outside.{Outside}
use Rattle.morsel_outside.specs.Actions.{Action, Does, event_of, read_failures}
use Rattle.morsel_scan.specs.Scans.{CsvScan}
use Rattle.morsel_scan.specs.Ahead.{asked_up_to}
use Rattle.morsel_read.specs.ScanReads.{FilesAsked, PiecesRead, sizes_in, IsPiecesFaultOf, HasGivenRows}
use Rattle.morsel_read.specs.PieceReads.{HasGivenAll}
use Rattle.morsel_drive.specs.Lines.{Each, IsReading, IsDue}
use Rattle.morsel_drain.specs.Draining.{LeavesAllElse}
use Rattle.morsel_drain.specs.Finding.{IsRowsEnd, SweepsFinding}
use Rattle.morsel_line.specs.Jobs.{Job}
use Rattle.morsel_line.specs.ScanJobs.{scan_axis, IsJobEnd, IsJobFault, IsJobPiece, IsPieceKind}
use Rattle.morsel_line.specs.ScanSources.{AskNextChunks, DidRead, EndsInFailure}
use Rattle.morsel_line.specs.ScanRuns.{JobGives, MeansRows, job_of}

-- what is answered, given what the files contain: how many bytes were given, and no place after those gives a row; the rows that they give are what the scan means; or a fault that is due
pub record KeepsJob (job : Job) (reads : List Action) (result : Result ℕ Fault) : Type 0 where
  pub ends : IfOk result (λ given. IsJobEnd job given (asked_up_to (scan_axis job) 0 (flat_map event_of reads)))
  pub means : IfOk result (λ given. (rows : List Row) → JobGives job given rows → MeansRows job (asked_up_to (scan_axis job) 0 (flat_map event_of reads)) rows)
  pub due : IfErr result (IsDue (IsJobFault job))

-- why rows are not kept: memory is out; the reader answered the fault, and a read fault only where the last read failed; or decoding a piece did
abbrev pub StopsKeeping : FilesAsked → List Action → Fault → Type 0
StopsKeeping files reads fault = (fault ≡ faults.OutOfMemory)
    ⊎ (IsPiecesFaultOf files fault × ((number : ℕ) → fault ≡ faults.ReadFault number → EndsInFailure files number reads))
    ⊎ IsPieceKind fault

-- the rows of a scan were kept: only the next chunks were read, and nothing else was done; a fault has its reason; where there is none, the number is how many bytes the reader has given, which has come to its end, no read failed, and all was asked, but where the slice ends within the greatest number of rows
pub record KeepsScan (s : CsvScan) (r : PiecesRead) (before : Outside) (result : Result ℕ Fault) (after : Outside) : Type 0 where
  pub reads : List Action
  pub does : Does before reads after
  pub each : Each IsReading reads
  pub leaves : LeavesAllElse before after
  pub now : PiecesRead  -- the reader then
  pub did : DidRead r now before.sizes reads
  pub given : IfOk result (λ n. n ≡ now.given)
  pub ended : OnOk result (HasGivenAll now)
  pub to : ℕ
  pub asks : AskNextChunks r.sources.files (sizes_in before.sizes r.sources.files) r.sources.chunk 0 reads to
  pub stops : IfErr result (StopsKeeping r.sources reads)
  pub fine : OnOk result (sum_by read_failures reads ≡ 0)
  pub all_asked : OnOk result ((to ≡ sum_by (λ n. n) (sizes_in before.sizes r.sources.files)) ⊎ (r.sources.stop ≤ 4294967295))
  pub told : (files : List (List ℕ)) → HasGivenRows s files before r → KeepsJob (job_of s r files) reads result

-- the rows of the scan were kept; or memory ran out before anything was done
abbrev pub KeepsOrNot : CsvScan → PiecesRead → Outside → Result ℕ Fault → Outside → Type 0
KeepsOrNot s r before result after = ((result ≡ Err faults.OutOfMemory) × (after ≡ before)) ⊎ KeepsScan s r before result after

-- how many sweeps are made where a row may find so many: few for each byte of the files, and for each row that the rows up to the last one of a piece may find
abbrev pub SweepsKept : CsvScan → PiecesRead → ℕ → Outside → ℕ → ℕ → Type 0
SweepsKept s r per_row opened before after = SweepsFinding (sum_by (λ n. n) (sizes_in opened.sizes r.sources.files)) per_row before after
    (λ rows. (files : List (List ℕ)) → HasGivenRows s files opened r → IsRowsEnd (IsJobPiece (job_of s r files)) rows)
