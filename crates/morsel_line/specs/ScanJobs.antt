-- A line for a scan of CSV files into NDJSON.
use Rattle.std.specs.Prelude.{◌⊎◌, ℕ, List, length}
use Rattle.morsel_meaning.specs.declared.fault.Fault.{Fault}
use Rattle.morsel_meaning.specs.declared.fault.Fault.TheVariants as faults
use Rattle.morsel_meaning.specs.declared.fault.ComputeKind.TheVariants as kinds
use Rattle.morsel_meaning.specs.Values.{Row, names_of}
use Rattle.morsel_ndjson.specs.Ndjson.{ndjson}
use Rattle.morsel_pipe.specs.Pieces.{Piece}
use Rattle.morsel_scan.specs.Scans.{CsvScan}
use Rattle.morsel_scan.specs.ScanColumns.{output_fields}
use Rattle.morsel_scan.specs.CsvPieces.{IsPieceOf}
use Rattle.morsel_scan.specs.Ahead.{Axis}
use Rattle.morsel_scan.specs.StretchRows.{HasFaultWithin}
use Rattle.morsel_scan.specs.CsvAxis.{csv_axis}
use Rattle.morsel_read.specs.PieceReads.{IsPiecesFault, IsScanEnd}
use Rattle.morsel_line.specs.Jobs.{Job}
use Rattle.morsel_line.specs.RowStages.{StageSeen, staged_columns, staged_gives}

-- the text of the rows of a scan
abbrev pub scan_text : CsvScan → List Row → List ℕ
scan_text s rows = ndjson (names_of (output_fields s.scan)) rows

-- the text of rows that come out of a stage of a scan
abbrev pub staged_text : StageSeen → CsvScan → List Row → List ℕ
staged_text stage s rows = ndjson (names_of (staged_columns stage (output_fields s.scan))) rows

-- what the scan makes of each place of the files, as NDJSON, which has nothing before its first row
abbrev pub scan_axis : Job → Axis
scan_axis job = csv_axis job.scan job.first job.names job.files job.opened 0 (scan_text job.scan)

-- what each place gives at the end of the line
abbrev pub job_axis : Job → Axis
job_axis job = record (scan_axis job) { gives = staged_gives job.stage (scan_axis job).gives; text_of = staged_text job.stage job.scan }

-- the piece is one of the scan
abbrev pub IsJobPiece : Job → Piece → Type 0
IsJobPiece job piece = IsPieceOf job.scan job.first job.names job.files piece

-- a place of the files has this fault, or there is a reason for it in the files as far as some place
abbrev pub IsJobFault : Job → Fault → Type 0
IsJobFault job fault = HasFaultWithin (scan_axis job).gives 0 (length (scan_axis job).gives) fault
    ⊎ ((asked : ℕ) × IsPiecesFault job.scan job.first job.files asked fault)

-- no place of the files after this one gives anything, all having been asked; or the slice keeps no row after it, where so many bytes of them were asked
abbrev pub IsJobEnd : Job → ℕ → ℕ → Type 0
IsJobEnd job given asked = IsScanEnd job.scan job.first job.names job.files given asked

-- faults of records and of the rows of a scan, and that memory is out
abbrev pub IsPieceKind : Fault → Type 0
IsPieceKind faults.OutOfMemory = Unit {0}
IsPieceKind (faults.Malformed file at) = Unit {0}
IsPieceKind (faults.ComputeError kinds.NotUtf8 file at) = Unit {0}
IsPieceKind (faults.ComputeError kinds.IllTyped file at) = Unit {0}
IsPieceKind (faults.ComputeError kinds.IndexTooLarge file at) = Unit {0}
IsPieceKind fault = ⊥
