-- Laws of the faults of CSV files: each names a record, or what the files are; and files of which a scan has a meaning have none.
use Rattle.std.specs.Prelude.{◌≡◌, ◌⊎◌, ℕ, ◌<◌, ◌≤◌, Ok, Err, List, [], length}
use Rattle.std.specs.List.{All}
use Rattle.morsel_meaning.specs.declared.fault.Fault.{Fault}
use Rattle.morsel_meaning.specs.declared.fault.Fault.TheVariants as faults
use Rattle.morsel_meaning.specs.declared.fault.ComputeKind.TheVariants as kinds
use Rattle.morsel_meaning.specs.Values.{Row, kinds_of}
use Rattle.morsel_grammar.specs.Dialect.{IsDialect}
use Rattle.morsel_grammar.specs.Rows.{IsOfGrammar}
use Rattle.morsel_scan.specs.Scans.{CsvScan}
use Rattle.morsel_scan.specs.ScanRows.{total_rows}
use Rattle.morsel_scan.specs.CsvScans.{csv_sources, csv_scan_rows}
use Rattle.morsel_scan.specs.StretchRows.{HasFaultWithin}
use Rattle.morsel_scan.specs.CsvAxis.{csv_axis}
use Rattle.morsel_read.specs.PieceReads.{IsPiecesFault}
use Rattle.morsel_drive.specs.Lines.{IsDue}
use Rattle.morsel_query.specs.CsvCauses.{CsvCause}

-- a place of the files has this fault, or there is a reason for it in the files as far as some place
abbrev pub IsFaultOfScan : CsvScan → ℕ → List (List ℕ) → List (List ℕ) → Fault → Type 0
IsFaultOfScan s first names files fault =
    (let gives = (csv_axis s first names files [] 0 (λ rows. [])).gives in HasFaultWithin gives 0 (length gives) fault)
    ⊎ ((asked : ℕ) × IsPiecesFault s first files asked fault)

-- that there are too many rows is told of no file
abbrev pub TellsOfQuery : Fault → Type 0
TellsOfQuery (faults.ComputeError kinds.TooManyRows file at) = (file ≡ 4294967295) × (at ≡ 0)
TellsOfQuery fault = Unit {0}

-- each fault that is due by the files has its cause in them
abbrev pub EachFaultHasItsCause : Type 0
EachFaultHasItsCause = (s : CsvScan) (first : ℕ) (names files : List (List ℕ)) (fault : Fault) → IsDialect s.options → length names ≡ length files
    → TellsOfQuery fault → IsDue (IsFaultOfScan s first names files) fault → IsDue (CsvCause s first names files) fault

-- files of which a scan has a meaning, and which do not have too many rows, have no fault
abbrev pub ValidFilesHaveNoFault : Type 0
ValidFilesHaveNoFault = (s : CsvScan) (first : ℕ) (names files : List (List ℕ)) (rows : List Row) (fault : Fault) → IsDialect s.options → length names ≡ length files
    → total_rows (csv_sources s first names files) ≤ 4294967295 → csv_scan_rows s first names files ≡ Ok rows
    → IsDue (IsFaultOfScan s first names files) fault → IsDue (λ due. ⊥) fault

-- files of which a scan has a meaning are of the grammar
abbrev pub FilesWithRowsAreOfGrammar : Type 0
FilesWithRowsAreOfGrammar = (s : CsvScan) (first : ℕ) (names files : List (List ℕ)) (rows : List Row) → IsDialect s.options → length names ≡ length files
    → csv_scan_rows s first names files ≡ Ok rows → All (IsOfGrammar s.options (kinds_of s.scan.fields)) files

-- files of which a scan has a meaning have no cause of a fault, but that of too many rows, where they have too many
abbrev pub FilesWithRowsHaveNoCause : Type 0
FilesWithRowsHaveNoCause = (s : CsvScan) (first : ℕ) (names files : List (List ℕ)) (rows : List Row) (fault : Fault) → IsDialect s.options → length names ≡ length files
    → csv_scan_rows s first names files ≡ Ok rows → CsvCause s first names files fault
    → (fault ≡ faults.ComputeError kinds.TooManyRows 4294967295 0) × (4294967295 < total_rows (csv_sources s first names files))

-- where a scan of files has no meaning, the fault that is told in its place has its cause
abbrev pub FilesWithoutRowsHaveCause : Type 0
FilesWithoutRowsHaveCause = (s : CsvScan) (first : ℕ) (names files : List (List ℕ)) (fault : Fault) → IsDialect s.options
    → csv_scan_rows s first names files ≡ Err fault → CsvCause s first names files fault
