-- The steps of decoding a piece: its text is cut where the slice begins and ends, and read; then come the row index, the path, the filter, and the choice of columns.
use Rattle.std.specs.Prelude.{◌≡◌, ◌⊎◌, ℕ, ◌+◌, ◌<◌, ◌≤◌, Bool, true, false, Option, Some, None, Result, Ok, Err, List, [], ◌∷◌, ◌++◌, map, length, take, drop}
use Rattle.std.specs.List.{filter}
use Rattle.morsel_meaning.specs.declared.value.Field.{Field}
use Rattle.morsel_meaning.specs.declared.fault.Fault.{Fault}
use Rattle.morsel_meaning.specs.declared.fault.Fault.TheVariants as faults
use Rattle.morsel_meaning.specs.declared.fault.ComputeKind.TheVariants as kinds
use Rattle.morsel_meaning.specs.Values.{Row, Table, kinds_of}
use Rattle.morsel_frame.specs.Tables.{cells_at}
use Rattle.morsel_grammar.specs.Grammar.{CsvRecord}
use Rattle.morsel_grammar.specs.Cells.{CsvCell}
use Rattle.morsel_grammar.specs.Reading.{Reading, reading, chosen, used_values}
use Rattle.morsel_grammar.specs.Results.{refusal_fault}
use Rattle.morsel_grammar.specs.GrammarRows.{AreWholeRecords, values_of}
use Rattle.morsel_pipe.specs.Pieces.{Piece}
use Rattle.morsel_scan.specs.declared.spec.RowIndex.{RowIndex}
use Rattle.morsel_scan.specs.Scans.{Scan, CsvScan}
use Rattle.morsel_scan.specs.ScanColumns.{kept_columns, used_columns, index_fields, path_fields, index_values, path_values}
use Rattle.morsel_scan.specs.ScanRows.{passes}
use Rattle.morsel_scan.specs.CsvScans.{piece_source, UnlessOutOfMemory, IsPieceFault}

-- the columns of which a piece's rows are made: the row index, the used columns of the files, the path
abbrev pub step_fields : Scan → List Field
step_fields scan = index_fields scan.asked.row_index ++ (chosen (used_columns scan) scan.fields ++ path_fields scan.asked.path)

-- every one of these fields
abbrev pub all_of : List Field → List Bool
all_of fields = map (λ (field : Field). true) fields

-- which of these columns are kept
abbrev pub step_mask : Scan → List Bool
step_mask scan = all_of (index_fields scan.asked.row_index) ++ (chosen (used_columns scan) (kept_columns scan) ++ all_of (path_fields scan.asked.path))

-- the places where the mask is true, the first place being `first`
abbrev pub true_places : ℕ → List Bool → List ℕ
true_places first [] = []
true_places first (true ∷ mask) = first ∷ true_places (first + 1) mask
true_places first (false ∷ mask) = true_places (first + 1) mask

-- the values of a row's used columns, after its number and before its file's name
abbrev pub step_row : Scan → ℕ → List ℕ → Row → Row
step_row scan position source values = index_values scan.asked.row_index position ++ (values ++ path_values scan.asked.path source)

-- the same of rows whose positions go on
abbrev pub step_rows : Scan → ℕ → List ℕ → List Row → List Row
step_rows scan position source [] = []
step_rows scan position source (values ∷ rows) = step_row scan position source values ∷ step_rows scan (position + 1) source rows

-- the rows that pass the filter, with the columns that are kept
abbrev pub chosen_rows : Scan → List Row → List Row
chosen_rows scan rows = map (cells_at (true_places 0 (step_mask scan))) (filter (passes scan.filter (step_fields scan)) rows)

-- the numbers of so many rows, from a position on, are within 32 bits
abbrev pub NumbersFit : Option RowIndex → ℕ → ℕ → Type 0
NumbersFit None position rows = Unit {0}
NumbersFit (Some index) position rows = (rows ≡ 0) ⊎ (index.offset + (position + rows) ≤ 4294967295)

-- one of the numbers is not
abbrev pub NumbersPass : Option RowIndex → ℕ → ℕ → Type 0
NumbersPass None position rows = ⊥
NumbersPass (Some index) position rows = (0 < rows) × (4294967295 < index.offset + (position + rows))

-- the fault of a number past 32 bits, or memory is out
abbrev pub IsNumberFault : Option RowIndex → ℕ → ℕ → Fault → Type 0
IsNumberFault index position rows fault = UnlessOutOfMemory fault ((fault ≡ faults.ComputeError kinds.IndexTooLarge 4294967295 0) × NumbersPass index position rows)

-- the values of used columns were made into rows of the scan
abbrev pub Finishes : Scan → ℕ → List ℕ → Table → Result Table Fault → Type 0
Finishes scan position source read (Ok made) = (made.rows ≡ chosen_rows scan (step_rows scan position source read.rows))
    × (made.schema ≡ chosen (step_mask scan) (step_fields scan)) × NumbersFit scan.asked.row_index position (length read.rows)
Finishes scan position source read (Err fault) = IsNumberFault scan.asked.row_index position (length read.rows) fault

-- one of so many first rows has a bad cell in a used column, and its place is the fault's
abbrev pub HasBadRow : CsvScan → ℕ → ℕ → List (ℕ × List CsvCell) → Fault → Type 0
HasBadRow s file len rows fault = (before : List (ℕ × List CsvCell)) × (row : ℕ × List CsvCell) × (after : List (ℕ × List CsvCell))
    × (rows ≡ before ++ row ∷ after) × (length before < len) × (used_values (used_columns s.scan) row.1 ≡ None) × (fault ≡ faults.ComputeError kinds.IllTyped file row.0)

-- what is read of a text of a file, which stands after the header
abbrev pub text_reading : CsvScan → ℕ → List ℕ → Reading
text_reading s at text = reading s.options (kinds_of s.scan.fields) false at text

-- so many first rows of a text were read into the used columns, and no record is refused; or a fault
abbrev pub ReadsFirst : CsvScan → ℕ → ℕ → List ℕ → ℕ → Result Table Fault → Type 0
ReadsFirst s file at text len (Ok frame) = ((text_reading s at text).refusal ≡ None) × (frame.schema ≡ chosen (used_columns s.scan) s.scan.fields)
    × (values_of (used_columns s.scan) (map (λ (row : ℕ × List CsvCell). row.1) (take len (text_reading s at text).rows)) ≡ Some frame.rows)
ReadsFirst s file at text len (Err fault) =
    UnlessOutOfMemory fault ((refusal_fault file (text_reading s at text).refusal ≡ Some fault) ⊎ (HasBadRow s file len (text_reading s at text).rows fault))

-- the same of all rows of a text
abbrev pub ReadsText : CsvScan → ℕ → ℕ → List ℕ → Result Table Fault → Type 0
ReadsText s file at text result = ReadsFirst s file at text (length (text_reading s at text).rows) result

-- no record of a text is refused, or one is; or memory is out
abbrev pub ChecksText : CsvScan → ℕ → ℕ → List ℕ → Result (Unit {0}) Fault → Type 0
ChecksText s file at text (Ok _) = (text_reading s at text).refusal ≡ None
ChecksText s file at text (Err fault) = UnlessOutOfMemory fault (refusal_fault file (text_reading s at text).refusal ≡ Some fault)

-- a text is cut after whole records that have so many rows; or at its end, and it has no more rows than that
pub record IsCut (s : CsvScan) (at : ℕ) (text : List ℕ) (row cut : ℕ) : Type 0 where
  pub within : cut ≤ length text
  pub found : ((records : List CsvRecord) × AreWholeRecords s.options (take cut text) records × ((text_reading s at (take cut text)).refusal ≡ None)
      × (length (text_reading s at (take cut text)).rows ≡ row))
      ⊎ ((cut ≡ length text) × (length (text_reading s at text).rows ≤ row))

-- the rows of a piece that its slice keeps were read into the used columns
abbrev pub ReadsKept : CsvScan → Piece → Result Table Fault → Type 0
ReadsKept s piece (Ok frame) = ((piece_source s piece).fault ≡ None) × (frame.schema ≡ chosen (used_columns s.scan) s.scan.fields)
    × (values_of (used_columns s.scan) (map (λ (row : ℕ × List CsvCell). row.1) (take piece.slice.1 (drop piece.slice.0 (piece_source s piece).rows))) ≡ Some frame.rows)
ReadsKept s piece (Err fault) = IsPieceFault s piece fault
