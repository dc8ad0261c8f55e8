-- What a scan of CSV files means, and what a piece of such a file means by itself.
use Rattle.std.specs.Prelude.{◌≡◌, ◌⊎◌, ℕ, ◌+◌, ◌<◌, ◌≤◌, ◌^◌, ◌&&◌, nat_le, nat_lt, Bool, false, Some, Result, Ok, Err, List, [], ◌∷◌, ◌++◌, length}
use Rattle.morsel_meaning.specs.declared.fault.Fault.{Fault}
use Rattle.morsel_meaning.specs.declared.fault.Fault.TheVariants as faults
use Rattle.morsel_meaning.specs.Values.{Row, Table, kinds_of}
use Rattle.morsel_grammar.specs.Rows.{mark_len, unmarked}
use Rattle.morsel_grammar.specs.Reading.{Reading, reading}
use Rattle.morsel_grammar.specs.Results.{refusal_fault}
use Rattle.morsel_pipe.specs.Pieces.{Piece}
use Rattle.morsel_scan.specs.Scans.{Scan, CsvScan}
use Rattle.morsel_scan.specs.ScanColumns.{output_fields}
use Rattle.morsel_scan.specs.ScanRows.{SourceRows, Placed, placed, scanned, scanned_source, scan_rows}

-- what was read of a text of a file: its rows, up to the fault of a record that is refused
abbrev pub read_source : ℕ → List ℕ → Reading → SourceRows
read_source file name r = record { file = file; name = name; rows = r.rows; fault = refusal_fault file r.refusal }

-- the rows of a CSV file by the grammar: those after its mark and its header, up to a record that is refused
abbrev pub csv_source : CsvScan → ℕ → List ℕ → List ℕ → SourceRows
csv_source s file name bytes = read_source file name (reading s.options (kinds_of s.scan.fields) s.options.has_header (mark_len bytes) (unmarked bytes))

-- the same of files with these names, one for each, whose numbers go on from the first
abbrev pub csv_sources : CsvScan → ℕ → List (List ℕ) → List (List ℕ) → List SourceRows
csv_sources s first [] files = []
csv_sources s first (name ∷ names) [] = []
csv_sources s first (name ∷ names) (bytes ∷ files) = csv_source s first name bytes ∷ csv_sources s (first + 1) names files

-- the rows of a scan of CSV files
abbrev pub csv_scan_rows : CsvScan → ℕ → List (List ℕ) → List (List ℕ) → Result (List Row) Fault
csv_scan_rows s first names files = scan_rows s.scan (csv_sources s first names files)

-- a piece can be decoded: its slice is within its rows, and its positions and places within their types
pub record FitsScan (piece : Piece) : Type 0 where
  pub slice : piece.slice.0 + piece.slice.1 ≤ piece.rows
  pub positions : piece.first_row + piece.rows ≤ 4294967295
  pub places : piece.at + length piece.bytes < 2 ^ 64

-- the rows of a piece, whose records stand after the header of its file
abbrev pub piece_source : CsvScan → Piece → SourceRows
piece_source s piece = read_source piece.file piece.source (reading s.options (kinds_of s.scan.fields) false piece.at piece.bytes)

-- whether a piece says that the slice keeps the row at a position
abbrev pub piece_keeps : Piece → ℕ → Bool
piece_keeps piece position = nat_le (piece.first_row + piece.slice.0) position && nat_lt position (piece.first_row + piece.slice.0 + piece.slice.1)

-- what a scan makes of a piece by itself
abbrev pub piece_rows : CsvScan → Piece → Result (List Row) Fault
piece_rows s piece = scanned_source s.scan (piece_keeps piece) piece.first_row (piece_source s piece)

-- the rows of a piece, at their positions
abbrev pub piece_placed : CsvScan → Piece → List Placed
piece_placed s piece = placed piece.first_row piece.file piece.source (piece_source s piece).rows

-- one of these rows has the fault
abbrev pub HasRowFault : Scan → (ℕ → Bool) → List Placed → Fault → Type 0
HasRowFault scan keeps rows fault = (before : List Placed) × (row : Placed) × (after : List Placed) × (rows ≡ before ++ row ∷ after) × (scanned scan keeps row ≡ Err fault)

-- what holds of a fault, unless memory is out, which it may be at any time
abbrev pub UnlessOutOfMemory : Fault → Type 0 → Type 0
UnlessOutOfMemory faults.OutOfMemory P = Unit {0}
UnlessOutOfMemory fault P = P

-- a fault of a piece: that of a record that is refused, or of a row; or memory is out
abbrev pub IsPieceFault : CsvScan → Piece → Fault → Type 0
IsPieceFault s piece fault = UnlessOutOfMemory fault (((piece_source s piece).fault ≡ Some fault) ⊎ (HasRowFault s.scan (piece_keeps piece) (piece_placed s piece) fault))

-- a piece is decoded: its rows, all of them, or one of its faults
abbrev pub Decodes : CsvScan → Piece → Result Table Fault → Type 0
Decodes s piece (Ok frame) = (frame.schema ≡ output_fields s.scan) × (piece_rows s piece ≡ Ok frame.rows)
Decodes s piece (Err fault) = IsPieceFault s piece fault
