-- What is made of parts is made of the whole.
use Rattle.std.specs.Prelude.{◌≡◌, ◌⊎◌, ℕ, ◌+◌, ◌<◌, Bool, false, Option, Some, None, Result, Ok, List, [], ◌∷◌, ◌++◌, length}
use Rattle.morsel_meaning.specs.declared.fault.Fault.{Fault}
use Rattle.morsel_meaning.specs.Values.{Row, kinds_of}
use Rattle.morsel_grammar.specs.Grammar.{CsvRecord, Records}
use Rattle.morsel_grammar.specs.Cells.{CsvCell}
use Rattle.morsel_grammar.specs.Reading.{reading}
use Rattle.morsel_grammar.specs.GrammarRows.{AreWholeRecords, HasRows}
use Rattle.morsel_cut.specs.RowCounts.{row_count}
use Rattle.morsel_pipe.specs.Pieces.{Piece}
use Rattle.morsel_scan.specs.Scans.{Scan, CsvScan}
use Rattle.morsel_scan.specs.ScanRows.{Placed, placed, gathered, scanned, SourceRows, scanned_source, scanned_sources, total_rows, followed_by}
use Rattle.morsel_scan.specs.CsvScans.{read_source, piece_keeps, piece_rows}

-- what is made of rows in two parts is made of the one and then of the other
abbrev pub GathersParts : Type 0
GathersParts = (scan : Scan) (keeps : ℕ → Bool) (first later : List Placed)
    → gathered (scanned scan keeps) (first ++ later) ≡ followed_by (gathered (scanned scan keeps) first) (gathered (scanned scan keeps) later)

-- positions go on from one part of a file's rows to the other
abbrev pub PlacesParts : Type 0
PlacesParts = (position file : ℕ) (source : List ℕ) (first later : List (ℕ × List CsvCell))
    → placed position file source (first ++ later) ≡ placed position file source first ++ placed (position + length first) file source later

-- the rows of a file in two parts, where the first may have a fault that ends them
abbrev pub joined_under : Option Fault → SourceRows → SourceRows → SourceRows
joined_under None first later = record { file = first.file; name = first.name; rows = first.rows ++ later.rows; fault = later.fault }
joined_under (Some fault) first later = first

-- the rows of a file in two parts: those of the first, and then, unless a fault ends them, those of the second
abbrev pub joined_source : SourceRows → SourceRows → SourceRows
joined_source first later = joined_under first.fault first later

-- what a scan makes of a file in two parts is made of the one and then of the other, whose positions go on
abbrev pub ScansParts : Type 0
ScansParts = (scan : Scan) (keeps : ℕ → Bool) (position : ℕ) (first later : SourceRows) → later.file ≡ first.file → later.name ≡ first.name
    → scanned_source scan keeps position (joined_source first later)
    ≡ followed_by (scanned_source scan keeps position first) (scanned_source scan keeps (position + length first.rows) later)

-- what a scan makes of some files and then others
abbrev pub ScansSources : Type 0
ScansSources = (scan : Scan) (keeps : ℕ → Bool) (position : ℕ) (first later : List SourceRows)
    → scanned_sources scan keeps position (first ++ later)
    ≡ followed_by (scanned_sources scan keeps position first) (scanned_sources scan keeps (position + total_rows first) later)

-- a CSV text that is cut after whole records has the rows of its two parts
abbrev pub ReadsParts : CsvScan → Type 0
ReadsParts s = (file : ℕ) (name : List ℕ) (head : Bool) (at : ℕ) (front rest : List ℕ) (records : List CsvRecord) → AreWholeRecords s.options front records
    → (let first = reading s.options (kinds_of s.scan.fields) head at front in
    read_source file name (reading s.options (kinds_of s.scan.fields) head at (front ++ rest))
    ≡ joined_source (read_source file name first) (read_source file name (reading s.options (kinds_of s.scan.fields) first.head (at + length front) rest)))

-- what is made of pieces, one after the other
abbrev pub rows_of_pieces : CsvScan → List Piece → Result (List Row) Fault
rows_of_pieces s [] = Ok []
rows_of_pieces s (piece ∷ pieces) = followed_by (piece_rows s piece) (rows_of_pieces s pieces)

-- both keep the same of so many positions, from one on
abbrev pub KeepAlike : (ℕ → Bool) → (ℕ → Bool) → ℕ → ℕ → Type 0
KeepAlike a b position rows = (row : ℕ) → row < rows → a (position + row) ≡ b (position + row)

-- the text, which stands after the header of a file, is UTF-8 and records, none of which is a row
abbrev pub HasNoRows : CsvScan → List ℕ → Type 0
HasNoRows s text = HasRows s.options (kinds_of s.scan.fields) false text [] false

-- the piece is the first of a text that begins at this place of a file, after this many rows: before it are whole records without a row,
-- it has whole records, or the text's last ones, and it keeps those of their rows that are kept; `rest` comes after it
pub record IsFirstPiece (s : CsvScan) (keeps : ℕ → Bool) (file : ℕ) (name : List ℕ) (at position : ℕ) (piece : Piece) (text rest : List ℕ) : Type 0 where
  pub passed : List ℕ
  pub no_rows : HasNoRows s passed
  pub whole : AreWholeRecords s.options passed no_rows.records
  pub bytes : text ≡ passed ++ (piece.bytes ++ rest)
  pub records : List CsvRecord
  pub split : Records s.options piece.bytes records
  pub ends : (AreWholeRecords s.options piece.bytes records) ⊎ (rest ≡ [])
  pub file_is : piece.file ≡ file
  pub name_is : piece.source ≡ name
  pub at_is : piece.at ≡ at + length passed
  pub position_is : piece.first_row ≡ position
  pub rows_are : piece.rows ≡ row_count (length s.scan.fields) records
  pub keeps_alike : KeepAlike keeps (piece_keeps piece) position piece.rows

-- pieces of a text that stands after the header of a file, in order; what stands in none of them has no row, and positions go on by the pieces' rows
abbrev pub CutText : CsvScan → (ℕ → Bool) → ℕ → List ℕ → ℕ → ℕ → List Piece → List ℕ → Type 0
CutText s keeps file name at position [] text = HasNoRows s text
CutText s keeps file name at position (piece ∷ pieces) text = (rest : List ℕ) × IsFirstPiece s keeps file name at position piece text rest
    × CutText s keeps file name (piece.at + length piece.bytes) (position + piece.rows) pieces rest

-- what a scan makes of a text that stands after the header of a file is made of its pieces, one after the other
abbrev pub ScansPieces : CsvScan → Type 0
ScansPieces s = (keeps : ℕ → Bool) (file : ℕ) (name : List ℕ) (at position : ℕ) (pieces : List Piece) (text : List ℕ) → CutText s keeps file name at position pieces text
    → scanned_source s.scan keeps position (read_source file name (reading s.options (kinds_of s.scan.fields) false at text)) ≡ rows_of_pieces s pieces
