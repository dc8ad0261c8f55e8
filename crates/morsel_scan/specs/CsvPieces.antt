-- Which pieces of CSV files belong to a scan: what holds of a piece by itself, given the bytes of the files.
use Rattle.std.specs.Prelude.{◌≡◌, ◌⊎◌, ℕ, ◌+◌, ◌-◌, ◌<◌, ◌≤◌, Bool, false, Some, List, [], ◌∷◌, ◌++◌, length, take, get_or, slice_get, slice_range, IsUtf8}
use Rattle.std.specs.List.{sum_by}
use Rattle.morsel_grammar.specs.Grammar.{CsvRecord, Records}
use Rattle.morsel_grammar.specs.Rows.{behind_header, mark_len, unmarked}
use Rattle.morsel_grammar.specs.GrammarRows.{AreWholeRecords, awaits_header_after}
use Rattle.morsel_cut.specs.RowCounts.{row_count}
use Rattle.morsel_pipe.specs.Pieces.{Piece}
use Rattle.morsel_scan.specs.Scans.{CsvScan}
use Rattle.morsel_scan.specs.ScanRows.{slice_keeps}
use Rattle.morsel_scan.specs.CsvScans.{FitsScan, piece_keeps}

-- the files are records to their ends, and this many of them count as rows
abbrev pub HaveRows : CsvScan → List (List ℕ) → ℕ → Type 0
HaveRows s [] rows = rows ≡ 0
HaveRows s (bytes ∷ files) rows = (records : List CsvRecord) × Records s.options (unmarked bytes) records
    × (more : ℕ) × HaveRows s files more × (rows ≡ row_count (length s.scan.fields) (behind_header s.options.has_header records) + more)

-- before a place of a file, after its mark, there are whole records, of which so many count as rows; and whether the header is still to come there
pub record HasRowsUpTo (s : CsvScan) (bytes : List ℕ) (at rows : ℕ) (awaits_header : Bool) : Type 0 where
  pub front : List ℕ
  pub rest : List ℕ
  pub records : List CsvRecord
  pub split : unmarked bytes ≡ front ++ rest
  pub whole : AreWholeRecords s.options front records
  pub place : at ≡ mark_len bytes + length front
  pub rows_are : rows ≡ row_count (length s.scan.fields) (behind_header s.options.has_header records)
  pub header_is : awaits_header ≡ awaits_header_after s.options.has_header records

-- a place of the bytes of all files, one after the other: it is a place of one of them, so many rows come before it, and the header is still to come or not
pub record IsRowPlace (s : CsvScan) (files : List (List ℕ)) (source at place rows : ℕ) (awaits_header : Bool) : Type 0 where
  pub bytes : List ℕ
  pub is_source : slice_get files source ≡ Some bytes
  pub earlier : ℕ
  pub rows_before : HaveRows s (take source files) earlier
  pub within : ℕ
  pub rows_within : HasRowsUpTo s bytes at within awaits_header
  pub rows_are : rows ≡ earlier + within
  pub place_is : place ≡ sum_by length (take source files) + at

-- a place of the bytes of all files: one of them begins here, also where a mark comes first, and so many rows come before it
pub record IsFileStart (s : CsvScan) (files : List (List ℕ)) (place rows : ℕ) : Type 0 where
  pub source : ℕ
  pub is_source : source < length files
  pub rows_before : HaveRows s (take source files) rows
  pub place_is : place ≡ sum_by length (take source files)

-- a stretch may begin here, and so many rows come before it: after whole records of a file, or where a file begins
abbrev pub BeginsStretch : CsvScan → List (List ℕ) → ℕ → ℕ → Type 0
BeginsStretch s files place rows = ((source : ℕ) × (at : ℕ) × (awaits_header : Bool) × IsRowPlace s files source at place rows awaits_header)
    ⊎ IsFileStart s files place rows

-- those bytes of the file of this number, from 0, that stand between two places of the bytes of all files
abbrev pub bytes_between : List (List ℕ) → ℕ → ℕ → ℕ → List ℕ
bytes_between files source from to =
    let before = sum_by length (take source files) in slice_range (get_or files source []) (from - before) (to - before)

-- the piece has whole records of one of the files, or its last ones, and rows among them; it tells how many rows come before it and within it,
-- which of these the slice keeps, whose offset is not below 0, and where its stretch begins; what is passed from there to its first byte is UTF-8 and has no row
pub record IsPieceOf (s : CsvScan) (first : ℕ) (names files : List (List ℕ)) (piece : Piece) : Type 0 where
  pub source : ℕ
  pub file : piece.file ≡ first + source
  pub name : slice_get names source ≡ Some piece.source
  pub start : ℕ
  pub begins : IsRowPlace s files source piece.at start piece.first_row false
  pub held : slice_range begins.bytes piece.at (piece.at + length piece.bytes) ≡ piece.bytes
  pub records : List CsvRecord
  pub split : Records s.options piece.bytes records
  pub ends : (AreWholeRecords s.options piece.bytes records) ⊎ (piece.at + length piece.bytes ≡ length begins.bytes)
  pub rows : piece.rows ≡ row_count (length s.scan.fields) records
  pub some : 0 < piece.rows
  pub fits : FitsScan piece
  pub slice : (total row : ℕ) → row < piece.rows → piece_keeps piece (piece.first_row + row) ≡ slice_keeps s.scan.asked.slice total (piece.first_row + row)
  pub no_parts : piece.parts ≡ []
  pub to : piece.to ≡ start + length piece.bytes
  pub from : BeginsStretch s files piece.from piece.first_row
  pub in_order : piece.from ≤ start
  pub passed : (number : ℕ) → IsUtf8 (bytes_between files number piece.from start)
