-- What the places of a CSV scan's bytes give is what the scan means, and the stretch of a piece gives what is made of the piece by itself.
use Rattle.std.specs.Prelude.{◌≡◌, ◌⊎◌, ℕ, ◌+◌, ◌<◌, ◌≤◌, false, Ok, List, [], ◌∷◌, length, take, slice_range, IsUtf8}
use Rattle.std.specs.List.{All, sum_by}
use Rattle.morsel_meaning.specs.declared.fault.Fault.{Fault}
use Rattle.morsel_meaning.specs.Values.{Row, kinds_of}
use Rattle.morsel_grammar.specs.Rows.{IsOfGrammar}
use Rattle.morsel_pipe.specs.Pieces.{Piece}
use Rattle.morsel_scan.specs.Scans.{CsvScan}
use Rattle.morsel_scan.specs.ScanRows.{total_rows}
use Rattle.morsel_scan.specs.CsvScans.{csv_sources, csv_scan_rows, piece_rows, IsPieceFault, UnlessOutOfMemory}
use Rattle.morsel_scan.specs.CsvPieces.{HaveRows, BeginsStretch, bytes_between, IsPieceOf}
use Rattle.morsel_scan.specs.ScanLaws.{rows_of_pieces}
use Rattle.morsel_scan.specs.Ahead.{EndsNoRow, EndsEachRow}
use Rattle.morsel_scan.specs.StretchRows.{collected, Gives, HasFaultWithin}
use Rattle.morsel_scan.specs.CsvAxis.{csv_keeps, csv_axis}

-- each byte of the files has its place
abbrev pub HasEachByte : CsvScan → Type 0
HasEachByte s = (first head : ℕ) (names files : List (List ℕ)) (opened : List ℕ) (text_of : List Row → List ℕ) → length names ≡ length files
    → (let axis = csv_axis s first names files opened head text_of in
    (length axis.gives ≡ sum_by length files) × (length axis.of_rows ≡ sum_by length files) × (length axis.row_ends ≡ sum_by length files))

-- where all places give rows, these are the scan's
abbrev pub GivesScanRows : CsvScan → Type 0
GivesScanRows s = (first head : ℕ) (names files : List (List ℕ)) (opened : List ℕ) (text_of : List Row → List ℕ) (rows : List Row)
    → collected (csv_axis s first names files opened head text_of).gives ≡ Ok rows → csv_scan_rows s first names files ≡ Ok rows

-- all places give what the scan means, a fault too, where the files have no more rows than are allowed
abbrev pub GivesScan : CsvScan → Type 0
GivesScan s = (first head : ℕ) (names files : List (List ℕ)) (opened : List ℕ) (text_of : List Row → List ℕ)
    → total_rows (csv_sources s first names files) ≤ 4294967295
    → collected (csv_axis s first names files opened head text_of).gives ≡ csv_scan_rows s first names files

-- a piece's stretch gives what is made of the piece by itself, and has each of its faults
abbrev pub GivesPieces : CsvScan → Type 0
GivesPieces s = (first head : ℕ) (names files : List (List ℕ)) (opened : List ℕ) (text_of : List Row → List ℕ) (piece : Piece) → IsPieceOf s first names files piece
    → (let gives = (csv_axis s first names files opened head text_of).gives in
    (piece.from ≤ piece.to) × (piece.to ≤ length gives) × (collected (slice_range gives piece.from piece.to) ≡ piece_rows s piece)
    × ((fault : Fault) → IsPieceFault s piece fault → UnlessOutOfMemory fault (HasFaultWithin gives piece.from piece.to fault)))

-- pieces of a scan, from place `from` up to place `to`, each of which begins where the one before it ends
abbrev pub AreChained : CsvScan → ℕ → List (List ℕ) → List (List ℕ) → ℕ → List Piece → ℕ → Type 0
AreChained s first names files from [] to = from ≡ to
AreChained s first names files from (piece ∷ pieces) to = IsPieceOf s first names files piece × (piece.from ≡ from) × AreChained s first names files piece.to pieces to

-- what is made of pieces from the beginning on, after which no place gives anything, is the scan's rows
abbrev pub ScansChained : CsvScan → Type 0
ScansChained s = (first head given : ℕ) (names files : List (List ℕ)) (opened : List ℕ) (text_of : List Row → List ℕ) (pieces : List Piece)
    → AreChained s first names files 0 pieces given
    → (let gives = (csv_axis s first names files opened head text_of).gives in
    Gives gives given (length gives) [] → rows_of_pieces s pieces ≡ csv_scan_rows s first names files)

-- a place at which a piece may end, after so many rows: a stretch may begin there, or all files end
abbrev pub IsAfterPieces : CsvScan → List (List ℕ) → ℕ → ℕ → Type 0
IsAfterPieces s files place rows = BeginsStretch s files place rows ⊎ (place ≡ sum_by length files)

-- no place gives anything after the last row, where the bytes that follow are UTF-8 and records up to the files' ends
abbrev pub GivesNothingAtEnd : CsvScan → Type 0
GivesNothingAtEnd s = (first head given rows : ℕ) (names files : List (List ℕ)) (opened : List ℕ) (text_of : List Row → List ℕ) → length names ≡ length files
    → IsAfterPieces s files given rows → HaveRows s files rows → ((number : ℕ) → IsUtf8 (bytes_between files number given (sum_by length files)))
    → (let gives = (csv_axis s first names files opened head text_of).gives in Gives gives given (length gives) [])

-- no place gives anything from where the slice keeps no more, unless it has a fault
abbrev pub GivesNothingPastSlice : CsvScan → Type 0
GivesNothingPastSlice s = (first head given rows : ℕ) (names files : List (List ℕ)) (opened : List ℕ) (text_of : List Row → List ℕ) → length names ≡ length files
    → IsAfterPieces s files given rows → ((position : ℕ) → rows ≤ position → csv_keeps s first names files position ≡ false)
    → (let gives = (csv_axis s first names files opened head text_of).gives in
    ((fault : Fault) → HasFaultWithin gives given (length gives) fault → ⊥) → Gives gives given (length gives) [])

-- the same where all files are of the grammar
abbrev pub GivesNothingOfGrammar : CsvScan → Type 0
GivesNothingOfGrammar s = (first head given rows : ℕ) (names files : List (List ℕ)) (opened : List ℕ) (text_of : List Row → List ℕ) → length names ≡ length files
    → IsAfterPieces s files given rows → ((position : ℕ) → rows ≤ position → csv_keeps s first names files position ≡ false)
    → All (IsOfGrammar s.options (kinds_of s.scan.fields)) files
    → (let gives = (csv_axis s first names files opened head text_of).gives in Gives gives given (length gives) [])

-- places at which no row ends are of one record at most
abbrev pub EndsEachRowOfFiles : CsvScan → Type 0
EndsEachRowOfFiles s = (first head : ℕ) (names files : List (List ℕ)) (opened : List ℕ) (text_of : List Row → List ℕ)
    → EndsEachRow (csv_axis s first names files opened head text_of)

-- no row ends between a place and a later one, where no more rows come before a place at which a stretch may begin and that is not after the later one;
-- the files before the one in which the later place stands are records to their ends, and there are bytes after it
abbrev pub EndsNoMoreRows : CsvScan → Type 0
EndsNoMoreRows s = (first head given later rows source earlier : ℕ) (names files : List (List ℕ)) (opened : List ℕ) (text_of : List Row → List ℕ) → length names ≡ length files
    → BeginsStretch s files given rows → HaveRows s (take source files) earlier → later ≤ sum_by length (take (source + 1) files) → later < sum_by length files
    → ((place more : ℕ) → BeginsStretch s files place more → place ≤ later → more ≤ rows)
    → EndsNoRow (csv_axis s first names files opened head text_of) given later
