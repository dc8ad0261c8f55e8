-- What a scan makes of a text in pieces.
use Rattle.std.proofs.Common.{◌≡◌, ℕ, ◌+◌, ap, sym, subst, refl, ◌∙◌, arith, inl, inr, append-nil}
use Rattle.std.specs.Prelude.{◌⊎◌, Bool, false, Option, Some, None, Result, Ok, Err, List, [], ◌∷◌, ◌++◌, length, map}
use Rattle.morsel_meaning.specs.declared.fault.Fault.{Fault}
use Rattle.morsel_meaning.specs.Values.{Row, kinds_of}
use Rattle.morsel_grammar.specs.Dialect.{IsDialect}
use Rattle.morsel_grammar.specs.Grammar.{CsvRecord, Records}
use Rattle.morsel_grammar.specs.Cells.{CsvCell}
use Rattle.morsel_grammar.specs.Reading.{Refusal, Reading, reading}
use Rattle.morsel_grammar.specs.Results.{flaw_fault, refusal_fault}
use Rattle.morsel_grammar.specs.GrammarRows.{AreWholeRecords}
use Rattle.morsel_grammar.specs.Joined.{joined_at}
use Rattle.morsel_grammar.proofs.FileLemmas.{reads_all_cells}
use Rattle.morsel_grammar.proofs.JoinedLemmas.{reading-joined}
use Rattle.morsel_grammar.proofs.PieceRowLemmas.{reading-past}
use Rattle.morsel_pipe.specs.Pieces.{Piece}
use Rattle.morsel_scan.specs.Scans.{CsvScan}
use Rattle.morsel_scan.specs.ScanRows.{SourceRows, placed, scanned, gathered, scanned_source, followed_by, ended_by}
use Rattle.morsel_scan.specs.CsvScans.{read_source, piece_keeps, piece_source, piece_rows}
use Rattle.morsel_scan.specs.ScanLaws.{joined_under, ReadsParts, KeepAlike, HasNoRows, IsFirstPiece, CutText, rows_of_pieces, ScansPieces}
use Rattle.morsel_cut.specs.RowCounts.{row_count}
use Rattle.morsel_scan.proofs.CountLemmas.{counted}
use Rattle.morsel_scan.proofs.GatherLemmas.{followed_by-nothing, followed_by-end, gathered-alike, scans_parts}

read-joined : (file : ℕ) (name : List ℕ) (rows : List (ℕ × List CsvCell)) (head : Bool) (refusal : Option Refusal) (later : Bool → Reading)
    → read_source file name (joined_at rows head refusal later)
    ≡ joined_under (refusal_fault file refusal) (record { file = file; name = name; rows = rows; fault = refusal_fault file refusal }) (read_source file name (later head))
read-joined file name rows head None later = refl
read-joined file name rows head (Some refusal) later = refl

pub reads_parts : (s : CsvScan) → IsDialect s.options → ReadsParts s
reads_parts s fit = λ file name head at front rest records whole.
    let first : Reading = reading s.options (kinds_of s.scan.fields) head at front in
    ap (read_source file name) (reading-joined s.options (kinds_of s.scan.fields) head at front rest records fit whole)
    ∙ read-joined file name first.rows first.head first.refusal (λ awaits_header. reading s.options (kinds_of s.scan.fields) awaits_header (at + length front) rest)

-- what is read of a text that stands after the header
abbrev read_behind : CsvScan → ℕ → List ℕ → ℕ → List ℕ → SourceRows
read_behind s file name at text = read_source file name (reading s.options (kinds_of s.scan.fields) false at text)

-- the header does not come again
head_stays : (s : CsvScan) (at : ℕ) (text : List ℕ) → (reading s.options (kinds_of s.scan.fields) false at text).head ≡ false
head_stays s at text = (reading-past s.options (kinds_of s.scan.fields) false at text).kept refl

behind-append : (s : CsvScan) (keeps : ℕ → Bool) (file : ℕ) (name : List ℕ) (at position : ℕ) (front rest : List ℕ) (records : List CsvRecord) → IsDialect s.options → AreWholeRecords s.options front records
    → scanned_source s.scan keeps position (read_behind s file name at (front ++ rest))
    ≡ followed_by (scanned_source s.scan keeps position (read_behind s file name at front))
    (scanned_source s.scan keeps (position + length (read_behind s file name at front).rows) (read_behind s file name (at + length front) rest))
behind-append s keeps file name at position front rest records fit whole =
    let first : Reading = reading s.options (kinds_of s.scan.fields) false at front in
    let later : Bool → SourceRows = λ head. read_source file name (reading s.options (kinds_of s.scan.fields) head (at + length front) rest) in
    ap (scanned_source s.scan keeps position) (reads_parts s fit file name false at front rest records whole)
    ∙ scans_parts s.scan keeps position (read_source file name first) (later first.head) refl refl
    ∙ ap (λ head. followed_by (scanned_source s.scan keeps position (read_source file name first)) (scanned_source s.scan keeps (position + length first.rows) (later head))) (head_stays s at front)

-- a piece keeps what is kept, so the same is made of it
piece_rows-alike : (s : CsvScan) (keeps : ℕ → Bool) (piece : Piece) → KeepAlike keeps (piece_keeps piece) piece.first_row (length (piece_source s piece).rows)
    → scanned_source s.scan keeps piece.first_row (piece_source s piece) ≡ piece_rows s piece
piece_rows-alike s keeps piece alike =
    ap (ended_by (piece_source s piece).fault) (gathered-alike s.scan keeps (piece_keeps piece) piece.first_row piece.file piece.source (piece_source s piece).rows alike)

-- of no text nothing is made
nothing_behind : (s : CsvScan) (keeps : ℕ → Bool) (file : ℕ) (name : List ℕ) (at position : ℕ) (text : List ℕ) → text ≡ [] → scanned_source s.scan keeps position (read_behind s file name at text) ≡ Ok []
nothing_behind s keeps file name at position [] is = refl
nothing_behind s keeps file name at position (b ∷ bs) is = cc

-- what was read: rows, and a record that is refused
abbrev read_rows : ℕ → List ℕ → List (ℕ × List CsvCell) → Option Refusal → SourceRows
read_rows file name rows refusal = record { file = file; name = name; rows = rows; fault = refusal_fault file refusal }

-- no rows without a fault
no_rows_made : (s : CsvScan) (keeps : ℕ → Bool) (file : ℕ) (name : List ℕ) (position : ℕ) (rows : List (ℕ × List CsvCell)) (refusal : Option Refusal) → refusal ≡ None → map (λ (row : ℕ × List CsvCell). row.1) rows ≡ []
    → (scanned_source s.scan keeps position (read_rows file name rows refusal) ≡ Ok []) × (length rows ≡ 0)
no_rows_made s keeps file name position [] None none is = (refl, refl)
no_rows_made s keeps file name position [] (Some refusal) none is = absurd (cc)
no_rows_made s keeps file name position (row ∷ rows) refusal none is = absurd (cc)

-- of a text without rows nothing is made
passed_made : (s : CsvScan) (keeps : ℕ → Bool) (file : ℕ) (name : List ℕ) (at position : ℕ) (text : List ℕ) → IsDialect s.options → HasNoRows s text
    → (scanned_source s.scan keeps position (read_behind s file name at text) ≡ Ok []) × (length (read_behind s file name at text).rows ≡ 0)
passed_made s keeps file name at position text fit has =
    let all = reads_all_cells s.options fit (kinds_of s.scan.fields) false at text [] false has in
    let r : Reading = reading s.options (kinds_of s.scan.fields) false at text in
    no_rows_made s keeps file name position r.rows r.refusal all.0 all.1

-- what follows a fault does not matter
fault_first : (s : CsvScan) (keeps : ℕ → Bool) (file : ℕ) (name : List ℕ) (position n : ℕ) (rows : List (ℕ × List CsvCell)) (refusal : Option Refusal) (later : ℕ → Result (List Row) Fault)
    → (refusal ≡ None → length rows ≡ n)
    → followed_by (scanned_source s.scan keeps position (read_rows file name rows refusal)) (later (position + length rows))
    ≡ followed_by (scanned_source s.scan keeps position (read_rows file name rows refusal)) (later (position + n))
fault_first s keeps file name position n rows None later all =
    ap (λ m. followed_by (gathered (scanned s.scan keeps) (placed position file name rows)) (later (position + m))) (all refl)
fault_first s keeps file name position n rows (Some refusal) later all =
    by (flaw_fault file refusal.at refusal.flaw) (gathered (scanned s.scan keeps) (placed position file name rows))
  where
    by : (fault : Fault) (found : Result (List Row) Fault) → followed_by (ended_by (Some fault) found) (later (position + length rows)) ≡ followed_by (ended_by (Some fault) found) (later (position + n))
    by fault (Ok answers) = refl
    by fault (Err first) = refl

-- what is made of a text that begins with a piece's bytes
piece-append : (s : CsvScan) (keeps : ℕ → Bool) (file : ℕ) (name : List ℕ) (at position : ℕ) (bytes rest : List ℕ) (records : List CsvRecord) → IsDialect s.options → Records s.options bytes records
    → (AreWholeRecords s.options bytes records) ⊎ (rest ≡ [])
    → scanned_source s.scan keeps position (read_behind s file name at (bytes ++ rest))
    ≡ followed_by (scanned_source s.scan keeps position (read_behind s file name at bytes))
    (scanned_source s.scan keeps (position + row_count (length s.scan.fields) records) (read_behind s file name (at + length bytes) rest))
piece-append s keeps file name at position bytes rest records fit split (inl whole) =
    let r : Reading = reading s.options (kinds_of s.scan.fields) false at bytes in
    behind-append s keeps file name at position bytes rest records fit whole
    ∙ fault_first s keeps file name position (row_count (length s.scan.fields) records) r.rows r.refusal
    (λ p. scanned_source s.scan keeps p (read_behind s file name (at + length bytes) rest)) (counted s at bytes records fit split).all
piece-append s keeps file name at position bytes rest records fit split (inr last) =
    ap (λ r. scanned_source s.scan keeps position (read_behind s file name at (bytes ++ r))) last
    ∙ ap (λ t. scanned_source s.scan keeps position (read_behind s file name at t)) (append-nil bytes)
    ∙ sym (followed_by-end (scanned_source s.scan keeps position (read_behind s file name at bytes)))
    ∙ ap (followed_by (scanned_source s.scan keeps position (read_behind s file name at bytes)))
    (sym (nothing_behind s keeps file name (at + length bytes) (position + row_count (length s.scan.fields) records) rest last))

-- what is made of a piece's bytes, where it stands
piece_here : (s : CsvScan) (keeps : ℕ → Bool) (file : ℕ) (name : List ℕ) (at position : ℕ) (piece : Piece) (text rest : List ℕ) → IsDialect s.options
    → IsFirstPiece s keeps file name at position piece text rest
    → scanned_source s.scan keeps position (read_behind s file name piece.at piece.bytes) ≡ piece_rows s piece
piece_here s keeps file name at position piece text rest fit is =
    let few = (counted s piece.at piece.bytes is.records fit is.split).most in
    let rows = is.rows_are in
    let alike : KeepAlike keeps (piece_keeps piece) piece.first_row (length (piece_source s piece).rows) =
    λ row within. subst (λ p. keeps (p + row) ≡ piece_keeps piece (p + row)) (sym is.position_is) (is.keeps_alike row (omega arith)) in
    ap (λ f. scanned_source s.scan keeps position (read_behind s f name piece.at piece.bytes)) (sym is.file_is)
    ∙ ap (λ n. scanned_source s.scan keeps position (read_behind s piece.file n piece.at piece.bytes)) (sym is.name_is)
    ∙ ap (λ p. scanned_source s.scan keeps p (piece_source s piece)) (sym is.position_is)
    ∙ piece_rows-alike s keeps piece alike

-- what is made of a text whose first piece is known
first_made : (s : CsvScan) (keeps : ℕ → Bool) (file : ℕ) (name : List ℕ) (at position : ℕ) (piece : Piece) (text rest : List ℕ) → IsDialect s.options
    → IsFirstPiece s keeps file name at position piece text rest
    → scanned_source s.scan keeps position (read_behind s file name at text)
    ≡ followed_by (piece_rows s piece) (scanned_source s.scan keeps (position + piece.rows) (read_behind s file name (piece.at + length piece.bytes) rest))
first_made s keeps file name at position piece text rest fit is =
    let none = passed_made s keeps file name at position is.passed fit is.no_rows in
    let after : List ℕ = piece.bytes ++ rest in
    let there : position + length (read_behind s file name at is.passed).rows ≡ position = let h = none.1 in omega arith in
    ap (λ t. scanned_source s.scan keeps position (read_behind s file name at t)) is.bytes
    ∙ behind-append s keeps file name at position is.passed after is.no_rows.records fit is.whole
    ∙ ap (λ x. followed_by x (scanned_source s.scan keeps (position + length (read_behind s file name at is.passed).rows) (read_behind s file name (at + length is.passed) after))) none.0
    ∙ followed_by-nothing (scanned_source s.scan keeps (position + length (read_behind s file name at is.passed).rows) (read_behind s file name (at + length is.passed) after))
    ∙ ap (λ p. scanned_source s.scan keeps p (read_behind s file name (at + length is.passed) after)) there
    ∙ ap (λ a. scanned_source s.scan keeps position (read_behind s file name a after)) (sym is.at_is)
    ∙ piece-append s keeps file name piece.at position piece.bytes rest is.records fit is.split is.ends
    ∙ ap (λ n. followed_by (scanned_source s.scan keeps position (read_behind s file name piece.at piece.bytes)) (scanned_source s.scan keeps (position + n) (read_behind s file name (piece.at + length piece.bytes) rest))) (sym is.rows_are)
    ∙ ap (λ x. followed_by x (scanned_source s.scan keeps (position + piece.rows) (read_behind s file name (piece.at + length piece.bytes) rest))) (piece_here s keeps file name at position piece text rest fit is)

scans_cut : (s : CsvScan) (keeps : ℕ → Bool) (file : ℕ) (name : List ℕ) (at position : ℕ) (pieces : List Piece) (text : List ℕ) → IsDialect s.options → CutText s keeps file name at position pieces text
    → scanned_source s.scan keeps position (read_behind s file name at text) ≡ rows_of_pieces s pieces
scans_cut s keeps file name at position [] text fit cut = (passed_made s keeps file name at position text fit cut).0
scans_cut s keeps file name at position (piece ∷ pieces) text fit (rest, is, later) =
    first_made s keeps file name at position piece text rest fit is
    ∙ ap (followed_by (piece_rows s piece)) (scans_cut s keeps file name (piece.at + length piece.bytes) (position + piece.rows) pieces rest fit later)

pub scans_pieces : (s : CsvScan) → IsDialect s.options → ScansPieces s
scans_pieces s fit = λ keeps file name at position pieces text cut. scans_cut s keeps file name at position pieces text fit cut
