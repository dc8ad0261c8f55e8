-- The last row of a piece is one of those that the files have.
use Rattle.std.proofs.Common.{◌≡◌, ℕ, zero, suc, ◌+◌, ◌-◌, ◌≤◌, ap, sym, subst, refl, ◌∙◌, inl, inr, arith, append-nil, length-append}
use Rattle.std.proofs.lemmas.List.{take-append-drop, drop_at, drop-drop, nil_from_length}
use Rattle.std.specs.Prelude.{Bool, ◌⊎◌, List, [], ◌∷◌, ◌++◌, length, take, drop}
use Rattle.morsel_grammar.specs.Dialect.{IsDialect}
use Rattle.morsel_grammar.specs.Grammar.{CsvRecord, Records}
use Rattle.morsel_grammar.specs.Rows.{behind_header, mark_len, unmarked}
use Rattle.morsel_grammar.specs.GrammarRows.{AreWholeRecords, awaits_header_after}
use Rattle.morsel_grammar.proofs.RecordLemmas.{one_list}
use Rattle.morsel_grammar.proofs.WholeRecordLemmas.{records_behind}
use Rattle.morsel_cut.specs.RowCounts.{row_count}
use Rattle.morsel_cut.proofs.CountLemmas.{adds_rows}
use Rattle.morsel_pipe.specs.Pieces.{Piece}
use Rattle.morsel_drain.specs.Finding.{IsRowsEnd}
use Rattle.morsel_scan.specs.Scans.{CsvScan}
use Rattle.morsel_scan.specs.CsvPieces.{HaveRows, IsPieceOf}
use Rattle.morsel_scan.proofs.AxisFileLemmas.{mark_size}
use Rattle.morsel_scan.proofs.FilesPassedLemmas.{StandsIn, row_stands}
use Rattle.morsel_scan.proofs.HeaderLemmas.{behind_header-append}

-- a file has so many rows before a place of it and then so many more, where it is records to its end
abbrev HasRowsMore : CsvScan → ℕ → List ℕ → ℕ → ℕ → Type 0
HasRowsMore s more bytes at within = (records : List CsvRecord) → Records s.options (unmarked bytes) records → within + more ≤ row_count (length s.scan.fields) (behind_header s.options.has_header records)

-- and so have the files
stands_within : (s : CsvScan) (more : ℕ) (files : List (List ℕ)) (source place before rows : ℕ) → IsDialect s.options → HaveRows s files rows → StandsIn s (HasRowsMore s more) files source place before → before + more ≤ rows
stands_within s more [] source place before rows fit have stands = absurd stands
stands_within s more (bytes ∷ files) zero place before rows fit (records, split, later, have, is) stands = let here = stands records split in omega (arith, here, is)
stands_within s more (bytes ∷ files) (suc n) place before rows fit (records, split, later, have, is) (after, others, front, first, stands, place_is, before_is) =
    let rest = stands_within s more files n after others later fit have stands in
    let same = ap (λ (xs : List CsvRecord). row_count (length s.scan.fields) (behind_header s.options.has_header xs)) (one_list s.options fit (unmarked bytes) records front split first) in
    omega (arith, rest, same, is, before_is)

-- records begin with those of a piece, which are whole or all
record BeginsWith (first all : List CsvRecord) : Type 0 where
  later : List CsvRecord
  split : all ≡ first ++ later

begins_with : (s : CsvScan) (text left : List ℕ) (first all : List CsvRecord) → IsDialect s.options → Records s.options text first → Records s.options (text ++ left) all
    → (AreWholeRecords s.options text first) ⊎ (left ≡ []) → BeginsWith first all
begins_with s text left first all fit are split (inl whole) = let found = records_behind s.options text left first all fit whole split in record { later = found.0; split = found.1 }
begins_with s text left first all fit are split (inr none) = record {
  later = [];
  split = one_list s.options fit text all first (subst (λ (xs : List ℕ). Records s.options xs all) (ap (λ (xs : List ℕ). text ++ xs) none ∙ append-nil text) split) are ∙ sym (append-nil first);
}

counted_in : (columns : ℕ) (first all : List CsvRecord) → BeginsWith first all → row_count columns first ≤ row_count columns all
counted_in columns first all begins = let sum = ap (row_count columns) begins.split ∙ adds_rows columns first begins.later in omega (arith, sum)

-- the rows up to the last one of a piece are some of its file
piece_within : (s : CsvScan) (first : ℕ) (names files : List (List ℕ)) (piece : Piece) → IsDialect s.options → (is : IsPieceOf s first names files piece) → HasRowsMore s piece.rows is.begins.bytes piece.at is.begins.within
piece_within s first names files piece fit is all split =
    let columns : ℕ = length s.scan.fields in
    let head : Bool = s.options.has_header in
    let bytes : List ℕ = is.begins.bytes in
    let has = is.begins.rows_within in
    let left : List ℕ = drop (length piece.bytes) has.rest in
    let after : drop piece.at bytes ≡ has.rest =
    ap (λ (n : ℕ). drop n bytes) has.place ∙ sym (drop-drop (length has.front) (mark_len bytes) bytes) ∙ ap (drop (length has.front)) has.split ∙ drop_at has.front has.rest (length has.front) refl in
    let len : piece.at + length piece.bytes - piece.at ≡ length piece.bytes = omega arith in
    let taken : take (length piece.bytes) has.rest ≡ piece.bytes = ap (take (length piece.bytes)) (sym after) ∙ ap (λ (n : ℕ). take n (drop piece.at bytes)) (sym len) ∙ is.held in
    let text : has.rest ≡ piece.bytes ++ left = sym (take-append-drop (length piece.bytes) has.rest) ∙ ap (λ (xs : List ℕ). xs ++ left) taken in
    let mark = mark_size bytes in
    let sum : length (unmarked bytes) ≡ length has.front + length has.rest = ap length has.split ∙ length-append has.front has.rest in
    let more : length has.rest ≡ length piece.bytes + length left = ap length text ∙ length-append piece.bytes left in
    let place = has.place in
    let size : length bytes ≡ piece.at + (length piece.bytes + length left) = omega (arith, mark, sum, more, place) in
    let found = records_behind s.options has.front has.rest has.records all fit has.whole (subst (λ (xs : List ℕ). Records s.options xs all) has.split split) in
    let rest = begins_with s piece.bytes left is.records found.0 fit is.split (subst (λ (xs : List ℕ). Records s.options xs found.0) text found.2) (none_left left size is.ends) in
    let counted : row_count columns (behind_header head all) ≡ row_count columns (behind_header head has.records) + row_count columns found.0 =
    ap (λ (xs : List CsvRecord). row_count columns (behind_header head xs)) found.1 ∙ ap (row_count columns) (behind_header-append head has.records found.0)
    ∙ adds_rows columns (behind_header head has.records) (behind_header (awaits_header_after head has.records) found.0)
    ∙ ap (λ (t : Bool). row_count columns (behind_header head has.records) + row_count columns (behind_header t found.0)) (sym has.header_is) in
    let parts = counted_in columns is.records found.0 rest in
    let before = has.rows_are in let within = is.rows in
    omega (arith, counted, parts, before, within)
  where
    none_left : (left : List ℕ) → length is.begins.bytes ≡ piece.at + (length piece.bytes + length left) → (AreWholeRecords s.options piece.bytes is.records) ⊎ (piece.at + length piece.bytes ≡ length is.begins.bytes)
        → (AreWholeRecords s.options piece.bytes is.records) ⊎ (left ≡ [])
    none_left left size (inl whole) = inl whole
    none_left left size (inr end) = inr (nil_from_length left (omega (arith, size, end)))

-- and so they are some of the files
pub rows_end_few : (s : CsvScan) (first : ℕ) (names files : List (List ℕ)) (rows n : ℕ) → IsDialect s.options → HaveRows s files rows → IsRowsEnd (IsPieceOf s first names files) n → n ≤ rows
rows_end_few s first names files rows n fit have (inl none) = omega (arith, none)
rows_end_few s first names files rows n fit have (inr (piece, is, same)) =
    let few = stands_within s piece.rows files is.source is.start piece.first_row rows fit have
    (row_stands s (HasRowsMore s piece.rows) files is.source piece.at is.start piece.first_row _ is.begins (piece_within s first names files piece fit is)) in
    omega (arith, few, same)
