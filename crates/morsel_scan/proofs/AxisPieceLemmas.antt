-- What the stretch of a piece gives is what is made of the piece by itself.
use Rattle.std.proofs.Common.{◌≡◌, ℕ, zero, suc, ◌+◌, ◌-◌, ◌≤◌, ap, sym, subst, refl, ◌∙◌, inl, inr, arith, append_assoc, length-append}
use Rattle.std.specs.Prelude.{Bool, false, ◌⊎◌, if◌then◌else◌, Some, None, Ok, List, [], ◌∷◌, ◌++◌, length, take, drop, slice_get, slice_range}
use Rattle.std.proofs.lemmas.List.{take-append-drop, drop_at, drop-drop, nil_from_length}
use Rattle.morsel_grammar.specs.Dialect.{IsDialect}
use Rattle.morsel_grammar.specs.Grammar.{CsvRecord, Records}
use Rattle.morsel_grammar.specs.Rows.{behind_header, mark_len, unmarked}
use Rattle.morsel_grammar.specs.Reading.{used_values}
use Rattle.morsel_grammar.specs.GrammarRows.{AreWholeRecords, awaits_header_after}
use Rattle.morsel_grammar.proofs.WholeRecordLemmas.{records_whole}
use Rattle.morsel_cut.specs.RowCounts.{row_count}
use Rattle.morsel_pipe.specs.Pieces.{Piece}
use Rattle.morsel_scan.specs.Scans.{CsvScan}
use Rattle.morsel_scan.specs.ScanColumns.{used_columns}
use Rattle.morsel_scan.specs.ScanRows.{ended_by, followed_by, row_of_values, scanned, slice_keeps}
use Rattle.morsel_scan.specs.CsvScans.{piece_keeps, piece_source, piece_rows}
use Rattle.morsel_scan.specs.CsvPieces.{HasRowsUpTo, IsPieceOf}
use Rattle.morsel_scan.specs.StretchRows.{collected}
use Rattle.morsel_scan.specs.CsvAxis.{TextPart, text_parts, PartStart, scanned_within, AxisPart, text_axis, file_axis, rows_counted, files_axis, last_of, gives_of}
use Rattle.morsel_scan.proofs.CountLemmas.{counted}
use Rattle.morsel_scan.proofs.GatherLemmas.{followed_by-nothing}
use Rattle.morsel_scan.proofs.StretchLemmas.{Places, collected-append, slice-append}
use Rattle.morsel_scan.proofs.PartLemmas.{parts-front, start_past, start_past-records}
use Rattle.morsel_scan.proofs.AxisLemmas.{Maker, length-last_of, length-gives_of, gives_of-append, text_axis-append, collected-text, rows_counted-records}
use Rattle.morsel_scan.proofs.AxisFileLemmas.{file_start, mark_size, bytes_of-file, rows_counted-file, MakeAlike, gathered-made, within_alike}
use Rattle.morsel_scan.proofs.MidstLemmas.{IsMidst, midst-order, midst-slice, midst-later, midst-first, GivesNothing}
use Rattle.morsel_scan.proofs.PassedLemmas.{AreRowsUpTo, rows_upto, size_of, file-cut}
use Rattle.morsel_scan.proofs.FilesPassedLemmas.{StandsIn, row_stands, begin_stands, nothing_passed}

-- the bytes of a piece stand at this place of a file
pub record PieceHere (s : CsvScan) (piece : Piece) (bytes : List ℕ) (at rows : ℕ) : Type 0 where
  pub has : HasRowsUpTo s bytes piece.at rows false
  pub place : at ≡ piece.at
  pub held : slice_range bytes piece.at (piece.at + length piece.bytes) ≡ piece.bytes
  pub records : List CsvRecord
  pub ends : (AreWholeRecords s.options piece.bytes records) ⊎ (piece.at + length piece.bytes ≡ length bytes)

-- where the records of a piece begin
abbrev pub piece_start : Piece → ℕ → List ℕ → ℕ → PartStart
piece_start piece file name position = record { file = file; name = name; at = piece.at; position = position; awaits_header = false }

midst-same : (gives other : Places) (from to begin end : ℕ) (mid more : Places) → gives ≡ other → from ≡ begin → to ≡ end → mid ≡ more → IsMidst gives from to mid → IsMidst other begin end more
midst-same gives other from to begin end mid more one two three four is =
    subst (λ (x : Places). IsMidst other begin end x) four (subst (λ n. IsMidst other begin n mid) three (subst (λ n. IsMidst other n to mid) two (subst (λ (x : Places). IsMidst x from to mid) one is)))

start_is : (file : ℕ) (name : List ℕ) (at other position more : ℕ) (a b : Bool) → at ≡ other → position ≡ more → a ≡ b
    → ◌≡◌ {A = PartStart} (record { file = file; name = name; at = at; position = position; awaits_header = a }) (record { file = file; name = name; at = other; position = more; awaits_header = b })
start_is file name at other position more a b one two three =
    ap (λ n. record { file = file; name = name; at = n; position = position; awaits_header = a }) one
    ∙ ap (λ n. record { file = file; name = name; at = other; position = n; awaits_header = a }) two
    ∙ ap (λ t. record { file = file; name = name; at = other; position = more; awaits_header = t }) three

none_left : (s : CsvScan) (bytes front piece_bytes left : List ℕ) (at : ℕ) (records : List CsvRecord) → length bytes ≡ at + (length piece_bytes + length left)
    → (AreWholeRecords s.options piece_bytes records) ⊎ (at + length piece_bytes ≡ length bytes) → (AreWholeRecords s.options piece_bytes records) ⊎ (left ≡ [])
none_left s bytes front piece_bytes left at records size (inl whole) = inl whole
none_left s bytes front piece_bytes left at records size (inr end) = inr (nil_from_length left (omega (arith, size, end)))

-- what a file gives where a piece stands
piece_in_file : (s : CsvScan) (make : Maker) (file : ℕ) (name : List ℕ) (position : ℕ) (bytes : List ℕ) (piece : Piece) (at rows : ℕ) → IsDialect s.options → PieceHere s piece bytes at rows
    → IsMidst (gives_of (file_axis s make file name position bytes)) at (at + length piece.bytes) (gives_of (text_axis s make (piece_start piece file name (position + rows)) (text_parts s.options piece.bytes)))
piece_in_file s make file name position bytes piece at rows fit here =
    let columns : ℕ = length s.scan.fields in
    let front : List ℕ = here.has.front in
    let rest : List ℕ = here.has.rest in
    let records : List CsvRecord = here.has.records in
    let start : PartStart = file_start s file name position bytes in
    let past : PartStart = start_past columns start (text_parts s.options front) in
    let there : PartStart = piece_start piece file name (position + rows) in
    let place = here.has.place in
    let at_is = here.place in
    let left : List ℕ = drop (length piece.bytes) rest in
    let after : drop piece.at bytes ≡ rest =
    ap (λ n. drop n bytes) place ∙ sym (drop-drop (length front) (mark_len bytes) bytes) ∙ ap (drop (length front)) here.has.split ∙ drop_at front rest (length front) refl in
    let len : piece.at + length piece.bytes - piece.at ≡ length piece.bytes = omega arith in
    let first : take (length piece.bytes) rest ≡ piece.bytes = ap (take (length piece.bytes)) (sym after) ∙ ap (λ n. take n (drop piece.at bytes)) (sym len) ∙ here.held in
    let text : rest ≡ piece.bytes ++ left = sym (take-append-drop (length piece.bytes) rest) ∙ ap (λ (x : List ℕ). x ++ left) first in
    let mark_is = mark_size bytes in
    let all : length (unmarked bytes) ≡ length front + length rest = ap length here.has.split ∙ length-append front rest in
    let more : length rest ≡ length piece.bytes + length left = ap length text ∙ length-append piece.bytes left in
    let ends : (AreWholeRecords s.options piece.bytes here.records) ⊎ (left ≡ []) = none_left s bytes front piece.bytes left piece.at here.records (omega (arith, mark_is, all, more, place)) here.ends in
    let counted_is = here.has.rows_are in
    let begins : past ≡ there =
    start_past-records s.options columns start front records fit (records_whole s.options front records fit here.has.whole)
    ∙ start_is file name (mark_len bytes + length front) piece.at (position + row_count columns (behind_header s.options.has_header records)) (position + rows) (awaits_header_after s.options.has_header records) false
    (sym place) (ap (λ n. position + n) (sym counted_is)) (sym here.has.header_is) in
    let end : PartStart = start_past columns there (text_parts s.options piece.bytes) in
    let mark : Places = last_of (mark_len bytes) (Ok []) (Ok []) in
    let before : Places = gives_of (text_axis s make start (text_parts s.options front)) in
    let mid : Places = gives_of (text_axis s make there (text_parts s.options piece.bytes)) in
    let later : Places = gives_of (text_axis s make end (text_parts s.options left)) in
    let cut : gives_of (text_axis s make past (text_parts s.options rest)) ≡ mid ++ later =
    ap (λ (x : PartStart). gives_of (text_axis s make x (text_parts s.options rest))) begins
    ∙ ap (λ (parts : List TextPart). gives_of (text_axis s make there parts)) (ap (text_parts s.options) text ∙ parts-front s.options piece.bytes left here.records fit ends)
    ∙ ap gives_of (text_axis-append s make there (text_parts s.options piece.bytes) (text_parts s.options left))
    ∙ gives_of-append (text_axis s make there (text_parts s.options piece.bytes)) (text_axis s make end (text_parts s.options left)) in
    let one : length mark ≡ mark_len bytes = length-last_of (mark_len bytes) (Ok []) (Ok []) in
    let two : length before ≡ length front = size_of s make start front fit in
    let three : length mid ≡ length piece.bytes = size_of s make there piece.bytes fit in record {
      before = mark ++ before;
      after = later;
      split = file-cut s make file name position bytes front rest records fit here.has.split (inl here.has.whole)
          ∙ ap (λ (x : Places). mark ++ (before ++ x)) cut ∙ sym (append_assoc mark before (mid ++ later));
      from_is = omega (arith, length-append mark before, one, two, place, at_is);
      to_is = omega (arith, three);
    }

-- what files give where a piece stands in one of them
pub piece_in_files : (s : CsvScan) (make : Maker) (file position : ℕ) (names files : List (List ℕ)) (n : ℕ) (piece : Piece) (at rows : ℕ) (name : List ℕ) → IsDialect s.options → slice_get names n ≡ Some name
    → StandsIn s (PieceHere s piece) files n at rows
    → IsMidst (gives_of (files_axis s make file position names files)) at (at + length piece.bytes) (gives_of (text_axis s make (piece_start piece (file + n) name (position + rows)) (text_parts s.options piece.bytes)))
piece_in_files s make file position [] files n piece at rows name fit named is = absurd (cc)
piece_in_files s make file position (first ∷ names) [] n piece at rows name fit named is = absurd is
piece_in_files s make file position (first ∷ names) (bytes ∷ files) zero piece at rows name fit named is =
    let here : List AxisPart = file_axis s make file first position bytes in
    let rest : List AxisPart = files_axis s make (file + 1) (position + rows_counted here) names files in
    let same : first ≡ name = cc in
    let number : file ≡ file + 0 = omega arith in
    midst-same (gives_of here ++ gives_of rest) (gives_of (here ++ rest)) at (at + length piece.bytes) at (at + length piece.bytes)
    (gives_of (text_axis s make (piece_start piece file first (position + rows)) (text_parts s.options piece.bytes))) (gives_of (text_axis s make (piece_start piece (file + 0) name (position + rows)) (text_parts s.options piece.bytes)))
    (sym (gives_of-append here rest)) refl refl
    (ap (λ k. gives_of (text_axis s make (piece_start piece k first (position + rows)) (text_parts s.options piece.bytes))) number
    ∙ ap (λ (x : List ℕ). gives_of (text_axis s make (piece_start piece (file + 0) x (position + rows)) (text_parts s.options piece.bytes))) same)
    (midst-first (gives_of here) (gives_of rest) at (at + length piece.bytes) (gives_of (text_axis s make (piece_start piece file first (position + rows)) (text_parts s.options piece.bytes)))
    (piece_in_file s make file first position bytes piece at rows fit is))
piece_in_files s make file position (first ∷ names) (bytes ∷ files) (suc n) piece at rows name fit named (later, more, records, split, stands, place, all) =
    let here : List AxisPart = file_axis s make file first position bytes in
    let rest : List AxisPart = files_axis s make (file + 1) (position + rows_counted here) names files in
    let size : length (gives_of here) ≡ length bytes = length-gives_of here ∙ bytes_of-file s make file first position bytes fit in
    let count : rows_counted here ≡ row_count (length s.scan.fields) (behind_header s.options.has_header records) =
    rows_counted-file s make file first position bytes ∙ rows_counted-records s make (file_start s file first position bytes) (unmarked bytes) records fit split in
    let number : file + 1 + n ≡ file + suc n = omega arith in
    let there : position + rows_counted here + more ≡ position + rows = omega (arith, count, all) in
    let mid : Places = gives_of (text_axis s make (piece_start piece (file + 1 + n) name (position + rows_counted here + more)) (text_parts s.options piece.bytes)) in
    midst-same (gives_of here ++ gives_of rest) (gives_of (here ++ rest)) (length (gives_of here) + later) (length (gives_of here) + (later + length piece.bytes)) at (at + length piece.bytes)
    mid (gives_of (text_axis s make (piece_start piece (file + suc n) name (position + rows)) (text_parts s.options piece.bytes)))
    (sym (gives_of-append here rest)) (omega (arith, size, place)) (omega (arith, size, place))
    (ap (λ k. gives_of (text_axis s make (piece_start piece k name (position + rows_counted here + more)) (text_parts s.options piece.bytes))) number
    ∙ ap (λ k. gives_of (text_axis s make (piece_start piece (file + suc n) name k) (text_parts s.options piece.bytes))) there)
    (midst-later (gives_of here) (gives_of rest) later (later + length piece.bytes) mid
    (piece_in_files s make (file + 1) (position + rows_counted here) names files n piece later more name fit named stands))

-- what is made of a piece's rows is what its bytes give
pub collected-piece : (s : CsvScan) (make : Maker) (piece : Piece) (records : List CsvRecord) → IsDialect s.options → Records s.options piece.bytes records → piece.rows ≡ row_count (length s.scan.fields) records
    → MakeAlike make (scanned s.scan (piece_keeps piece)) piece.first_row piece.rows
    → collected (gives_of (text_axis s make (piece_start piece piece.file piece.source piece.first_row) (text_parts s.options piece.bytes))) ≡ piece_rows s piece
collected-piece s make piece records fit split rows alike =
    let few = (counted s piece.at piece.bytes records fit split).most in
    collected-text s make fit piece.bytes (piece_start piece piece.file piece.source piece.first_row)
    ∙ ap (ended_by (piece_source s piece).fault) (gathered-made make (scanned s.scan (piece_keeps piece)) piece.first_row piece.file piece.source (piece_source s piece).rows
    (λ row from to. alike row from (omega (arith, few, rows))))

-- the stretch of a piece, among what all files give
pub record IsStretchOf (s : CsvScan) (make : Maker) (first : ℕ) (names files : List (List ℕ)) (piece : Piece) : Type 0 where
  pub start : ℕ
  pub passed : GivesNothing (gives_of (files_axis s make first 0 names files)) piece.from start
  pub is : IsMidst (gives_of (files_axis s make first 0 names files)) start piece.to (gives_of (text_axis s make (piece_start piece piece.file piece.source piece.first_row) (text_parts s.options piece.bytes)))

pub piece_stretch : (s : CsvScan) (make : Maker) (first : ℕ) (names files : List (List ℕ)) (piece : Piece) → IsDialect s.options → IsPieceOf s first names files piece → IsStretchOf s make first names files piece
piece_stretch s make first names files piece fit is =
    let stands : StandsIn s (PieceHere s piece) files is.source is.start piece.first_row =
    row_stands s (PieceHere s piece) files is.source piece.at is.start piece.first_row false is.begins
    (record { has = is.begins.rows_within; place = refl; held = is.held; records = is.records; ends = is.ends }) in
    let upto = row_stands s (AreRowsUpTo s) files is.source piece.at is.start piece.first_row false is.begins (rows_upto s is.begins.bytes piece.at is.begins.within false fit is.begins.rows_within) in
    let begin = begin_stands s files piece.from piece.first_row is.from in
    let mid : ℕ → ℕ → Places = λ number position. gives_of (text_axis s make (piece_start piece number piece.source position) (text_parts s.options piece.bytes)) in
    let here = piece_in_files s make first 0 names files is.source piece is.start piece.first_row piece.source fit is.name stands in
    let none : 0 + piece.first_row ≡ piece.first_row = omega arith in record {
      start = is.start;
      passed = nothing_passed s make first 0 names files begin.0 is.source piece.from is.start piece.first_row piece.source fit is.name begin.1 upto is.in_order is.passed;
      is = midst-same (gives_of (files_axis s make first 0 names files)) (gives_of (files_axis s make first 0 names files)) is.start (is.start + length piece.bytes) is.start piece.to
          (mid (first + is.source) (0 + piece.first_row)) (mid piece.file piece.first_row) refl refl (sym is.to)
          (ap (λ k. mid k (0 + piece.first_row)) (sym is.file) ∙ ap (mid piece.file) none) here;
    }

-- what the stretch of a piece gives is what is made of the piece
pub collected-stretch : (s : CsvScan) (make : Maker) (first : ℕ) (names files : List (List ℕ)) (piece : Piece) → IsDialect s.options → IsPieceOf s first names files piece
    → MakeAlike make (scanned s.scan (piece_keeps piece)) piece.first_row piece.rows
    → (let gives = gives_of (files_axis s make first 0 names files) in (piece.from ≤ piece.to) × (piece.to ≤ length gives) × (collected (slice_range gives piece.from piece.to) ≡ piece_rows s piece))
collected-stretch s make first names files piece fit is alike =
    let gives : Places = gives_of (files_axis s make first 0 names files) in
    let stretch = piece_stretch s make first names files piece fit is in
    let one = midst-order stretch.passed.is in
    let two = midst-order stretch.is in
    let mid : Places = gives_of (text_axis s make (piece_start piece piece.file piece.source piece.first_row) (text_parts s.options piece.bytes)) in (
      omega (arith, one.0, two.0),
      two.1,
      ap collected (slice-append gives piece.from stretch.start piece.to one.0 two.0)
          ∙ collected-append (slice_range gives piece.from stretch.start) (slice_range gives stretch.start piece.to)
          ∙ ap (λ (x : Places). followed_by (collected x) (collected (slice_range gives stretch.start piece.to))) (midst-slice stretch.passed.is)
          ∙ ap (λ x. followed_by x (collected (slice_range gives stretch.start piece.to))) stretch.passed.nothing
          ∙ followed_by-nothing (collected (slice_range gives stretch.start piece.to)) ∙ ap collected (midst-slice stretch.is)
          ∙ collected-piece s make piece is.records fit is.split is.rows alike,
    )

-- a scan makes the same of a piece's rows as the piece says of itself
pub scanned_alike : (s : CsvScan) (first : ℕ) (names files : List (List ℕ)) (piece : Piece) (total : ℕ) → IsPieceOf s first names files piece
    → MakeAlike (scanned s.scan (slice_keeps s.scan.asked.slice total)) (scanned s.scan (piece_keeps piece)) piece.first_row piece.rows
scanned_alike s first names files piece total is = λ row from to.
    let place : piece.first_row + (row.position - piece.first_row) ≡ row.position = omega arith in
    let keeps : piece_keeps piece row.position ≡ slice_keeps s.scan.asked.slice total row.position =
    ap (piece_keeps piece) (sym place) ∙ is.slice total (row.position - piece.first_row) (omega arith) ∙ ap (slice_keeps s.scan.asked.slice total) place in
    ap (λ t. if t then row_of_values s.scan row (used_values (used_columns s.scan) row.cells) else Ok None) (sym keeps)

pub within_piece : (s : CsvScan) (first : ℕ) (names files : List (List ℕ)) (piece : Piece) (total : ℕ) → IsPieceOf s first names files piece
    → MakeAlike (scanned_within s.scan (slice_keeps s.scan.asked.slice total)) (scanned s.scan (piece_keeps piece)) piece.first_row piece.rows
within_piece s first names files piece total is = λ row from to.
    let limit = is.fits.positions in
    within_alike s.scan (slice_keeps s.scan.asked.slice total) row (omega (arith, limit)) ∙ scanned_alike s first names files piece total is row from to
