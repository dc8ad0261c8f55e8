-- A piece is decoded: its text is read up to the end of the slice, and the values are made into rows.
use Rattle.std.proofs.Common.{◌≡◌, ℕ, zero, suc, ◌+◌, ◌<◌, ◌≤◌, ap, sym, subst, refl, ◌∙◌, inl, inr, arith, append_assoc, append-nil, length-append, take, drop}
use Rattle.std.specs.Prelude.{◌⊎◌, true, if◌then◌else◌, Option, Some, None, Result, Ok, Err, List, [], ◌∷◌, ◌++◌, length, map}
use Rattle.std.proofs.lemmas.List.{length-take, take-append-drop}
use Rattle.morsel_meaning.specs.declared.fault.Fault.{Fault}
use Rattle.morsel_meaning.specs.Values.{Row, Table}
use Rattle.morsel_grammar.specs.Dialect.{IsDialect}
use Rattle.morsel_grammar.specs.Grammar.{CsvRecord}
use Rattle.morsel_grammar.specs.Cells.{CsvCell}
use Rattle.morsel_grammar.specs.Reading.{used_values}
use Rattle.morsel_grammar.specs.Results.{refusal_fault}
use Rattle.morsel_grammar.specs.GrammarRows.{AreWholeRecords, values_of}
use Rattle.morsel_pipe.specs.Pieces.{Piece}
use Rattle.morsel_scan.specs.Scans.{CsvScan}
use Rattle.morsel_scan.specs.ScanColumns.{used_columns}
use Rattle.morsel_scan.specs.ScanRows.{Placed, placed, row_of_values}
use Rattle.morsel_scan.specs.CsvScans.{piece_source, piece_keeps, piece_placed, HasRowFault}
use Rattle.morsel_scan.specs.Decoding.{HasBadRow, text_reading, ReadsFirst, ReadsText, ChecksText, IsCut, ReadsKept}
use Rattle.morsel_scan.proofs.GatherLemmas.{placed-append}
use Rattle.morsel_scan.proofs.SliceLemmas.{between-in}
use Rattle.morsel_scan.proofs.ReadLemmas.{unless-map, parts, take-all}

pub take-over : {A : Type 0} (n : ℕ) (xs : List A) → length xs ≤ n → take n xs ≡ xs
take-over zero [] few = refl
take-over zero (x ∷ xs) few = absurd (omega arith)
take-over (suc n) [] few = refl
take-over (suc n) (x ∷ xs) few = ap (λ ys. x ∷ ys) (take-over n xs (omega arith))

drop-over : {A : Type 0} (n : ℕ) (xs : List A) → length xs ≤ n → drop n xs ≡ []
drop-over zero [] few = refl
drop-over zero (x ∷ xs) few = absurd (omega arith)
drop-over (suc n) [] few = refl
drop-over (suc n) (x ∷ xs) few = drop-over n xs (omega arith)

take-front : {A : Type 0} (n : ℕ) (front later : List A) → length front ≡ n → take n (front ++ later) ≡ front
take-front zero [] later same = refl
take-front zero (x ∷ front) later same = absurd (omega arith)
take-front (suc n) [] later same = absurd (omega arith)
take-front (suc n) (x ∷ front) later same = ap (λ ys. x ∷ ys) (take-front n front later (omega arith))

drop-front : {A : Type 0} (n : ℕ) (front later : List A) → length front ≡ n → drop n (front ++ later) ≡ later
drop-front zero [] later same = refl
drop-front zero (x ∷ front) later same = absurd (omega arith)
drop-front (suc n) [] later same = absurd (omega arith)
drop-front (suc n) (x ∷ front) later same = drop-front n front later (omega arith)

abbrev cells_in : List (ℕ × List CsvCell) → List (List CsvCell)
cells_in rows = map (λ (row : ℕ × List CsvCell). row.1) rows

-- the two parts of a text that is cut where it has so many rows
record IsParted (s : CsvScan) (at : ℕ) (text : List ℕ) (row cut : ℕ) : Type 0 where
  rows : (text_reading s at text).rows ≡ (text_reading s at (take cut text)).rows ++ (text_reading s (at + cut) (drop cut text)).rows
  refusal : (text_reading s at text).refusal ≡ (text_reading s (at + cut) (drop cut text)).refusal
  sound : (text_reading s at (take cut text)).refusal ≡ None
  count : length (text_reading s at (take cut text)).rows ≡ row

-- or the first part is all
record IsUncut (s : CsvScan) (at : ℕ) (text : List ℕ) (row cut : ℕ) : Type 0 where
  front : take cut text ≡ text
  rest : drop cut text ≡ []
  few : length (text_reading s at text).rows ≤ row

cut_cases : (s : CsvScan) (at : ℕ) (text : List ℕ) (row cut : ℕ) → IsDialect s.options → IsCut s at text row cut → (IsParted s at text row cut) ⊎ (IsUncut s at text row cut)
cut_cases s at text row cut fit is = by is.found
  where
    by : ((records : List CsvRecord) × AreWholeRecords s.options (take cut text) records × ((text_reading s at (take cut text)).refusal ≡ None) × (length (text_reading s at (take cut text)).rows ≡ row))
        ⊎ ((cut ≡ length text) × (length (text_reading s at text).rows ≤ row)) → (IsParted s at text row cut) ⊎ (IsUncut s at text row cut)
    by (inl found) =
        let whole : take cut text ++ drop cut text ≡ text = take-append-drop cut text in
        let len : length (take cut text) ≡ cut = let size = length-take cut text in let within = is.within in omega arith in
        let both = parts s at (take cut text) (drop cut text) found.0 fit found.1 found.2 in
        inl (record {
          rows = ap (λ t. (text_reading s at t).rows) (sym whole) ∙ both.0 ∙ ap (λ n. (text_reading s at (take cut text)).rows ++ (text_reading s (at + n) (drop cut text)).rows) len;
          refusal = ap (λ t. (text_reading s at t).refusal) (sym whole) ∙ both.1 ∙ ap (λ n. (text_reading s (at + n) (drop cut text)).refusal) len;
          sound = found.2;
          count = found.3;
        })
    by (inr end) = inr (record {
      front = take-over cut text (omega (arith, end.0));
      rest = drop-over cut text (omega (arith, end.0));
      few = end.1;
    })

bad_later : (s : CsvScan) (file len more : ℕ) (rows later all : List (ℕ × List CsvCell)) (fault : Fault) → len ≤ more → all ≡ rows ++ later → HasBadRow s file len rows fault → HasBadRow s file more all fault
bad_later s file len more rows later all fault le is bad =
    (bad.0, bad.1, bad.2 ++ later, is ∙ ap (λ (r : List (ℕ × List CsvCell)). r ++ later) bad.3 ∙ append_assoc bad.0 (bad.1 ∷ bad.2) later, (let h = bad.4 in omega arith), bad.5, bad.6)

-- what was read and checked of the two parts
first_ok : (s : CsvScan) (file at : ℕ) (text : List ℕ) (len cut : ℕ) (frame : Table) → (IsParted s at text len cut) ⊎ (IsUncut s at text len cut)
    → ReadsText s file at (take cut text) (Ok frame) → ChecksText s file (at + cut) (drop cut text) (Ok tt) → ReadsFirst s file at text len (Ok frame)
first_ok s file at text len cut frame (inl part) read rest =
    let front : List (ℕ × List CsvCell) = (text_reading s at (take cut text)).rows in (
      part.refusal ∙ rest,
      read.1,
      ap (λ (rows : List (ℕ × List CsvCell)). values_of (used_columns s.scan) (cells_in (take len rows))) part.rows
          ∙ ap (λ (rows : List (ℕ × List CsvCell)). values_of (used_columns s.scan) (cells_in rows)) (take-front len front (text_reading s (at + cut) (drop cut text)).rows part.count ∙ sym (take-all front))
          ∙ read.2,
    )
first_ok s file at text len cut frame (inr all) read rest =
    let P : List ℕ → Type 0 = λ t. ReadsText s file at t (Ok frame) in
    let whole : ReadsText s file at text (Ok frame) = subst P all.front read in (
      whole.0,
      whole.1,
      ap (λ (rows : List (ℕ × List CsvCell)). values_of (used_columns s.scan) (cells_in rows)) (take-over len (text_reading s at text).rows all.few ∙ sym (take-all (text_reading s at text).rows)) ∙ whole.2,
    )

abbrev IsFirstFault : CsvScan → ℕ → ℕ → List ℕ → ℕ → Fault → Type 0
IsFirstFault s file at text len fault = (refusal_fault file (text_reading s at text).refusal ≡ Some fault) ⊎ (HasBadRow s file len (text_reading s at text).rows fault)

first_read_err : (s : CsvScan) (file at : ℕ) (text : List ℕ) (len cut : ℕ) (fault : Fault) → (IsParted s at text len cut) ⊎ (IsUncut s at text len cut)
    → ReadsText s file at (take cut text) (Err fault) → ReadsFirst s file at text len (Err fault)
first_read_err s file at text len cut fault (inl part) is =
    unless-map fault (IsFirstFault s file at (take cut text) (length (text_reading s at (take cut text)).rows) fault) (IsFirstFault s file at text len fault) by is
  where
    by : IsFirstFault s file at (take cut text) (length (text_reading s at (take cut text)).rows) fault → IsFirstFault s file at text len fault
    by (inl refused) = absurd (let bad = sym (ap (refusal_fault file) part.sound) ∙ refused in cc)
    by (inr bad) = inr (bad_later s file (length (text_reading s at (take cut text)).rows) len (text_reading s at (take cut text)).rows (text_reading s (at + cut) (drop cut text)).rows (text_reading s at text).rows fault
        (let h = part.count in omega arith) part.rows bad)
first_read_err s file at text len cut fault (inr all) is =
    unless-map fault (IsFirstFault s file at text (length (text_reading s at text).rows) fault) (IsFirstFault s file at text len fault) by (subst (λ t. ReadsText s file at t (Err fault)) all.front is)
  where
    by : IsFirstFault s file at text (length (text_reading s at text).rows) fault → IsFirstFault s file at text len fault
    by (inl refused) = inl refused
    by (inr bad) = inr (bad_later s file (length (text_reading s at text).rows) len (text_reading s at text).rows [] (text_reading s at text).rows fault all.few (sym (append-nil (text_reading s at text).rows)) bad)

first_check_err : (s : CsvScan) (file at : ℕ) (text : List ℕ) (len cut : ℕ) (fault : Fault) → (IsParted s at text len cut) ⊎ (IsUncut s at text len cut)
    → ChecksText s file (at + cut) (drop cut text) (Err fault) → ReadsFirst s file at text len (Err fault)
first_check_err s file at text len cut fault (inl part) is =
    unless-map fault (refusal_fault file (text_reading s (at + cut) (drop cut text)).refusal ≡ Some fault) (IsFirstFault s file at text len fault)
    (λ refused. inl (ap (refusal_fault file) part.refusal ∙ refused)) is
first_check_err s file at text len cut fault (inr all) is =
    unless-map fault (refusal_fault file (text_reading s (at + cut) (drop cut text)).refusal ≡ Some fault) (IsFirstFault s file at text len fault)
    (λ refused. absurd (let none : None ≡ Some fault = ap (λ t. refusal_fault file (text_reading s (at + cut) t).refusal) (sym all.rest) ∙ refused in cc)) is

pub reads_up_to_ok : (s : CsvScan) (file at : ℕ) (text : List ℕ) (len cut : ℕ) (frame : Table) → IsDialect s.options → IsCut s at text len cut
    → ReadsText s file at (take cut text) (Ok frame) → ChecksText s file (at + cut) (drop cut text) (Ok tt) → ReadsFirst s file at text len (Ok frame)
reads_up_to_ok s file at text len cut frame fit is read rest = first_ok s file at text len cut frame (cut_cases s at text len cut fit is) read rest

pub reads_up_to_err : (s : CsvScan) (file at : ℕ) (text : List ℕ) (len cut : ℕ) (fault : Fault) → IsDialect s.options → IsCut s at text len cut
    → ReadsText s file at (take cut text) (Err fault) → ReadsFirst s file at text len (Err fault)
reads_up_to_err s file at text len cut fault fit is read = first_read_err s file at text len cut fault (cut_cases s at text len cut fit is) read

pub reads_up_to_rest_err : (s : CsvScan) (file at : ℕ) (text : List ℕ) (len cut : ℕ) (fault : Fault) → IsDialect s.options → IsCut s at text len cut
    → ChecksText s file (at + cut) (drop cut text) (Err fault) → ReadsFirst s file at text len (Err fault)
reads_up_to_rest_err s file at text len cut fault fit is rest = first_check_err s file at text len cut fault (cut_cases s at text len cut fit is) rest

-- a row of a piece that the slice keeps, and that has a fault
pub row_fault : (s : CsvScan) (piece : Piece) (before : List (ℕ × List CsvCell)) (row : ℕ × List CsvCell) (after : List (ℕ × List CsvCell)) (fault : Fault)
    → (text_reading s piece.at piece.bytes).rows ≡ before ++ row ∷ after → piece.slice.0 ≤ length before → length before < piece.slice.0 + piece.slice.1
    → row_of_values s.scan (record { position = piece.first_row + length before; file = piece.file; source = piece.source; at = row.0; cells = row.1 }) (used_values (used_columns s.scan) row.1) ≡ Err fault
    → HasRowFault s.scan (piece_keeps piece) (piece_placed s piece) fault
row_fault s piece before row after fault split from to is =
    let one : Placed = record { position = piece.first_row + length before; file = piece.file; source = piece.source; at = row.0; cells = row.1 } in
    let made : Result (Option Row) Fault = row_of_values s.scan one (used_values (used_columns s.scan) row.1) in
    let kept : piece_keeps piece (piece.first_row + length before) ≡ true =
    between-in (piece.first_row + piece.slice.0) (piece.first_row + piece.slice.0 + piece.slice.1) (piece.first_row + length before) (omega arith) (omega arith) in (
      placed piece.first_row piece.file piece.source before,
      one,
      placed (piece.first_row + length before + 1) piece.file piece.source after,
      ap (placed piece.first_row piece.file piece.source) split ∙ placed-append piece.first_row piece.file piece.source before (row ∷ after),
      ap (λ t. if t then made else Ok None) kept ∙ is,
    )

abbrev IsRowsFault : CsvScan → Piece → Fault → Type 0
IsRowsFault s piece fault = ((piece_source s piece).fault ≡ Some fault) ⊎ (HasRowFault s.scan (piece_keeps piece) (piece_placed s piece) fault)

kept_ok : (s : CsvScan) (piece : Piece) (cut : ℕ) (frame : Table) → (IsParted s piece.at piece.bytes piece.slice.0 cut) ⊎ (IsUncut s piece.at piece.bytes piece.slice.0 cut)
    → ChecksText s piece.file piece.at (take cut piece.bytes) (Ok tt) → ReadsFirst s piece.file (piece.at + cut) (drop cut piece.bytes) piece.slice.1 (Ok frame) → ReadsKept s piece (Ok frame)
kept_ok s piece cut frame (inl part) front read = (
  ap (refusal_fault piece.file) (part.refusal ∙ read.0),
  read.1,
  ap (λ (rows : List (ℕ × List CsvCell)). values_of (used_columns s.scan) (cells_in (take piece.slice.1 rows)))
      (ap (drop piece.slice.0) part.rows ∙ drop-front piece.slice.0 (text_reading s piece.at (take cut piece.bytes)).rows (text_reading s (piece.at + cut) (drop cut piece.bytes)).rows part.count) ∙ read.2,
)
kept_ok s piece cut frame (inr all) front read = (
  ap (λ t. refusal_fault piece.file (text_reading s piece.at t).refusal) (sym all.front) ∙ ap (refusal_fault piece.file) front,
  read.1,
  ap (λ (rows : List (ℕ × List CsvCell)). values_of (used_columns s.scan) (cells_in (take piece.slice.1 rows)))
      (drop-over piece.slice.0 (text_reading s piece.at piece.bytes).rows all.few ∙ sym (ap (λ t. (text_reading s (piece.at + cut) t).rows) all.rest)) ∙ read.2,
)

kept_err : (s : CsvScan) (piece : Piece) (cut : ℕ) (fault : Fault) → (IsParted s piece.at piece.bytes piece.slice.0 cut) ⊎ (IsUncut s piece.at piece.bytes piece.slice.0 cut)
    → ReadsFirst s piece.file (piece.at + cut) (drop cut piece.bytes) piece.slice.1 (Err fault) → ReadsKept s piece (Err fault)
kept_err s piece cut fault (inl part) is =
    unless-map fault (IsFirstFault s piece.file (piece.at + cut) (drop cut piece.bytes) piece.slice.1 fault) (IsRowsFault s piece fault) by is
  where
    by : IsFirstFault s piece.file (piece.at + cut) (drop cut piece.bytes) piece.slice.1 fault → IsRowsFault s piece fault
    by (inl refused) = inl (ap (refusal_fault piece.file) part.refusal ∙ refused)
    by (inr bad) =
        let front : List (ℕ × List CsvCell) = (text_reading s piece.at (take cut piece.bytes)).rows in
        let size = length-append front bad.0 in
        let count = part.count in
        let few = bad.4 in
        inr (row_fault s piece (front ++ bad.0) bad.1 bad.2 fault
        (part.rows ∙ ap (λ (r : List (ℕ × List CsvCell)). front ++ r) bad.3 ∙ sym (append_assoc front bad.0 (bad.1 ∷ bad.2)))
        (omega arith) (omega arith)
        (ap (row_of_values s.scan (record { position = piece.first_row + length (front ++ bad.0); file = piece.file; source = piece.source; at = bad.1.0; cells = bad.1.1 })) bad.5 ∙ ap Err (sym bad.6)))
kept_err s piece cut fault (inr all) is =
    unless-map fault (IsFirstFault s piece.file (piece.at + cut) (drop cut piece.bytes) piece.slice.1 fault) (IsRowsFault s piece fault)
    (λ found. absurd (nothing (subst (λ t. IsFirstFault s piece.file (piece.at + cut) t piece.slice.1 fault) all.rest found))) is
  where
    nothing : IsFirstFault s piece.file (piece.at + cut) [] piece.slice.1 fault → ⊥
    nothing (inl refused) = cc
    nothing (inr ([], row, after, split, few, none, is)) = cc
    nothing (inr (r ∷ before, row, after, split, few, none, is)) = cc

kept_check_err : (s : CsvScan) (piece : Piece) (cut : ℕ) (fault : Fault) → (IsParted s piece.at piece.bytes piece.slice.0 cut) ⊎ (IsUncut s piece.at piece.bytes piece.slice.0 cut)
    → ChecksText s piece.file piece.at (take cut piece.bytes) (Err fault) → ReadsKept s piece (Err fault)
kept_check_err s piece cut fault (inl part) is =
    unless-map fault (refusal_fault piece.file (text_reading s piece.at (take cut piece.bytes)).refusal ≡ Some fault) (IsRowsFault s piece fault)
    (λ refused. absurd (let bad : None ≡ Some fault = sym (ap (refusal_fault piece.file) part.sound) ∙ refused in cc)) is
kept_check_err s piece cut fault (inr all) is =
    unless-map fault (refusal_fault piece.file (text_reading s piece.at (take cut piece.bytes)).refusal ≡ Some fault) (IsRowsFault s piece fault)
    (λ refused. inl (ap (λ t. refusal_fault piece.file (text_reading s piece.at t).refusal) (sym all.front) ∙ refused)) is

pub reads_kept : (s : CsvScan) (piece : Piece) (cut : ℕ) (result : Result Table Fault) → IsDialect s.options → IsCut s piece.at piece.bytes piece.slice.0 cut
    → ChecksText s piece.file piece.at (take cut piece.bytes) (Ok tt) → ReadsFirst s piece.file (piece.at + cut) (drop cut piece.bytes) piece.slice.1 result → ReadsKept s piece result
reads_kept s piece cut (Ok frame) fit is front read = kept_ok s piece cut frame (cut_cases s piece.at piece.bytes piece.slice.0 cut fit is) front read
reads_kept s piece cut (Err fault) fit is front read = kept_err s piece cut fault (cut_cases s piece.at piece.bytes piece.slice.0 cut fit is) read

pub reads_kept_err : (s : CsvScan) (piece : Piece) (cut : ℕ) (fault : Fault) → IsDialect s.options → IsCut s piece.at piece.bytes piece.slice.0 cut
    → ChecksText s piece.file piece.at (take cut piece.bytes) (Err fault) → ReadsKept s piece (Err fault)
reads_kept_err s piece cut fault fit is front = kept_check_err s piece cut fault (cut_cases s piece.at piece.bytes piece.slice.0 cut fit is) front
