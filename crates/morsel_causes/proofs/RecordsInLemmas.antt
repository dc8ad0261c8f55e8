-- The records of a text up to its end or to where none begins, and how many rows they are.
use Rattle.std.proofs.Common.{◌≡◌, ℕ, suc, zero, ◌+◌, ◌<◌, ◌≤◌, ap, sym, subst, refl, ◌∙◌, inl, inr, arith, append_assoc, cond}
use Rattle.std.specs.Prelude.{Bool, true, false, not, if◌then◌else◌, Option, Some, None, List, [], ◌∷◌, ◌++◌, length, take, slice_get}
use Rattle.std.specs.List.{flat_map}
use Rattle.std.proofs.lemmas.List.Sums.{sum_by-cons}
use Rattle.morsel_grammar.specs.Dialect.{Dialect, IsDialect}
use Rattle.morsel_grammar.specs.Grammar.{CsvRecord, IsRecord, Records}
use Rattle.morsel_grammar.specs.Rows.{is_header, behind_header, unmarked}
use Rattle.morsel_grammar.specs.GrammarRows.{AreWholeRecords, awaits_header_after}
use Rattle.morsel_grammar.proofs.FirstRecordLemmas.{IsTaken, record_taken}
use Rattle.morsel_grammar.proofs.WholeRecordLemmas.{record_again}
use Rattle.morsel_cut.specs.RowCounts.{is_row, row_count}
use Rattle.morsel_cut.proofs.CountLemmas.{adds_rows}
use Rattle.morsel_scan.specs.Scans.{CsvScan}
use Rattle.morsel_scan.specs.CsvPieces.{HaveRows, HasRowsUpTo}
use Rattle.morsel_scan.specs.Ahead.{one_if}
use Rattle.morsel_scan.specs.CsvAxis.{TextPart, PartStart, is_row_part, awaits_header_past, start_after, AxisPart, axis_part, text_axis, rows_counted}
use Rattle.morsel_scan.proofs.AxisLemmas.{Maker}
use Rattle.morsel_scan.proofs.HeaderLemmas.{behind_header-append}
use Rattle.morsel_scan.proofs.PartLemmas.{parts-record, line_taken}
use Rattle.morsel_read.specs.PieceReads.{HasMoreRows}
use Rattle.morsel_query.specs.CsvCauses.{record_in, records_in, rows_among, rows_in_all}

-- a text's first record is the first of its records
pub records_in-record : (o : Dialect) (r : CsvRecord) (text next bytes : List ℕ) → IsDialect o → IsTaken o r text next bytes → records_in o text ≡ r ∷ records_in o next
records_in-record o r text next bytes fit taken = ap (flat_map record_in) (parts-record o r text next bytes fit taken)

-- whole records come before those of the rest
pub records_in-whole : (o : Dialect) (front rest : List ℕ) (records : List CsvRecord) → IsDialect o → AreWholeRecords o front records
    → records_in o (front ++ rest) ≡ records ++ records_in o rest
records_in-whole o front rest [] fit none = ap (λ (x : List ℕ). records_in o (x ++ rest)) none
records_in-whole o front rest (r ∷ records) fit whole =
    let line : List ℕ = whole.0 in
    let next : List ℕ = whole.1 in
    let split : front ++ rest ≡ line ++ o.eol ∷ (next ++ rest) = ap (λ (x : List ℕ). x ++ rest) whole.2 ∙ append_assoc line (o.eol ∷ next) rest in
    let P : List ℕ → Type 0 = λ x. IsRecord o r x (next ++ rest) in
    let is : IsRecord o r (front ++ rest) (next ++ rest) = subst P (sym split) (record_again o r front line next fit whole.3 whole.2 (next ++ rest)) in
    records_in-record o r (front ++ rest) (next ++ rest) (line ++ o.eol ∷ []) fit (line_taken o r (front ++ rest) line (next ++ rest) is split)
    ∙ ap (λ (x : List CsvRecord). r ∷ x) (records_in-whole o next rest records fit whole.4)

-- a text of records has these
pub records_in-all : (o : Dialect) (text : List ℕ) (records : List CsvRecord) → IsDialect o → Records o text records → records_in o text ≡ records
records_in-all o text [] fit none = ap (records_in o) none
records_in-all o text (r ∷ records) fit (some, next, is, later) =
    let taken = record_taken o r text next fit is some in
    records_in-record o r text next taken.0 fit taken.1 ∙ ap (λ (x : List CsvRecord). r ∷ x) (records_in-all o next records fit later)

-- the rows of records, and then of others
pub rows_among-append : (s : CsvScan) (front back : List CsvRecord)
    → rows_among s (front ++ back) ≡ rows_among s front + row_count (length s.scan.fields) (behind_header (awaits_header_after s.options.has_header front) back)
rows_among-append s front back =
    let head : Bool = s.options.has_header in
    ap (row_count (length s.scan.fields)) (behind_header-append head front back)
    ∙ adds_rows (length s.scan.fields) (behind_header head front) (behind_header (awaits_header_after head front) back)

-- the rows of the first file, and of those that follow
pub rows_in_all-cons : (s : CsvScan) (bytes : List ℕ) (files : List (List ℕ)) → rows_in_all s (bytes ∷ files) ≡ rows_among s (records_in s.options (unmarked bytes)) + rows_in_all s files
rows_in_all-cons s bytes files = sum_by-cons (λ (bytes : List ℕ). rows_among s (records_in s.options (unmarked bytes))) bytes files

-- the files up to one of them, and with it, have no more rows than all
pub rows_up_to : (s : CsvScan) (files : List (List ℕ)) (source : ℕ) (bytes : List ℕ) → slice_get files source ≡ Some bytes
    → rows_in_all s (take source files) + rows_among s (records_in s.options (unmarked bytes)) ≤ rows_in_all s files
rows_up_to s [] source bytes is = absurd (cc)
rows_up_to s (first ∷ files) zero bytes is =
    let same : first ≡ bytes = cc in
    let here : rows_among s (records_in s.options (unmarked first)) ≡ rows_among s (records_in s.options (unmarked bytes)) = ap (λ (x : List ℕ). rows_among s (records_in s.options (unmarked x))) same in
    let all = rows_in_all-cons s first files in omega (arith, here, all)
rows_up_to s (first ∷ files) (suc n) bytes is =
    let more = rows_up_to s files n bytes is in
    let all = rows_in_all-cons s first files in
    let front = rows_in_all-cons s first (take n files) in omega (arith, more, all, front)

pub rows_before : (s : CsvScan) (files : List (List ℕ)) (source : ℕ) → rows_in_all s (take source files) ≤ rows_in_all s files
rows_before s [] zero = omega arith
rows_before s [] (suc n) = omega arith
rows_before s (first ∷ files) zero = omega arith
rows_before s (first ∷ files) (suc n) =
    let more = rows_before s files n in
    let all = rows_in_all-cons s first files in
    let front = rows_in_all-cons s first (take n files) in omega (arith, more, all, front)

-- files that are records to their ends have these rows
pub rows_had : (s : CsvScan) (files : List (List ℕ)) (rows : ℕ) → IsDialect s.options → HaveRows s files rows → rows ≡ rows_in_all s files
rows_had s [] rows fit none = none
rows_had s (bytes ∷ files) rows fit (records, split, more, later, counted) =
    let all = rows_in_all-cons s bytes files in
    let here : rows_among s (records_in s.options (unmarked bytes)) ≡ rows_among s records = ap (rows_among s) (records_in-all s.options (unmarked bytes) records fit split) in
    let rest = rows_had s files more fit later in omega (arith, all, here, rest, counted)

-- the rows before a place of a file are some of its rows
pub rows_upto_few : (s : CsvScan) (bytes : List ℕ) (at rows : ℕ) (awaits_header : Bool) → IsDialect s.options → HasRowsUpTo s bytes at rows awaits_header
    → rows ≤ rows_among s (records_in s.options (unmarked bytes))
rows_upto_few s bytes at rows awaits_header fit upto =
    let all : rows_among s (records_in s.options (unmarked bytes)) ≡ rows_among s (upto.records ++ records_in s.options upto.rest) =
    ap (λ (x : List ℕ). rows_among s (records_in s.options x)) upto.split ∙ ap (rows_among s) (records_in-whole s.options upto.front upto.rest upto.records fit upto.whole) in
    let parts = rows_among-append s upto.records (records_in s.options upto.rest) in
    let are = upto.rows_are in omega (arith, all, parts, are)

-- where there are more rows than this up to some place, there are in all
pub more_rows : (s : CsvScan) (files : List (List ℕ)) (asked most : ℕ) → IsDialect s.options → HasMoreRows s files asked most → most < rows_in_all s files
more_rows s files asked most fit (rows, more, inl (source, at, place, head, is, within)) =
    let up = rows_up_to s files source is.bytes is.is_source in
    let before = rows_had s (take source files) is.earlier fit is.rows_before in
    let here = rows_upto_few s is.bytes at is.within head fit is.rows_within in
    let are = is.rows_are in omega (arith, more, up, before, here, are)
more_rows s files asked most fit (rows, more, inr (source, have, within)) =
    let up = rows_before s files source in
    let before = rows_had s (take source files) rows fit have in omega (arith, more, up, before)

one_counted : (t : Bool) → one_if t ≡ cond t 1 0
one_counted true = refl
one_counted false = refl

behind_not : (t : Bool) (records : List CsvRecord) → behind_header (not t) records ≡ (if t then records else behind_header true records)
behind_not true records = refl
behind_not false records = refl

-- a record, and then others, count as rows
pub rows_past : (columns : ℕ) (head : Bool) (r : CsvRecord) (records : List CsvRecord)
    → one_if (is_row_part columns head (Some r)) + row_count columns (behind_header (awaits_header_past head (Some r)) records) ≡ row_count columns (behind_header head (r ∷ records))
rows_past columns true r records =
    let none : 0 + row_count columns (behind_header (not (is_header r)) records) ≡ row_count columns (behind_header (not (is_header r)) records) = omega arith in
    none ∙ ap (row_count columns) (behind_not (is_header r) records)
rows_past columns false r records =
    ap (λ (n : ℕ). n + row_count columns records) (one_counted (is_row columns r)) ∙ sym (sum_by-cons (λ (x : CsvRecord). cond (is_row columns x) 1 0) r records)

no_rows : (columns : ℕ) (head : Bool) → row_count columns (behind_header head []) ≡ 0
no_rows columns true = refl
no_rows columns false = refl

part_counted : (columns : ℕ) (head : Bool) (found : Option CsvRecord) (parts : List TextPart) (bytes : List ℕ) (n : ℕ)
    → n ≡ row_count columns (behind_header (awaits_header_past head found) (flat_map record_in parts))
    → cond (is_row_part columns head found) 1 0 + n ≡ row_count columns (behind_header head (flat_map record_in (record { bytes = bytes; found = found } ∷ parts)))
part_counted columns head None parts bytes n is = omega (arith, is)
part_counted columns head (Some r) parts bytes n is =
    let one = one_counted (is_row_part columns head (Some r)) in
    let past = rows_past columns head r (flat_map record_in parts) in omega (arith, one, past, is)

-- the rows that are counted of parts are those of their records
pub rows_counted-in : (s : CsvScan) (make : Maker) (start : PartStart) (parts : List TextPart)
    → rows_counted (text_axis s make start parts) ≡ row_count (length s.scan.fields) (behind_header start.awaits_header (flat_map record_in parts))
rows_counted-in s make start [] = sym (no_rows (length s.scan.fields) start.awaits_header)
rows_counted-in s make start (part ∷ parts) =
    let columns : ℕ = length s.scan.fields in
    let after : PartStart = start_after columns start part in
    sum_by-cons (λ (x : AxisPart). cond x.counts 1 0) (axis_part s make start part) (text_axis s make after parts)
    ∙ part_counted columns start.awaits_header part.found parts part.bytes (rows_counted (text_axis s make after parts)) (rows_counted-in s make after parts)
