-- Where the places of files give rows, each of their records does.
use Rattle.std.proofs.Common.{◌≡◌, ℕ, zero, suc, ◌+◌, ◌<◌, ap, sym, subst, ◌∙◌, arith}
use Rattle.std.specs.Prelude.{Some, Ok, List, [], ◌∷◌, ◌++◌, length, take, slice_get}
use Rattle.morsel_meaning.specs.Values.{Row}
use Rattle.morsel_grammar.specs.Dialect.{Dialect, IsDialect}
use Rattle.morsel_grammar.specs.Grammar.{CsvRecord}
use Rattle.morsel_grammar.specs.Rows.{behind_header, mark_len, unmarked}
use Rattle.morsel_grammar.specs.GrammarRows.{AreWholeRecords, awaits_header_after}
use Rattle.morsel_grammar.proofs.FirstRecordLemmas.{IsTaken}
use Rattle.morsel_grammar.proofs.WholeRecordLemmas.{records_whole}
use Rattle.morsel_cut.specs.RowCounts.{row_count}
use Rattle.morsel_scan.specs.Scans.{CsvScan}
use Rattle.morsel_scan.specs.ScanRows.{followed_by}
use Rattle.morsel_scan.specs.StretchRows.{collected}
use Rattle.morsel_scan.specs.CsvAxis.{TextPart, text_parts, PartStart, start_after, part_gives, AxisPart, text_axis, file_axis, rows_counted, files_axis, gives_of}
use Rattle.morsel_scan.proofs.StretchLemmas.{Places, collected-append, followed_by-ok}
use Rattle.morsel_scan.proofs.PartLemmas.{found_part, parts-record, parts-whole, start_past, start_at, start_past-records}
use Rattle.morsel_scan.proofs.AxisLemmas.{Maker, gives_of-append, text_axis-append, collected-sized, collected-nothing}
use Rattle.morsel_scan.proofs.AxisFileLemmas.{file_start, rows_counted-file}
use Rattle.morsel_query.specs.CsvCauses.{records_in, rows_among, rows_in_all}
use Rattle.morsel_causes.proofs.RecordsInLemmas.{rows_in_all-cons, rows_counted-in}

-- places in two parts give rows where both do
both_give : (first later : Places) (rows : List Row) → collected (first ++ later) ≡ Ok rows → ((a : List Row) × (collected first ≡ Ok a)) × ((b : List Row) × (collected later ≡ Ok b))
both_give first later rows is =
    let parts = followed_by-ok (collected first) (collected later) rows (sym (collected-append first later) ∙ is) in ((parts.0, parts.2), (parts.1, parts.3))

-- the records of a file give rows, of which the first has this position
pub record FileGives (s : CsvScan) (make : Maker) (bytes : List ℕ) (position : ℕ) : Type 0 where
  pub file : ℕ
  pub name : List ℕ
  pub begins : ℕ
  pub position_is : begins ≡ position
  pub rows : List Row
  pub is : collected (gives_of (text_axis s make (file_start s file name begins bytes) (text_parts s.options (unmarked bytes)))) ≡ Ok rows

-- where files give rows, each of them does
pub file_gives : (s : CsvScan) (make : Maker) (first position : ℕ) (names files : List (List ℕ)) (rows : List Row) → length names ≡ length files
    → collected (gives_of (files_axis s make first position names files)) ≡ Ok rows → (source : ℕ) (bytes : List ℕ) → slice_get files source ≡ Some bytes
    → FileGives s make bytes (position + rows_in_all s (take source files))
file_gives s make first position names [] rows same is source bytes at = absurd (cc)
file_gives s make first position [] (here ∷ files) rows same is source bytes at = absurd (omega (arith, same))
file_gives s make first position (name ∷ names) (here ∷ files) rows same is zero bytes at =
    let axis : List AxisPart = file_axis s make first name position here in
    let later : List AxisPart = files_axis s make (first + 1) (position + rows_counted axis) names files in
    let both = both_give (gives_of axis) (gives_of later) rows (ap collected (sym (gives_of-append axis later)) ∙ is) in
    let text : Places = gives_of (text_axis s make (file_start s first name position here) (text_parts s.options (unmarked here))) in
    let file : here ≡ bytes = cc in
    subst (λ (x : List ℕ). FileGives s make x (position + 0)) file
    (record { file = first; name = name; begins = position; position_is = omega arith; rows = both.0.0; is = sym (collected-nothing (mark_len here) text) ∙ both.0.1 })
file_gives s make first position (name ∷ names) (here ∷ files) rows same is (suc n) bytes at =
    let axis : List AxisPart = file_axis s make first name position here in
    let later : List AxisPart = files_axis s make (first + 1) (position + rows_counted axis) names files in
    let both = both_give (gives_of axis) (gives_of later) rows (ap collected (sym (gives_of-append axis later)) ∙ is) in
    let found = file_gives s make (first + 1) (position + rows_counted axis) names files both.1.0 (omega (arith, same)) both.1.1 n bytes at in
    let counted : rows_counted axis ≡ rows_among s (records_in s.options (unmarked here)) =
    rows_counted-file s make first name position here ∙ rows_counted-in s make (file_start s first name position here) (text_parts s.options (unmarked here)) in
    let all = rows_in_all-cons s here (take n files) in
    let place = found.position_is in
    record { file = found.file; name = found.name; begins = found.begins; position_is = omega (arith, counted, all, place); rows = found.rows; is = found.is }

some_size : (n m k : ℕ) → n + m ≡ k → m < k → 0 < n
some_size n m k is less = omega (arith, is)

-- where a text gives rows, a record after whole records of it does
pub record_gives_rows : (s : CsvScan) (make : Maker) (start : PartStart) (text front rest : List ℕ) (records : List CsvRecord) (r : CsvRecord) (next bytes : List ℕ) (rows : List Row) → IsDialect s.options
    → text ≡ front ++ rest → AreWholeRecords s.options front records → IsTaken s.options r rest next bytes → collected (gives_of (text_axis s make start (text_parts s.options text))) ≡ Ok rows
    → (answer : List Row) × (part_gives s make (start_at start (length front) (row_count (length s.scan.fields) (behind_header start.awaits_header records)) (awaits_header_after start.awaits_header records)) bytes (Some r) ≡ Ok answer)
record_gives_rows s make start text front rest records r next bytes rows fit split whole taken is =
    let o : Dialect = s.options in
    let columns : ℕ = length s.scan.fields in
    let here : PartStart = start_at start (length front) (row_count columns (behind_header start.awaits_header records)) (awaits_header_after start.awaits_header records) in
    let past : PartStart = start_past columns start (text_parts o front) in
    let past_is : past ≡ here = start_past-records o columns start front records fit (records_whole o front records fit whole) in
    let first : List AxisPart = text_axis s make start (text_parts o front) in
    let parts : text_parts o text ≡ text_parts o front ++ text_parts o rest = ap (text_parts o) split ∙ parts-whole o front rest records fit whole in
    let axis : text_axis s make start (text_parts o text) ≡ first ++ text_axis s make past (text_parts o rest) =
    ap (text_axis s make start) parts ∙ text_axis-append s make start (text_parts o front) (text_parts o rest) in
    let places : gives_of (text_axis s make start (text_parts o text)) ≡ gives_of first ++ gives_of (text_axis s make past (text_parts o rest)) =
    ap gives_of axis ∙ gives_of-append first (text_axis s make past (text_parts o rest)) in
    let both = both_give (gives_of first) (gives_of (text_axis s make past (text_parts o rest))) rows (ap collected (sym places) ∙ is) in
    let after : PartStart = start_after columns here (found_part bytes r) in
    let later : Places = gives_of (text_axis s make after (text_parts o next)) in
    let size = taken.size in
    let shorter = taken.shorter in
    let some : 0 < length bytes = omega (arith, size, shorter) in
    let one : followed_by (part_gives s make here bytes (Some r)) (collected later) ≡ Ok both.1.0 =
    sym (collected-sized (length bytes) (part_gives s make here bytes (Some r)) later some)
    ∙ ap (λ (x : List TextPart). collected (gives_of (text_axis s make here x))) (sym (parts-record o r rest next bytes fit taken))
    ∙ ap (λ (x : PartStart). collected (gives_of (text_axis s make x (text_parts o rest)))) (sym past_is) ∙ both.1.1 in
    let found = followed_by-ok (part_gives s make here bytes (Some r)) (collected later) both.1.0 one in (found.0, found.2)
