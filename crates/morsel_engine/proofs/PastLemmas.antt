-- What the places of files give from where a slice keeps no more rows: none before the first fault.
use Rattle.std.proofs.Common.{◌≡◌, ℕ, zero, suc, ◌+◌, ◌≤◌, ap, sym, subst, refl, ◌∙◌, inl, inr, arith, append_assoc, append-nil, length-append}
use Rattle.std.specs.Prelude.{Bool, true, false, ◌&&◌, if◌then◌else◌, nat_le, Option, Some, None, Result, Ok, Err, List, [], ◌∷◌, ◌++◌, length, slice_range}
use Rattle.std.specs.Str.{is_utf8}
use Rattle.morsel_meaning.specs.declared.fault.ComputeKind.TheVariants as kinds
use Rattle.morsel_meaning.specs.declared.fault.Fault.{Fault}
use Rattle.morsel_meaning.specs.declared.fault.Fault.TheVariants as faults
use Rattle.morsel_meaning.specs.Values.{Row, kinds_of}
use Rattle.morsel_grammar.specs.Dialect.{IsDialect}
use Rattle.morsel_grammar.specs.Grammar.{CsvRecord}
use Rattle.morsel_grammar.specs.Rows.{RowOf, NoRow, IsRow, Misfit, row_of, mark_len, unmarked, behind_header}
use Rattle.morsel_grammar.specs.Reading.{used_values}
use Rattle.morsel_grammar.proofs.WholeRecordLemmas.{records_whole}
use Rattle.morsel_cut.specs.RowCounts.{row_count}
use Rattle.morsel_scan.specs.Scans.{CsvScan}
use Rattle.morsel_scan.specs.ScanColumns.{used_columns}
use Rattle.morsel_scan.specs.ScanRows.{Placed, row_of_values, total_rows}
use Rattle.morsel_scan.specs.CsvScans.{csv_sources}
use Rattle.morsel_scan.specs.StretchRows.{Gives, before_fault}
use Rattle.morsel_scan.specs.CsvAxis.{TextPart, text_parts, PartStart, start_after, scanned_within, rows_made, record_gives, part_gives, AxisPart, text_axis, file_axis, rows_counted, files_axis, last_of, gives_of, csv_keeps}
use Rattle.morsel_scan.proofs.StretchLemmas.{Places, slice-append, slice_all, before_fault-append}
use Rattle.morsel_scan.proofs.PartLemmas.{start_past, start_past-records}
use Rattle.morsel_scan.proofs.AxisLemmas.{Maker, length-last_of, length-gives_of, gives_of-append, rows_counted-records}
use Rattle.morsel_scan.proofs.AxisFileLemmas.{file_start, bytes_of-file, rows_counted-file}
use Rattle.morsel_scan.proofs.AxisEndLemmas.{GiveNoRows, MakesNothing, makes_later, rows_within}
use Rattle.morsel_scan.proofs.MidstLemmas.{IsMidst, midst-slice, midst-later}
use Rattle.morsel_scan.proofs.PassedLemmas.{BeginsHere, size_of, file-cut}
use Rattle.morsel_scan.proofs.FilesPassedLemmas.{StandsIn, begin_stands}
use Rattle.morsel_read.specs.ScanReads.{CountsFromFirst}
use Rattle.morsel_read.specs.PieceReads.{IsSliceEnd}
use Rattle.morsel_read.proofs.SliceLemmas.{keeps_no_more}
use Rattle.morsel_line.specs.Jobs.{Job}
use Rattle.morsel_line.specs.ScanJobs.{scan_axis}
use Rattle.morsel_line.specs.ScanRuns.{JobGives, MeansRows}
use Rattle.morsel_scan.proofs.StretchLemmas.{gives_all}

no_rows-append : (xs ys : Places) → GiveNoRows xs → GiveNoRows ys → GiveNoRows (xs ++ ys)
no_rows-append [] ys one two = two
no_rows-append (Ok rows ∷ xs) ys (none, one) two = (none, no_rows-append xs ys one two)
no_rows-append (Err fault ∷ xs) ys one two = no_rows-append xs ys one two

no_rows-last : (n : ℕ) (given : Result (List Row) Fault) → GiveNoRows (given ∷ []) → GiveNoRows (last_of n (Ok []) given)
no_rows-last zero given none = tt
no_rows-last (suc zero) given none = none
no_rows-last (suc (suc n)) given none = (refl, no_rows-last (suc n) given none)

record_no_rows : (make : Maker) (start : PartStart) (row : RowOf) → MakesNothing make start.position → GiveNoRows (record_gives make start row ∷ [])
record_no_rows make start NoRow none = (refl, tt)
record_no_rows make start (IsRow cells) none =
    let one : Placed = record { position = start.position; file = start.file; source = start.name; at = start.at; cells = cells } in
    let made : rows_made (make one) ≡ Ok [] = ap rows_made (none one (omega arith)) in
    subst (λ (x : Result (List Row) Fault). GiveNoRows (x ∷ [])) (sym made) (refl, tt)
record_no_rows make start Misfit none = tt

part_no_rows : (s : CsvScan) (make : Maker) (start : PartStart) (bytes : List ℕ) (found : Option CsvRecord) → MakesNothing make start.position → GiveNoRows (part_gives s make start bytes found ∷ [])
part_no_rows s make start bytes None none = tt
part_no_rows s make start bytes (Some r) none = by (is_utf8 bytes) start.awaits_header
  where
    by : (t head : Bool) → GiveNoRows ((if t then (if head then Ok [] else record_gives make start (row_of s.options (kinds_of s.scan.fields) r)) else Err (faults.ComputeError kinds.NotUtf8 start.file start.at)) ∷ [])
    by false head = tt
    by true true = (refl, tt)
    by true false = record_no_rows make start (row_of s.options (kinds_of s.scan.fields) r) none

text_no_rows : (s : CsvScan) (make : Maker) (start : PartStart) (parts : List TextPart) → MakesNothing make start.position → GiveNoRows (gives_of (text_axis s make start parts))
text_no_rows s make start [] none = tt
text_no_rows s make start (part ∷ parts) none =
    let after : PartStart = start_after (length s.scan.fields) start part in
    no_rows-append (last_of (length part.bytes) (Ok []) (part_gives s make start part.bytes part.found)) (gives_of (text_axis s make after parts))
    (no_rows-last (length part.bytes) (part_gives s make start part.bytes part.found) (part_no_rows s make start part.bytes part.found none))
    (text_no_rows s make after parts (makes_later make start.position after.position (omega arith) none))

file_no_rows : (s : CsvScan) (make : Maker) (file : ℕ) (name : List ℕ) (position : ℕ) (bytes : List ℕ) → MakesNothing make position → GiveNoRows (gives_of (file_axis s make file name position bytes))
file_no_rows s make file name position bytes none =
    let start : PartStart = file_start s file name position bytes in
    no_rows-append (last_of (mark_len bytes) (Ok []) (Ok [])) (gives_of (text_axis s make start (text_parts s.options (unmarked bytes))))
    (no_rows-last (mark_len bytes) (Ok []) (refl, tt)) (text_no_rows s make start (text_parts s.options (unmarked bytes)) none)

files_no_rows : (s : CsvScan) (make : Maker) (file position : ℕ) (names files : List (List ℕ)) → MakesNothing make position → GiveNoRows (gives_of (files_axis s make file position names files))
files_no_rows s make file position [] files none = tt
files_no_rows s make file position (name ∷ names) [] none = tt
files_no_rows s make file position (name ∷ names) (bytes ∷ files) none =
    let here : List AxisPart = file_axis s make file name position bytes in
    let rest : List AxisPart = files_axis s make (file + 1) (position + rows_counted here) names files in
    subst GiveNoRows (sym (gives_of-append here rest))
    (no_rows-append (gives_of here) (gives_of rest) (file_no_rows s make file name position bytes none)
    (files_no_rows s make (file + 1) (position + rows_counted here) names files (makes_later make position (position + rows_counted here) (omega arith) none)))

-- the last places give no rows
record GivesNoMore (gives : Places) (from : ℕ) : Type 0 where
  mid : Places
  is : IsMidst gives from (length gives) mid
  none : GiveNoRows mid

no_more-all : (gives : Places) (from : ℕ) → from ≡ 0 → GiveNoRows gives → GivesNoMore gives from
no_more-all gives from begin none = record {
  mid = gives;
  is = record { before = []; after = []; split = sym (append-nil gives); from_is = begin; to_is = omega (arith, begin) };
  none = none;
}

no_more-later : (front gives : Places) (from : ℕ) → GivesNoMore gives from → GivesNoMore (front ++ gives) (length front + from)
no_more-later front gives from more = record {
  mid = more.mid;
  is = subst (λ n. IsMidst (front ++ gives) (length front + from) n more.mid) (sym (length-append front gives)) (midst-later front gives from (length gives) more.mid more.is);
  none = more.none;
}

no_more-over : (before mid more : Places) (gives : Places) (from : ℕ) → gives ≡ before ++ mid → from ≡ length before → GiveNoRows mid → GiveNoRows more → GivesNoMore (gives ++ more) from
no_more-over before mid more gives from split begin one two =
    let whole : gives ++ more ≡ before ++ (mid ++ more) = ap (λ (x : Places). x ++ more) split ∙ append_assoc before mid more in
    let size : length (gives ++ more) ≡ length before + length (mid ++ more) = ap length whole ∙ length-append before (mid ++ more) in record {
      mid = mid ++ more;
      is = record { before = before; after = []; split = whole ∙ ap (λ (x : Places). before ++ x) (sym (append-nil (mid ++ more))); from_is = begin; to_is = omega (arith, size, begin) };
      none = no_rows-append mid more one two;
    }

no_more-same : (gives other : Places) (from begin : ℕ) → gives ≡ other → from ≡ begin → GivesNoMore gives from → GivesNoMore other begin
no_more-same gives other from begin one two more = subst (λ n. GivesNoMore other n) two (subst (λ (x : Places). GivesNoMore x from) one more)

-- from where nothing is made of rows, no place gives any
no_more_given : (s : CsvScan) (make : Maker) (file position : ℕ) (names files : List (List ℕ)) (i from rows : ℕ) → IsDialect s.options → length names ≡ length files
    → StandsIn s (BeginsHere s) files i from rows → MakesNothing make (position + rows) → GivesNoMore (gives_of (files_axis s make file position names files)) from
no_more_given s make file position names [] i from rows fit same begin none = absurd begin
no_more_given s make file position [] (bytes ∷ files) i from rows fit same begin none = absurd (omega (arith, same))
no_more_given s make file position (name ∷ names) (bytes ∷ files) zero from rows fit same (inr (begin, first)) none =
    no_more-all (gives_of (files_axis s make file position (name ∷ names) (bytes ∷ files))) from begin
    (files_no_rows s make file position (name ∷ names) (bytes ∷ files) (makes_later make (position + rows) position (omega (arith, first)) none))
no_more_given s make file position (name ∷ names) (bytes ∷ files) zero from rows fit same (inl (awaits_header, has)) none =
    let columns : ℕ = length s.scan.fields in
    let here : List AxisPart = file_axis s make file name position bytes in
    let rest : List AxisPart = files_axis s make (file + 1) (position + rows_counted here) names files in
    let start : PartStart = file_start s file name position bytes in
    let past : PartStart = start_past columns start (text_parts s.options has.front) in
    let mark : Places = last_of (mark_len bytes) (Ok []) (Ok []) in
    let before : Places = gives_of (text_axis s make start (text_parts s.options has.front)) in
    let mid : Places = gives_of (text_axis s make past (text_parts s.options has.rest)) in
    let one : length mark ≡ mark_len bytes = length-last_of (mark_len bytes) (Ok []) (Ok []) in
    let two : length before ≡ length has.front = size_of s make start has.front fit in
    let place = has.place in
    let counted = has.rows_are in
    let at : past.position ≡ position + row_count columns (behind_header s.options.has_header has.records) =
    ap (λ (x : PartStart). x.position) (start_past-records s.options columns start has.front has.records fit (records_whole s.options has.front has.records fit has.whole)) in
    let all : rows ≤ rows_counted here = rows_within s make file name position bytes from rows awaits_header fit has in
    no_more-same (gives_of here ++ gives_of rest) (gives_of (here ++ rest)) from from (sym (gives_of-append here rest)) refl
    (no_more-over (mark ++ before) mid (gives_of rest) (gives_of here) from
    (file-cut s make file name position bytes has.front has.rest has.records fit has.split (inl has.whole) ∙ sym (append_assoc mark before mid))
    (omega (arith, length-append mark before, one, two, place))
    (text_no_rows s make past (text_parts s.options has.rest) (makes_later make (position + rows) past.position (omega (arith, at, counted)) none))
    (files_no_rows s make (file + 1) (position + rows_counted here) names files (makes_later make (position + rows) (position + rows_counted here) (omega (arith, all)) none)))
no_more_given s make file position (name ∷ names) (bytes ∷ files) (suc i) from rows fit same (later, more, records, split, stands, place, all) none =
    let here : List AxisPart = file_axis s make file name position bytes in
    let rest : List AxisPart = files_axis s make (file + 1) (position + rows_counted here) names files in
    let size : length (gives_of here) ≡ length bytes = length-gives_of here ∙ bytes_of-file s make file name position bytes fit in
    let count : rows_counted here ≡ row_count (length s.scan.fields) (behind_header s.options.has_header records) =
    rows_counted-file s make file name position bytes ∙ rows_counted-records s make (file_start s file name position bytes) (unmarked bytes) records fit split in
    no_more-same (gives_of here ++ gives_of rest) (gives_of (here ++ rest)) (length (gives_of here) + later) from (sym (gives_of-append here rest)) (omega (arith, size, place))
    (no_more-later (gives_of here) (gives_of rest) later
    (no_more_given s make (file + 1) (position + rows_counted here) names files i later more fit (omega (arith, same)) stands
    (makes_later make (position + rows) (position + rows_counted here + more) (omega (arith, count, all)) none)))

-- places without rows have none before the first fault
none_before : (xs : Places) → GiveNoRows xs → before_fault xs ≡ []
none_before [] none = refl
none_before (Err fault ∷ xs) none = refl
none_before (Ok rows ∷ xs) (empty, none) = ap (λ (r : List Row). r ++ before_fault xs) empty ∙ none_before xs none

-- the rows that places up to one give are all before the first fault, where no place gives a row from that one on
past_slice : (gives : Places) (given : ℕ) (rows : List Row) → Gives gives 0 given rows → GivesNoMore gives given → before_fault gives ≡ rows
past_slice gives given rows is more =
    let rest : Places = slice_range gives given (length gives) in
    let split : slice_range gives 0 given ++ rest ≡ gives = sym (slice-append gives 0 given (length gives) is.order is.within) ∙ slice_all gives in
    ap before_fault (sym split) ∙ before_fault-append (slice_range gives 0 given) rest rows is.all
    ∙ ap (λ (xs : Places). rows ++ before_fault xs) (midst-slice more.is) ∙ ap (λ (xs : List Row). rows ++ xs) (none_before more.mid more.none) ∙ append-nil rows

-- up to the end of a slice all rows before the first fault are given
ends_slice : (job : Job) (given asked : ℕ) (rows : List Row) → IsDialect job.scan.options → CountsFromFirst job.scan.scan.asked.slice → length job.names ≡ length job.files
    → JobGives job given rows → IsSliceEnd job.scan job.files given asked → before_fault (scan_axis job).gives ≡ rows
ends_slice job given asked rows fit from one_each gives end =
    let s : CsvScan = job.scan in
    let none : MakesNothing (scanned_within s.scan (csv_keeps s job.first job.names job.files)) (0 + end.rows) = λ row low.
    ap (λ t. if t && nat_le 4294967295 row.position then Err (faults.ComputeError kinds.TooManyRows 4294967295 0) else (if t then row_of_values s.scan row (used_values (used_columns s.scan) row.cells) else Ok None))
    (keeps_no_more s.scan.asked.slice end.slice (total_rows (csv_sources s job.first job.names job.files)) end.rows row.position from end.is end.past (omega (arith, low))) in
    let begin = begin_stands s job.files given end.rows end.begins in
    past_slice (scan_axis job).gives given rows gives
    (no_more_given s (scanned_within s.scan (csv_keeps s job.first job.names job.files)) job.first 0 job.names job.files begin.0 given end.rows fit one_each begin.1 none)

-- rows that are what a scan means, as far as was asked, are all before the first fault
pub all_before_fault : (job : Job) (asked : ℕ) (rows : List Row) → IsDialect job.scan.options → CountsFromFirst job.scan.scan.asked.slice → length job.names ≡ length job.files
    → MeansRows job asked rows → before_fault (scan_axis job).gives ≡ rows
all_before_fault job asked rows fit from one_each (inl (all, gives, is, few)) = let every = gives_all (scan_axis job).gives rows in every.1 (every.0.0 gives)
all_before_fault job asked rows fit from one_each (inr (given, gives, end, fine)) = ends_slice job given asked rows fit from one_each gives end
