-- What follows the slice of a scan gives nothing, where all files are of the grammar.
use Rattle.std.proofs.Common.{◌≡◌, ℕ, zero, suc, ◌+◌, ◌≤◌, ap, sym, subst, refl, ◌∙◌, inl, inr, arith, append_assoc, append-nil, length-append}
use Rattle.std.specs.Prelude.{Bool, true, false, ◌&&◌, if◌then◌else◌, nat_le, Option, Some, None, Result, Ok, Err, List, [], ◌∷◌, ◌++◌, length}
use Rattle.std.specs.List.{All}
use Rattle.std.specs.Str.{is_utf8}
use Rattle.morsel_meaning.specs.declared.fault.ComputeKind.TheVariants as kinds
use Rattle.morsel_meaning.specs.declared.fault.Fault.{Fault}
use Rattle.morsel_meaning.specs.declared.fault.Fault.TheVariants as faults
use Rattle.morsel_meaning.specs.Values.{Row, kinds_of}
use Rattle.morsel_grammar.specs.Dialect.{IsDialect}
use Rattle.morsel_grammar.specs.Grammar.{CsvRecord}
use Rattle.morsel_grammar.specs.Rows.{RowOf, NoRow, IsRow, Misfit, row_of, behind_header, mark_len, unmarked, IsOfGrammar}
use Rattle.morsel_grammar.specs.Reading.{used_values}
use Rattle.morsel_grammar.specs.Results.{refusal_fault}
use Rattle.morsel_grammar.proofs.FileLemmas.{reads_files}
use Rattle.morsel_grammar.proofs.WholeRecordLemmas.{records_whole}
use Rattle.morsel_cut.specs.RowCounts.{row_count}
use Rattle.morsel_scan.specs.Scans.{CsvScan}
use Rattle.morsel_scan.specs.ScanColumns.{used_columns}
use Rattle.morsel_scan.specs.ScanRows.{Placed, placed, gathered_then, gathered, ended_by, followed_by, row_of_values}
use Rattle.morsel_scan.specs.CsvScans.{csv_sources}
use Rattle.morsel_scan.specs.StretchRows.{collected, Gives}
use Rattle.morsel_scan.specs.CsvAxis.{TextPart, text_parts, PartStart, start_after, scanned_within, rows_made, record_gives, part_gives, AxisPart, text_axis, file_axis, rows_counted, files_axis, last_of, gives_of, csv_keeps}
use Rattle.morsel_scan.specs.CsvAxisLaws.{IsAfterPieces, GivesNothingOfGrammar}
use Rattle.morsel_scan.proofs.GatherLemmas.{followed_by-nothing}
use Rattle.morsel_scan.proofs.StretchLemmas.{Places, collected-append, followed_by-ok}
use Rattle.morsel_scan.proofs.PartLemmas.{start_past, start_past-records}
use Rattle.morsel_scan.proofs.AxisLemmas.{Maker, length-last_of, length-gives_of, gives_of-append, rows_counted-past, rows_counted-records}
use Rattle.morsel_scan.proofs.AxisFileLemmas.{file_start, file_reading, bytes_of-file, bytes_of-files, rows_counted-file, made_sources, collected-files}
use Rattle.morsel_scan.proofs.PassedLemmas.{BeginsHere, size_of, file-cut}
use Rattle.morsel_scan.proofs.FilesPassedLemmas.{StandsIn, begin_stands}
use Rattle.morsel_scan.proofs.AxisEndLemmas.{MakesNothing, makes_later, rows_within, none_left, given_nothing}

-- of no row anything is made
abbrev makes_none : Maker
makes_none row = Ok None

record_same : (make : Maker) (start : PartStart) (row : RowOf) → MakesNothing make start.position → record_gives make start row ≡ record_gives makes_none start row
record_same make start NoRow none = refl
record_same make start (IsRow cells) none =
    ap rows_made (none (record { position = start.position; file = start.file; source = start.name; at = start.at; cells = cells }) (omega arith))
record_same make start Misfit none = refl

part_same : (s : CsvScan) (make : Maker) (start : PartStart) (bytes : List ℕ) (found : Option CsvRecord) → MakesNothing make start.position → part_gives s make start bytes found ≡ part_gives s makes_none start bytes found
part_same s make start bytes None none = refl
part_same s make start bytes (Some r) none = by (is_utf8 bytes) start.awaits_header
  where
    by : (t head : Bool) → ◌≡◌ {A = Result (List Row) Fault} (if t then (if head then Ok [] else record_gives make start (row_of s.options (kinds_of s.scan.fields) r)) else Err (faults.ComputeError kinds.NotUtf8 start.file start.at))
        (if t then (if head then Ok [] else record_gives makes_none start (row_of s.options (kinds_of s.scan.fields) r)) else Err (faults.ComputeError kinds.NotUtf8 start.file start.at))
    by false head = refl
    by true true = refl
    by true false = record_same make start (row_of s.options (kinds_of s.scan.fields) r) none

text_same : (s : CsvScan) (make : Maker) (start : PartStart) (parts : List TextPart) → MakesNothing make start.position → gives_of (text_axis s make start parts) ≡ gives_of (text_axis s makes_none start parts)
text_same s make start [] none = refl
text_same s make start (part ∷ parts) none =
    let after : PartStart = start_after (length s.scan.fields) start part in
    ap (λ (x : Result (List Row) Fault). last_of (length part.bytes) (Ok []) x ++ gives_of (text_axis s make after parts)) (part_same s make start part.bytes part.found none)
    ∙ ap (λ (x : Places). last_of (length part.bytes) (Ok []) (part_gives s makes_none start part.bytes part.found) ++ x) (text_same s make after parts (makes_later make start.position after.position (omega arith) none))

-- how many rows there are does not hang on what is made of them
text_counted : (s : CsvScan) (make : Maker) (start : PartStart) (parts : List TextPart) → rows_counted (text_axis s make start parts) ≡ rows_counted (text_axis s makes_none start parts)
text_counted s make start parts =
    let one = rows_counted-past s make start parts in
    let two = rows_counted-past s makes_none start parts in
    omega (arith, one, two)

file_counted : (s : CsvScan) (make : Maker) (file : ℕ) (name : List ℕ) (position : ℕ) (bytes : List ℕ) → rows_counted (file_axis s make file name position bytes) ≡ rows_counted (file_axis s makes_none file name position bytes)
file_counted s make file name position bytes =
    rows_counted-file s make file name position bytes ∙ text_counted s make (file_start s file name position bytes) (text_parts s.options (unmarked bytes)) ∙ sym (rows_counted-file s makes_none file name position bytes)

files_same : (s : CsvScan) (make : Maker) (file position : ℕ) (names files : List (List ℕ)) → MakesNothing make position
    → gives_of (files_axis s make file position names files) ≡ gives_of (files_axis s makes_none file position names files)
files_same s make file position [] files none = refl
files_same s make file position (name ∷ names) [] none = refl
files_same s make file position (name ∷ names) (bytes ∷ files) none =
    let here : List AxisPart = file_axis s make file name position bytes in
    let there : List AxisPart = file_axis s makes_none file name position bytes in
    gives_of-append here (files_axis s make (file + 1) (position + rows_counted here) names files)
    ∙ ap (λ (x : Places). (last_of (mark_len bytes) (Ok []) (Ok []) ++ x) ++ gives_of (files_axis s make (file + 1) (position + rows_counted here) names files))
    (text_same s make (file_start s file name position bytes) (text_parts s.options (unmarked bytes)) none)
    ∙ ap (λ (x : Places). gives_of there ++ x)
    (files_same s make (file + 1) (position + rows_counted here) names files (makes_later make position (position + rows_counted here) (omega arith) none)
    ∙ ap (λ n. gives_of (files_axis s makes_none (file + 1) (position + n) names files)) (file_counted s make file name position bytes))
    ∙ sym (gives_of-append there (files_axis s makes_none (file + 1) (position + rows_counted there) names files))

-- the last places are the same
record SameLast (gives other : Places) (from : ℕ) : Type 0 where
  before : Places
  after : Places
  mid : Places
  one : gives ≡ before ++ mid
  two : other ≡ after ++ mid
  from_is : from ≡ length before

same_last : (gives other front back : Places) (from : ℕ) → SameLast gives other from → SameLast (front ++ gives) (back ++ other) (length front + from)
same_last gives other front back from same =
    let begin = same.from_is in record {
      before = front ++ same.before;
      after = back ++ same.after;
      mid = same.mid;
      one = ap (λ (x : Places). front ++ x) same.one ∙ sym (append_assoc front same.before same.mid);
      two = ap (λ (x : Places). back ++ x) same.two ∙ sym (append_assoc back same.after same.mid);
      from_is = omega (arith, length-append front same.before, begin);
    }

last_same : (gives other more less : Places) (from begin : ℕ) → gives ≡ more → other ≡ less → from ≡ begin → SameLast gives other from → SameLast more less begin
last_same gives other more less from begin one two three same =
    subst (λ n. SameLast more less n) three (subst (λ (x : Places). SameLast more x from) two (subst (λ (x : Places). SameLast x other from) one same))

-- from where nothing is made of rows, all is as if nothing were ever made
same_from : (s : CsvScan) (make : Maker) (file position : ℕ) (names files : List (List ℕ)) (i from rows : ℕ) → IsDialect s.options → length names ≡ length files
    → StandsIn s (BeginsHere s) files i from rows → MakesNothing make (position + rows)
    → SameLast (gives_of (files_axis s make file position names files)) (gives_of (files_axis s makes_none file position names files)) from
same_from s make file position names [] i from rows fit same begin none = absurd begin
same_from s make file position [] (bytes ∷ files) i from rows fit same begin none = absurd (omega (arith, same))
same_from s make file position (name ∷ names) (bytes ∷ files) zero from rows fit same (inr (begin, first)) none = record {
  before = [];
  after = [];
  mid = gives_of (files_axis s makes_none file position (name ∷ names) (bytes ∷ files));
  one = files_same s make file position (name ∷ names) (bytes ∷ files) (makes_later make (position + rows) position (omega (arith, first)) none);
  two = refl;
  from_is = begin;
}
same_from s make file position (name ∷ names) (bytes ∷ files) zero from rows fit same (inl (awaits_header, has)) none =
    let columns : ℕ = length s.scan.fields in
    let here : List AxisPart = file_axis s make file name position bytes in
    let there : List AxisPart = file_axis s makes_none file name position bytes in
    let start : PartStart = file_start s file name position bytes in
    let past : PartStart = start_past columns start (text_parts s.options has.front) in
    let mark : Places = last_of (mark_len bytes) (Ok []) (Ok []) in
    let before : Places = gives_of (text_axis s make start (text_parts s.options has.front)) in
    let after : Places = gives_of (text_axis s makes_none start (text_parts s.options has.front)) in
    let mid : Places = gives_of (text_axis s makes_none past (text_parts s.options has.rest)) in
    let later : Places = gives_of (files_axis s makes_none (file + 1) (position + rows_counted there) names files) in
    let one : length mark ≡ mark_len bytes = length-last_of (mark_len bytes) (Ok []) (Ok []) in
    let two : length before ≡ length has.front = size_of s make start has.front fit in
    let place = has.place in
    let counted = has.rows_are in
    let at : past.position ≡ position + row_count columns (behind_header s.options.has_header has.records) =
    ap (λ (x : PartStart). x.position) (start_past-records s.options columns start has.front has.records fit (records_whole s.options has.front has.records fit has.whole)) in
    let all : rows ≤ rows_counted here = rows_within s make file name position bytes from rows awaits_header fit has in
    let rest : gives_of (files_axis s make (file + 1) (position + rows_counted here) names files) ≡ later =
    files_same s make (file + 1) (position + rows_counted here) names files (makes_later make (position + rows) (position + rows_counted here) (omega (arith, all)) none)
    ∙ ap (λ n. gives_of (files_axis s makes_none (file + 1) (position + n) names files)) (file_counted s make file name position bytes) in
    let text : gives_of (text_axis s make past (text_parts s.options has.rest)) ≡ mid = text_same s make past (text_parts s.options has.rest) (makes_later make (position + rows) past.position (omega (arith, at, counted)) none) in record {
      before = mark ++ before;
      after = mark ++ after;
      mid = mid ++ later;
      one = gives_of-append here (files_axis s make (file + 1) (position + rows_counted here) names files)
          ∙ ap (λ (x : Places). x ++ gives_of (files_axis s make (file + 1) (position + rows_counted here) names files))
          (file-cut s make file name position bytes has.front has.rest has.records fit has.split (inl has.whole) ∙ sym (append_assoc mark before (gives_of (text_axis s make past (text_parts s.options has.rest)))))
          ∙ ap (λ (x : Places). ((mark ++ before) ++ x) ++ gives_of (files_axis s make (file + 1) (position + rows_counted here) names files)) text
          ∙ ap (λ (x : Places). ((mark ++ before) ++ mid) ++ x) rest ∙ append_assoc (mark ++ before) mid later;
      two = gives_of-append there (files_axis s makes_none (file + 1) (position + rows_counted there) names files)
          ∙ ap (λ (x : Places). x ++ later) (file-cut s makes_none file name position bytes has.front has.rest has.records fit has.split (inl has.whole) ∙ sym (append_assoc mark after mid))
          ∙ append_assoc (mark ++ after) mid later;
      from_is = omega (arith, length-append mark before, one, two, place);
    }
same_from s make file position (name ∷ names) (bytes ∷ files) (suc i) from rows fit same (later, more, records, split, stands, place, all) none =
    let here : List AxisPart = file_axis s make file name position bytes in
    let there : List AxisPart = file_axis s makes_none file name position bytes in
    let rest : List AxisPart = files_axis s make (file + 1) (position + rows_counted here) names files in
    let other : List AxisPart = files_axis s makes_none (file + 1) (position + rows_counted there) names files in
    let size : length (gives_of here) ≡ length bytes = length-gives_of here ∙ bytes_of-file s make file name position bytes fit in
    let count : rows_counted here ≡ row_count (length s.scan.fields) (behind_header s.options.has_header records) =
    rows_counted-file s make file name position bytes ∙ rows_counted-records s make (file_start s file name position bytes) (unmarked bytes) records fit split in
    let below = same_from s make (file + 1) (position + rows_counted here) names files i later more fit (omega (arith, same)) stands
    (makes_later make (position + rows) (position + rows_counted here + more) (omega (arith, count, all)) none) in
    let moved : gives_of (files_axis s makes_none (file + 1) (position + rows_counted here) names files) ≡ gives_of other =
    ap (λ n. gives_of (files_axis s makes_none (file + 1) (position + n) names files)) (file_counted s make file name position bytes) in
    last_same (gives_of here ++ gives_of rest) (gives_of there ++ gives_of other) (gives_of (here ++ rest)) (gives_of (there ++ other)) (length (gives_of here) + later) from
    (sym (gives_of-append here rest)) (sym (gives_of-append there other)) (omega (arith, size, place))
    (same_last (gives_of rest) (gives_of other) (gives_of here) (gives_of there) later
    (last_same (gives_of rest) (gives_of (files_axis s makes_none (file + 1) (position + rows_counted here) names files)) (gives_of rest) (gives_of other) later later refl moved refl below))

none_gathered : (rows : List Placed) → gathered makes_none rows ≡ Ok []
none_gathered [] = refl
none_gathered (row ∷ rows) = ap (gathered_then (Ok None)) (none_gathered rows)

-- of files of the grammar nothing is made where nothing is made of rows
none_made : (s : CsvScan) (file position : ℕ) (names files : List (List ℕ)) → IsDialect s.options → All (IsOfGrammar s.options (kinds_of s.scan.fields)) files
    → made_sources makes_none position (csv_sources s file names files) ≡ Ok []
none_made s file position [] files fit of = refl
none_made s file position (name ∷ names) [] fit of = refl
none_made s file position (name ∷ names) (bytes ∷ files) fit of =
    let rows : List Placed = placed position file name (file_reading s bytes).rows in
    let later : Result (List Row) Fault = made_sources makes_none (position + length (file_reading s bytes).rows) (csv_sources s (file + 1) names files) in
    ap (λ fault. followed_by (ended_by (refusal_fault file fault) (gathered makes_none rows)) later) ((reads_files s.options fit (kinds_of s.scan.fields) bytes).0 (of 0 bytes (omega arith)))
    ∙ ap (λ x. followed_by x later) (none_gathered rows) ∙ followed_by-nothing later
    ∙ none_made s (file + 1) (position + length (file_reading s bytes).rows) names files fit (λ k d less. of (suc k) d (omega arith))

nothing_of_grammar : (s : CsvScan) (make : Maker) (first given rows : ℕ) (names files : List (List ℕ)) → IsDialect s.options → length names ≡ length files → MakesNothing make (0 + rows) → IsAfterPieces s files given rows
    → All (IsOfGrammar s.options (kinds_of s.scan.fields)) files → (let gives = gives_of (files_axis s make first 0 names files) in Gives gives given (length gives) [])
nothing_of_grammar s make first given rows names files fit same none (inr end) of =
    let parts : List AxisPart = files_axis s make first 0 names files in
    none_left (gives_of parts) given (end ∙ sym (length-gives_of parts ∙ bytes_of-files s make first 0 names files fit same))
nothing_of_grammar s make first given rows names files fit same none (inl begins) of =
    let gives : Places = gives_of (files_axis s make first 0 names files) in
    let other : Places = gives_of (files_axis s makes_none first 0 names files) in
    let begin = begin_stands s files given rows begins in
    let last = same_from s make first 0 names files begin.0 given rows fit same begin.1 none in
    let all : collected other ≡ Ok [] = collected-files s makes_none first 0 names files fit ∙ none_made s first 0 names files fit of in
    let cut = followed_by-ok (collected last.after) (collected last.mid) [] (sym (ap collected last.two ∙ collected-append last.after last.mid) ∙ all) in
    let empty : cut.1 ≡ [] = no_more cut.0 cut.1 (sym cut.4) in
    let size : length gives ≡ length last.before + length last.mid = ap length last.one ∙ length-append last.before last.mid in
    let start = last.from_is in
    given_nothing gives given (length gives) refl (record {
      mid = last.mid;
      is = record { before = last.before; after = []; split = last.one ∙ ap (λ (x : Places). last.before ++ x) (sym (append-nil last.mid)); from_is = last.from_is; to_is = omega (arith, size, start) };
      nothing = cut.3 ∙ ap Ok empty;
    })
  where
    no_more : (xs ys : List Row) → xs ++ ys ≡ [] → ys ≡ []
    no_more [] ys is = is
    no_more (x ∷ xs) ys is = absurd (cc)

pub gives_nothing_of_grammar : (s : CsvScan) → IsDialect s.options → GivesNothingOfGrammar s
gives_nothing_of_grammar s fit = λ first head given rows names files opened text_of same ends keeps_none of.
    let none : MakesNothing (scanned_within s.scan (csv_keeps s first names files)) (0 + rows) = λ row from.
    ap (λ t. if t && nat_le 4294967295 row.position then Err (faults.ComputeError kinds.TooManyRows 4294967295 0) else (if t then row_of_values s.scan row (used_values (used_columns s.scan) row.cells) else Ok None))
    (keeps_none row.position (omega arith)) in
    nothing_of_grammar s (scanned_within s.scan (csv_keeps s first names files)) first given rows names files fit same none ends of
