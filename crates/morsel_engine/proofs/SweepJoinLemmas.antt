-- How many sweeps a run of a query with a join makes.
use Rattle.std.proofs.Common.{◌≡◌, ◌⊎◌, ℕ, zero, suc, ◌+◌, ◌-◌, ◌*◌, ◌^◌, ◌<◌, ◌≤◌, ap, sym, subst, refl, ◌∙◌, inl, inr, arith, length-append}
use Rattle.std.proofs.lemmas.Bool.Decides.{nat_tests}
use Rattle.std.proofs.Math.Nat.{mul_comm, mul-add}
use Rattle.std.proofs.lemmas.Nat.{mul-le}
use Rattle.std.proofs.lemmas.List.{length-map, append_cancel_left, take-append-drop}
use Rattle.std.proofs.lemmas.List.Sums.{sum_by-cons, sum_by-append}
use Rattle.std.specs.Prelude.{Bool, true, false, not, ◌&&◌, nat_le, if◌then◌else◌, Option, Some, None, Result, Ok, Err, List, [], ◌∷◌, ◌++◌, map, length}
use Rattle.std.specs.List.{filter, sum_by}
use Rattle.std.specs.Str.{is_utf8}
use Rattle.morsel_meaning.specs.declared.fault.ComputeKind.TheVariants as kinds
use Rattle.morsel_meaning.specs.declared.fault.Fault.{Fault}
use Rattle.morsel_meaning.specs.declared.fault.Fault.TheVariants as faults
use Rattle.morsel_meaning.specs.Values.{Row, kinds_of}
use Rattle.morsel_meaning.specs.declared.value.Field.{Field}
use Rattle.morsel_grammar.specs.Dialect.{IsDialect}
use Rattle.morsel_grammar.specs.Grammar.{CsvRecord}
use Rattle.morsel_grammar.specs.Rows.{RowOf, NoRow, IsRow, Misfit, row_of, mark_len, unmarked, behind_header}
use Rattle.morsel_grammar.specs.Reading.{used_values}
use Rattle.morsel_cut.specs.RowCounts.{is_row, row_count}
use Rattle.morsel_cut.proofs.CountLemmas.{Agrees, record_agrees}
use Rattle.morsel_outside.specs.Outside.{Outside, with_more}
use Rattle.morsel_scan.specs.Scans.{Scan, CsvScan}
use Rattle.morsel_scan.specs.ScanColumns.{used_columns}
use Rattle.morsel_scan.specs.CsvPieces.{HaveRows}
use Rattle.morsel_scan.specs.StretchRows.{Gives, before_fault}
use Rattle.morsel_scan.specs.CsvAxis.{TextPart, text_parts, PartStart, start_after, scanned_within, rows_made, record_gives, part_gives, is_row_part, AxisPart, axis_part, text_axis, file_axis, rows_counted, files_axis, last_of, gives_of, csv_keeps}
use Rattle.morsel_scan.specs.Ahead.{one_if}
use Rattle.morsel_scan.specs.ScanRows.{Placed, row_of_values}
use Rattle.morsel_scan.proofs.StretchLemmas.{Places, gives_front}
use Rattle.morsel_scan.proofs.AxisLemmas.{Maker, gives_of-append, rows_counted-records}
use Rattle.morsel_scan.proofs.AxisFileLemmas.{file_start, rows_counted-file}
use Rattle.morsel_join.specs.declared.rules.JoinRules.{JoinRules}
use Rattle.morsel_join.specs.Rows.{keeps_left}
use Rattle.morsel_join.specs.Sides.{KeptSide, wants_kept, wants_asked, row_finds, joined_row, with_each, found_by_row, rows_found, is_asked_for, rows_alone}
use Rattle.morsel_join_plan.specs.JoinRuns.{SweepsJoin}
use Rattle.morsel_read.specs.ScanReads.{sizes_in}
use Rattle.morsel_drain.specs.Finding.{IsRowsEnd}
use Rattle.morsel_line.specs.ScanJobs.{scan_axis, IsJobPiece}
use Rattle.morsel_sink.specs.declared.spec.SinkSpec.{SinkSpec}
use Rattle.morsel_group.specs.Asked.{GroupAsked}
use Rattle.morsel_query.specs.RunOptions.{RunOptions}
use Rattle.morsel_query.specs.Queries.{FileScan, JoinPart, QueryParts}
use Rattle.morsel_query.specs.QueryFlaws.{sources_of}
use Rattle.morsel_query.specs.Meanings.{csv_scan, left_files, right_files}
use Rattle.morsel_engine.specs.Courses.{file_numbers}
use Rattle.morsel_engine.specs.Stages.{SweepsSides, SweepsFiles}
use Rattle.morsel_engine.specs.Runs.{TellsBytes, HasOpened, gives_of_scan}
use Rattle.morsel_engine.specs.SweepBounds.{sweep_bound, HasScanRows, HaveJoinedRows, greatest_width, SweepsWithin}
use Rattle.morsel_engine.proofs.ToldLemmas.{sum_lengths}
use Rattle.morsel_engine.proofs.ScanLemmas.{Begun}
use Rattle.morsel_engine.proofs.OpenScanLemmas.{OpenScan, numbers_of, open_rows, open_job, IsOfQuery, had_nothing}
use Rattle.morsel_engine.proofs.JoinSideLemmas.{left_open, right_open, query_joined, SidesFit, left_is, right_is}
use Rattle.morsel_engine.proofs.JoinLemmas.{join_scan}
use Rattle.morsel_engine.proofs.JoinedLemmas.{JoinFit, fit_sides}
use Rattle.morsel_engine.proofs.PieceRowLemmas.{rows_end_few}
use Rattle.morsel_engine.proofs.SweepLemmas.{at_most}

-- how many rows a place gives
abbrev rows_in : Result (List Row) Fault → ℕ
rows_in (Ok rows) = length rows
rows_in (Err fault) = 0

before_few : (gives : Places) → length (before_fault gives) ≤ sum_by rows_in gives
before_few [] = omega arith
before_few (Ok rows ∷ gives) = let rest = before_few gives in let len = length-append rows (before_fault gives) in let sum = sum_by-cons rows_in (Ok rows) gives in omega (arith, rest, len, sum)
before_few (Err fault ∷ gives) = omega arith

last_few : (n : ℕ) (given : Result (List Row) Fault) → sum_by rows_in (last_of n (Ok []) given) ≤ rows_in given
last_few zero given = omega arith
last_few (suc zero) given = let sum = sum_by-cons rows_in given [] in omega (arith, sum)
last_few (suc (suc n)) given = let rest = last_few (suc n) given in let sum = sum_by-cons rows_in (Ok []) (last_of (suc n) (Ok []) given) in omega (arith, rest, sum)

made_few : (made : Result (Option Row) Fault) → rows_in (rows_made made) ≤ 1
made_few (Ok None) = omega arith
made_few (Ok (Some row)) = omega arith
made_few (Err fault) = omega arith

-- one for a record that counts as a row
abbrev counts_as : Bool → ℕ
counts_as counts = if counts then 1 else 0

record_few : (make : Maker) (start : PartStart) (row : RowOf) (counts : Bool) → Agrees row counts → rows_in (record_gives make start row) ≤ counts_as counts
record_few make start NoRow counts agrees = omega arith
record_few make start (IsRow cells) true agrees = made_few (make (record { position = start.position; file = start.file; source = start.name; at = start.at; cells = cells }))
record_few make start (IsRow cells) false agrees = absurd (cc)
record_few make start Misfit counts agrees = omega arith

part_few : (s : CsvScan) (make : Maker) (start : PartStart) (bytes : List ℕ) (found : Option CsvRecord)
    → rows_in (part_gives s make start bytes found) ≤ counts_as (is_row_part (length s.scan.fields) start.awaits_header found)
part_few s make start bytes None = omega arith
part_few s make start bytes (Some r) = by (is_utf8 bytes) start.awaits_header
  where
    agrees : Agrees (row_of s.options (kinds_of s.scan.fields) r) (is_row (length s.scan.fields) r)
    agrees = subst (λ (n : ℕ). Agrees (row_of s.options (kinds_of s.scan.fields) r) (is_row n r)) (length-map s.scan.fields (λ (field : Field). field.kind)) (record_agrees s.options (kinds_of s.scan.fields) r)

    by : (t head : Bool) → rows_in (if t then (if head then Ok [] else record_gives make start (row_of s.options (kinds_of s.scan.fields) r)) else Err (faults.ComputeError kinds.NotUtf8 start.file start.at))
        ≤ counts_as (not head && is_row (length s.scan.fields) r)
    by false head = omega arith
    by true true = omega arith
    by true false = record_few make start (row_of s.options (kinds_of s.scan.fields) r) (is_row (length s.scan.fields) r) agrees

text_few : (s : CsvScan) (make : Maker) (start : PartStart) (parts : List TextPart) → sum_by rows_in (gives_of (text_axis s make start parts)) ≤ rows_counted (text_axis s make start parts)
text_few s make start [] = omega arith
text_few s make start (part ∷ parts) =
    let after : PartStart = start_after (length s.scan.fields) start part in
    let rest = text_few s make after parts in
    let here = last_few (length part.bytes) (part_gives s make start part.bytes part.found) in
    let one = part_few s make start part.bytes part.found in
    let sum = sum_by-append rows_in (last_of (length part.bytes) (Ok []) (part_gives s make start part.bytes part.found)) (gives_of (text_axis s make after parts)) in
    let counted = sum_by-cons (λ (x : AxisPart). if x.counts then 1 else 0) (axis_part s make start part) (text_axis s make after parts) in
    omega (arith, rest, here, one, sum, counted)

file_few : (s : CsvScan) (make : Maker) (file : ℕ) (name : List ℕ) (position : ℕ) (bytes : List ℕ) → sum_by rows_in (gives_of (file_axis s make file name position bytes)) ≤ rows_counted (file_axis s make file name position bytes)
file_few s make file name position bytes =
    let start : PartStart = file_start s file name position bytes in
    let mark = last_few (mark_len bytes) (Ok []) in
    let text = text_few s make start (text_parts s.options (unmarked bytes)) in
    let sum = sum_by-append rows_in (last_of (mark_len bytes) (Ok []) (Ok [])) (gives_of (text_axis s make start (text_parts s.options (unmarked bytes)))) in
    let counted = rows_counted-file s make file name position bytes in
    omega (arith, mark, text, sum, counted)

files_few : (s : CsvScan) (make : Maker) (file position : ℕ) (names files : List (List ℕ)) (rows : ℕ) → IsDialect s.options → HaveRows s files rows
    → sum_by rows_in (gives_of (files_axis s make file position names files)) ≤ rows
files_few s make file position [] files rows fit have = omega arith
files_few s make file position (name ∷ names) [] rows fit have = omega arith
files_few s make file position (name ∷ names) (bytes ∷ files) rows fit (records, split, more, have, is) =
    let here : List AxisPart = file_axis s make file name position bytes in
    let rest : List AxisPart = files_axis s make (file + 1) (position + rows_counted here) names files in
    let first = file_few s make file name position bytes in
    let later = files_few s make (file + 1) (position + rows_counted here) names files more fit have in
    let count : rows_counted here ≡ row_count (length s.scan.fields) (behind_header s.options.has_header records) =
    rows_counted-file s make file name position bytes ∙ rows_counted-records s make (file_start s file name position bytes) (unmarked bytes) records fit split in
    let sum = ap (sum_by rows_in) (gives_of-append here rest) ∙ sum_by-append rows_in (gives_of here) (gives_of rest) in
    omega (arith, first, later, count, sum, is)

-- a row is made only where its position is below the greatest number of rows
abbrev IsLow : Maker → Type 0
IsLow make = (row : Placed) → rows_in (rows_made (make row)) ≤ 4294967295 - row.position

below : (n : ℕ) → nat_le 4294967295 n ≡ false → n < 4294967295
below n is = grind (arith, nat_tests)

scanned_low : (scan : Scan) (keeps : ℕ → Bool) → IsLow (scanned_within scan keeps)
scanned_low scan keeps row = by (keeps row.position) (nat_le 4294967295 row.position) refl
  where
    by : (kept high : Bool) → nat_le 4294967295 row.position ≡ high
        → rows_in (rows_made (if kept && high then Err (faults.ComputeError kinds.TooManyRows 4294967295 0) else (if kept then row_of_values scan row (used_values (used_columns scan) row.cells) else Ok None)))
        ≤ 4294967295 - row.position
    by false high is = omega arith
    by true true is = omega arith
    by true false is = let one = made_few (row_of_values scan row (used_values (used_columns scan) row.cells)) in let low = below row.position is in omega (arith, one, low)

record_low : (make : Maker) (start : PartStart) (row : RowOf) → IsLow make → rows_in (record_gives make start row) ≤ 4294967295 - start.position
record_low make start NoRow low = omega arith
record_low make start (IsRow cells) low = low (record { position = start.position; file = start.file; source = start.name; at = start.at; cells = cells })
record_low make start Misfit low = omega arith

part_low : (s : CsvScan) (make : Maker) (start : PartStart) (bytes : List ℕ) (found : Option CsvRecord) → IsLow make → rows_in (part_gives s make start bytes found) ≤ 4294967295 - start.position
part_low s make start bytes None low = omega arith
part_low s make start bytes (Some r) low = by (is_utf8 bytes) start.awaits_header
  where
    by : (t head : Bool) → rows_in (if t then (if head then Ok [] else record_gives make start (row_of s.options (kinds_of s.scan.fields) r)) else Err (faults.ComputeError kinds.NotUtf8 start.file start.at))
        ≤ 4294967295 - start.position
    by false head = omega arith
    by true true = omega arith
    by true false = record_low make start (row_of s.options (kinds_of s.scan.fields) r) low

ones : (counts : Bool) → one_if counts ≡ counts_as counts
ones true = refl
ones false = refl

-- so the rows from a position on are no more than there may be behind it
text_low : (s : CsvScan) (make : Maker) (start : PartStart) (parts : List TextPart) → IsLow make → sum_by rows_in (gives_of (text_axis s make start parts)) ≤ 4294967295 - start.position
text_low s make start [] low = omega arith
text_low s make start (part ∷ parts) low =
    let after : PartStart = start_after (length s.scan.fields) start part in
    let rest = text_low s make after parts low in
    let here = last_few (length part.bytes) (part_gives s make start part.bytes part.found) in
    let one = part_few s make start part.bytes part.found in
    let less = part_low s make start part.bytes part.found low in
    let sum = sum_by-append rows_in (last_of (length part.bytes) (Ok []) (part_gives s make start part.bytes part.found)) (gives_of (text_axis s make after parts)) in
    let next : after.position ≡ start.position + counts_as (is_row_part (length s.scan.fields) start.awaits_header part.found) = ap (λ n. start.position + n) (ones (is_row_part (length s.scan.fields) start.awaits_header part.found)) in
    omega (arith, rest, here, one, less, sum, next)

file_low : (s : CsvScan) (make : Maker) (file : ℕ) (name : List ℕ) (position : ℕ) (bytes : List ℕ) → IsLow make → sum_by rows_in (gives_of (file_axis s make file name position bytes)) ≤ 4294967295 - position
file_low s make file name position bytes low =
    let start : PartStart = file_start s file name position bytes in
    let mark = last_few (mark_len bytes) (Ok []) in
    let text = text_low s make start (text_parts s.options (unmarked bytes)) low in
    let sum = sum_by-append rows_in (last_of (mark_len bytes) (Ok []) (Ok [])) (gives_of (text_axis s make start (text_parts s.options (unmarked bytes)))) in
    omega (arith, mark, text, sum)

files_low : (s : CsvScan) (make : Maker) (file position : ℕ) (names files : List (List ℕ)) → IsLow make → sum_by rows_in (gives_of (files_axis s make file position names files)) ≤ 4294967295 - position
files_low s make file position [] files low = omega arith
files_low s make file position (name ∷ names) [] low = omega arith
files_low s make file position (name ∷ names) (bytes ∷ files) low =
    let here : List AxisPart = file_axis s make file name position bytes in
    let rest : List AxisPart = files_axis s make (file + 1) (position + rows_counted here) names files in
    let first = file_few s make file name position bytes in
    let less = file_low s make file name position bytes low in
    let later = files_low s make (file + 1) (position + rows_counted here) names files low in
    let sum = ap (sum_by rows_in) (gives_of-append here rest) ∙ sum_by-append rows_in (gives_of here) (gives_of rest) in
    omega (arith, first, less, later, sum)

-- no more rows than a scan is taken for stand before its first fault
pub scan_few : (scan : FileScan) (first : ℕ) (files : List (List ℕ)) (rows : ℕ) → IsDialect (csv_scan scan).options → HasScanRows scan files rows → length (before_fault (gives_of_scan scan first files)) ≤ rows
scan_few scan first files rows fit (inl have) =
    let s : CsvScan = csv_scan scan in
    let few = files_few s (scanned_within s.scan (csv_keeps s first scan.sources files)) first 0 scan.sources files rows fit have in
    let before = before_few (gives_of_scan scan first files) in omega (arith, few, before)
scan_few scan first files rows fit (inr (none, is)) =
    let s : CsvScan = csv_scan scan in let keeps : ℕ → Bool = csv_keeps s first scan.sources files in
    let few = files_low s (scanned_within s.scan keeps) first 0 scan.sources files (scanned_low s.scan keeps) in
    let before = before_few (gives_of_scan scan first files) in omega (arith, few, before, is)

each_few : (wanted : Bool) (joined : Row → Row) (rows : List Row) → length (with_each wanted joined rows) ≤ length rows + 1
each_few true joined [] = omega arith
each_few false joined [] = omega arith
each_few wanted joined (kept ∷ more) = let len = length-map (kept ∷ more) joined in omega (arith, len)

filter_few : (p : Row → Bool) (rows : List Row) → length (filter p rows) ≤ length rows
filter_few p [] = omega arith
filter_few p (row ∷ rows) = by (p row) (filter_few p rows)
  where
    by : (b : Bool) → length (filter p rows) ≤ length rows → length (if b then row ∷ filter p rows else filter p rows) ≤ length (row ∷ rows)
    by true few = omega (arith, few)
    by false few = omega (arith, few)

pub found_few : (side : KeptSide) (asked : List Row) → length (rows_found side asked) ≤ (length side.rows + 1) * length asked
found_few side [] = omega arith
found_few side (row ∷ asked) =
    let len = length-append (found_by_row side row) (rows_found side asked) in
    let each = each_few (wants_asked side) (joined_row side row) (filter (row_finds side row) side.rows) in
    let few = filter_few (row_finds side row) side.rows in
    let rest = found_few side asked in
    let next : length (row ∷ asked) ≡ length asked + 1 = omega arith in
    let product : (length side.rows + 1) * length (row ∷ asked) ≡ (length side.rows + 1) * length asked + (length side.rows + 1) * 1 = ap (λ (n : ℕ). (length side.rows + 1) * n) next ∙ mul-add (length side.rows + 1) (length asked) 1 in
    omega (arith, len, each, few, rest, product)

pub alone_few : (side : KeptSide) (asked : List Row) → length (rows_alone side asked) ≤ length side.rows
alone_few side asked = by (wants_kept side)
  where
    by : (wanted : Bool) → length (if wanted then map (joined_row side []) (filter (λ kept. not (is_asked_for side asked kept)) side.rows) else []) ≤ length side.rows
    by true = let few = filter_few (λ kept. not (is_asked_for side asked kept)) side.rows in let len = length-map (filter (λ kept. not (is_asked_for side asked kept)) side.rows) (joined_row side []) in omega (arith, few, len)
    by false = omega arith

-- no more rows are written than there are pairs of a row of one side or none, and a row of the other or none, but for the pair of none
pub pairs : (kept asked most others found alone rows : ℕ) → rows ≤ found + alone → found ≤ (kept + 1) * asked → alone ≤ kept → kept ≤ most → asked ≤ others → rows + 1 ≤ (most + 1) * (others + 1)
pairs kept asked most others found alone rows few one two less fewer =
    let product = mul-le (kept + 1) asked (most + 1) others (omega (arith, less)) fewer in
    let next = mul-add (most + 1) others 1 in omega (arith, few, one, two, less, product, next)

-- and so the sweeps are within the bound
within_bound : (workers bytes sources product columns before after rows : ℕ) → after ≤ before + 1024 * (bytes + 4) + 512 * rows → rows + 1 ≤ product * 2 → 2 ≤ sources → 1 ≤ columns
    → after ≤ before + 1024 * (workers + bytes + sources + product) * (columns + 1)
within_bound workers bytes sources product columns before after rows few many some wide =
    let double = mul-le (1024 * (workers + bytes + sources + product)) 2 (1024 * (workers + bytes + sources + product)) (columns + 1) (omega arith) (omega (arith, wide)) in
    omega (arith, few, many, some, double)

-- some first rows of a scan are no more than stand before its first fault
pub first_few : (gives : Places) (given : ℕ) (rows : List Row) → Gives gives 0 given rows → length rows ≤ length (before_fault gives)
first_few gives given rows is = let front = gives_front gives given rows is in let len = ap length front.1 ∙ length-append rows front.0 in omega (arith, len)

-- the files that are told are those that were opened
pub told_same : (held : Option (List (List ℕ))) (was : Option (List (List ℕ))) (files told all : List (List ℕ)) → held ≡ Some all → held ≡ with_more was files → held ≡ with_more was told → told ≡ files
told_same held None files told all is one two = absurd (let both : None ≡ Some all = sym one ∙ is in cc)
told_same held (Some before) files told all is one two =
    let both : Some (before ++ told) ≡ Some (before ++ files) = sym two ∙ one in let same : before ++ told ≡ before ++ files = cc in append_cancel_left before told files same

-- a scan has no more rows than this, up to the last row of a piece and before the first fault
pub record HasFewRows (options : RunOptions) (open_scan : OpenScan) (most : ℕ) : Type 0 where
  pub rows : length (open_rows options open_scan) ≤ most
  pub places : (n : ℕ) → n ≤ 4294967295 → IsRowsEnd (IsJobPiece (open_job options open_scan)) n → n ≤ most

pub few_rows : (options : RunOptions) (open_scan : OpenScan) (most : ℕ) → IsDialect (csv_scan open_scan.scan).options → HasScanRows open_scan.scan open_scan.files most → HasFewRows options open_scan most
few_rows options open_scan most fit have = record {
  rows = scan_few open_scan.scan open_scan.first open_scan.files most fit have;
  places = λ n small end. places have n small end;
}
  where
    places : HasScanRows open_scan.scan open_scan.files most → (n : ℕ) → n ≤ 4294967295 → IsRowsEnd (IsJobPiece (open_job options open_scan)) n → n ≤ most
    places (inl have) n small end = rows_end_few (csv_scan open_scan.scan) open_scan.first open_scan.scan.sources open_scan.files most n fit have end
    places (inr (none, is)) n small end = omega (arith, small, is)

-- few sweeps were made for each byte of two scans, and for each of some rows, which are few where the rows of the scans are
pub record SweepsFewRows (options : RunOptions) (now : Outside) (kept asked : OpenScan) (before after : ℕ) : Type 0 where
  pub rows : ℕ
  pub few : after ≤ before + 1024 * (sum_by (λ n. n) (sizes_in now.sizes (numbers_of kept)) + sum_by (λ n. n) (sizes_in now.sizes (numbers_of asked)) + 4) + 512 * rows
  pub small : (product : ℕ) → 2 ^ 64 ≤ product → rows + 1 ≤ product * 2
  pub within : TellsBytes now → (most others : ℕ) → HasFewRows options kept most → HasFewRows options asked others → rows + 1 ≤ (most + 1) * (others + 1) * 2

module _ (old now : Outside) (query : QueryParts) (options : RunOptions) (files : List (List ℕ)) (kept asked : OpenScan) (kept_is : IsOfQuery old now query files kept) (asked_is : IsOfQuery old now query files asked)
    (before after : ℕ) where
  -- the rows of a join were written
  pub few_of_join : SweepsJoin (join_scan options kept) (join_scan options asked) now before after → SweepsFewRows options now kept asked before after
  few_of_join s = record {
    rows = s.rows;
    few = s.few;
    small = λ product big. let small = s.small in omega (arith, small, big);
    within = λ tells most others one two.
        let few = s.within kept.files asked.files (had_nothing old now query options files kept kept_is now refl refl tells) (had_nothing old now query options files asked asked_is now refl refl tells) in
        let front = first_few (scan_axis (open_job options kept)).gives few.given few.side.rows few.gives in
        let least = one.rows in
        let all = pairs (length few.side.rows) (length (open_rows options asked)) most others (length (rows_found few.side (open_rows options asked))) (length (rows_alone few.side (open_rows options asked))) s.rows
        few.few (found_few few.side (open_rows options asked)) (alone_few few.side (open_rows options asked)) (omega (arith, front, least)) two.rows in
        (omega (arith, all));
  }

module _ (old now new : Outside) (left : FileScan) (join : JoinPart) (group : Option GroupAsked) (sink : SinkSpec) (options : RunOptions) (files : List (List ℕ)) (begun : Begun old (query_joined left join group sink) files now)
    (same_sizes : new.sizes ≡ now.sizes) (same_held : new.held ≡ now.held) (wide : 1 ≤ greatest_width (query_joined left join group sink))
    (before after : ℕ) where
  abbrev query : QueryParts
  query = query_joined left join group sink

  abbrev lefts_open : OpenScan
  lefts_open = left_open old left files

  abbrev rights_open : OpenScan
  rights_open = right_open old left join files

  -- the left side was kept, or the right one
  abbrev pub SweepsFewSides : Bool → Type 0
  SweepsFewSides true = SweepsFewRows options now lefts_open rights_open before after
  SweepsFewSides false = SweepsFewRows options now rights_open lefts_open before after

  module _ (fit : SidesFit left join) where
    two_sources : 2 ≤ length (sources_of query)
    two_sources = let a = length-append left.sources (join.right.sources ++ []) in let b = length-append join.right.sources [] in let one = fit.left_some in let two = fit.right_some in omega (arith, a, b, one, two)

    left_side : IsOfQuery old now query files lefts_open
    left_side = left_is old now left join group sink files fit begun

    right_side : IsOfQuery old now query files rights_open
    right_side = right_is old now left join group sink files fit begun

    -- how many bytes both have
    all_bytes : (told : List (List ℕ)) → HasOpened old query told new
        → sum_by (λ n. n) (sizes_in now.sizes (numbers_of lefts_open)) + sum_by (λ n. n) (sizes_in now.sizes (numbers_of rights_open)) ≡ sum_by length told
    all_bytes told has =
        let same : map length told ≡ map length files = append_cancel_left old.sizes (map length told) (map length files) (sym has.sizes ∙ same_sizes ∙ begun.sizes) in
        let one = ap (sum_by (λ n. n)) left_side.sizes ∙ sum_lengths (left_files left files) in
        let two = ap (sum_by (λ n. n)) right_side.sizes ∙ sum_lengths (right_files left files) in
        let sum = ap (sum_by length) (sym (take-append-drop (length left.sources) files)) ∙ sum_by-append length (left_files left files) (right_files left files) in
        let all = sym (sum_lengths told) ∙ ap (sum_by (λ n. n)) same ∙ sum_lengths files in
        omega (arith, one, two, sum, all)

    -- a run that kept one of the sides
    of_sides : (kept asked : OpenScan) → SweepsFewRows options now kept asked before after → (told : List (List ℕ)) (product most others : ℕ)
        → sum_by (λ n. n) (sizes_in now.sizes (numbers_of kept)) + sum_by (λ n. n) (sizes_in now.sizes (numbers_of asked)) ≡ sum_by length told
        → (most + 1) * (others + 1) ≡ product → (TellsBytes now × HasFewRows options kept most × HasFewRows options asked others) ⊎ (2 ^ 64 ≤ product)
        → after ≤ before + 1024 * (options.workers + sum_by length told + length (sources_of query) + product) * (greatest_width query + 1)
    of_sides kept asked s told product most others bytes is fewer =
        let sweeps = s.few in
        within_bound options.workers (sum_by length told) (length (sources_of query)) product (greatest_width query) before after s.rows
        (let enough : after ≤ before + 1024 * (sum_by length told + 4) + 512 * s.rows = omega (arith, sweeps, bytes) in enough) (by fewer) two_sources wide
      where
        by : (TellsBytes now × HasFewRows options kept most × HasFewRows options asked others) ⊎ (2 ^ 64 ≤ product) → s.rows + 1 ≤ product * 2
        by (inl (tells, one, two)) = subst (λ (n : ℕ). s.rows + 1 ≤ n * 2) is (s.within tells most others one two)
        by (inr big) = s.small product big

    -- in either order
    of_either : (is_left : Bool) → SweepsFewSides is_left → (told : List (List ℕ)) (lefts rights : ℕ) → HasOpened old query told new
        → (TellsBytes now × HasFewRows options lefts_open lefts × HasFewRows options rights_open rights) ⊎ (2 ^ 64 ≤ (lefts + 1) * (rights + 1))
        → after ≤ before + 1024 * (options.workers + sum_by length told + length (sources_of query) + (lefts + 1) * (rights + 1)) * (greatest_width query + 1)
    of_either true s told lefts rights has fewer = of_sides lefts_open rights_open s told ((lefts + 1) * (rights + 1)) lefts rights (all_bytes told has) refl fewer
    of_either false s told lefts rights has fewer =
        of_sides rights_open lefts_open s told ((lefts + 1) * (rights + 1)) rights lefts (let sum = all_bytes told has in omega (arith, sum)) (mul_comm (rights + 1) (lefts + 1)) (swapped fewer)
      where
        swapped : (TellsBytes now × HasFewRows options lefts_open lefts × HasFewRows options rights_open rights) ⊎ (2 ^ 64 ≤ (lefts + 1) * (rights + 1))
            → (TellsBytes now × HasFewRows options rights_open rights × HasFewRows options lefts_open lefts) ⊎ (2 ^ 64 ≤ (lefts + 1) * (rights + 1))
        swapped (inl (tells, one, two)) = inl (tells, two, one)
        swapped (inr big) = inr big

    -- the rows that both are taken for are enough
    enough_rows : (held : Option (List (List ℕ))) (told : List (List ℕ)) (lefts rights : ℕ) → new.held ≡ held → HasOpened old query told new → HaveJoinedRows held left join told lefts rights
        → (TellsBytes now × HasFewRows options lefts_open lefts × HasFewRows options rights_open rights) ⊎ (2 ^ 64 ≤ (lefts + 1) * (rights + 1))
    enough_rows None told lefts rights is has (all, others) =
        inr (let product = mul-le 4294967296 4294967296 (lefts + 1) (rights + 1) (omega (arith, all)) (omega (arith, others)) in omega (arith, product))
    enough_rows (Some bytes) told lefts rights is has (first, second) =
        let same : files ≡ told = sym (told_same new.held old.held files told bytes is (same_held ∙ begun.held) has.held) in inl (
          (bytes, sym same_held ∙ is),
          subst (λ (xs : List (List ℕ)). HasFewRows options (left_open old left xs) lefts) (sym same) (few_rows options (left_open old left told) lefts fit.left_fit first),
          subst (λ (xs : List (List ℕ)). HasFewRows options (right_open old left join xs) rights) (sym same) (few_rows options (right_open old left join told) rights fit.right_fit second),
        )

    pub swept_few : (is_left : Bool) → SweepsFewSides is_left → SweepsWithin old query options before new after
    swept_few is_left s told lefts rights has rows = of_either is_left s told lefts rights has (enough_rows new.held told lefts rights refl has rows)

  -- none was made
  pub swept_none : after ≡ before → SweepsWithin old query options before new after
  swept_none none told lefts rights has rows =
      subst (λ (n : ℕ). n ≤ before + sweep_bound options.workers (sum_by length told) (length (sources_of query)) lefts rights (greatest_width query)) (sym none)
      (at_most before (sweep_bound options.workers (sum_by length told) (length (sources_of query)) lefts rights (greatest_width query)))

  pub swept_joined : (rules : JoinRules) → JoinFit left join group sink rules
      → SweepsFiles now left join.right (file_numbers (length old.sizes) (length (left_files left files))) (file_numbers (length old.sizes + length left.sources) (length (right_files left files))) rules options before after
      → SweepsWithin old query options before new after
  swept_joined rules fit (inl none) = swept_none none
  swept_joined rules fit (inr (left_fit, right_fit, s)) = swept_few sides_fit (keeps_left rules.how rules.maintain_order) (by (keeps_left rules.how rules.maintain_order) s)
    where
      sides_fit : SidesFit left join
      sides_fit = fit_sides left join group sink rules fit left_fit right_fit

      by : (is_left : Bool) → SweepsSides is_left (join_scan options lefts_open) (join_scan options rights_open) now before after → SweepsFewSides is_left
      by true s = few_of_join old now query options files lefts_open rights_open (left_side sides_fit) (right_side sides_fit) before after s
      by false s = few_of_join old now query options files rights_open lefts_open (right_side sides_fit) (left_side sides_fit) before after s
