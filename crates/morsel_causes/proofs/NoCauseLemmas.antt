-- Files of which a scan has a meaning have no cause of a fault, but that of too many rows.
use Rattle.std.proofs.Common.{◌≡◌, ℕ, ◌+◌, ◌<◌, ◌≤◌, ap, sym, subst, refl, ◌∙◌, inl, inr, arith}
use Rattle.std.specs.Prelude.{Bool, true, false, nat_le, if◌then◌else◌, Option, Some, None, Result, Ok, Err, List, [], ◌∷◌, ◌++◌, length, slice_get}
use Rattle.std.specs.Str.{is_utf8}
use Rattle.std.proofs.lemmas.Bool.Decides.{nat_tests}
use Rattle.morsel_meaning.specs.declared.value.ColType.{ColType}
use Rattle.morsel_meaning.specs.declared.fault.Fault.{Fault}
use Rattle.morsel_meaning.specs.declared.fault.Fault.TheVariants as faults
use Rattle.morsel_meaning.specs.declared.fault.ComputeKind.TheVariants as kinds
use Rattle.morsel_meaning.specs.Values.{Row, kinds_of}
use Rattle.morsel_grammar.specs.Dialect.{Dialect, IsDialect}
use Rattle.morsel_grammar.specs.Grammar.{CsvRecord, IsRecord}
use Rattle.morsel_grammar.specs.Cells.{CsvCell}
use Rattle.morsel_grammar.specs.Rows.{RowOf, NoRow, IsRow, Misfit, row_of, behind_header, with_first_row, rows_of_records, unmarked, IsOfGrammar}
use Rattle.morsel_grammar.specs.Reading.{Malformed, NotUtf8, used_values}
use Rattle.morsel_grammar.specs.GrammarRows.{awaits_header_after, HasFlaw, HasOtherWidth}
use Rattle.morsel_grammar.proofs.FileLemmas.{reads_files}
use Rattle.morsel_grammar.proofs.FirstRecordLemmas.{record_taken}
use Rattle.morsel_grammar.proofs.OneEndLemmas.{row_of-other}
use Rattle.morsel_cut.specs.RowCounts.{row_count}
use Rattle.morsel_scan.specs.declared.spec.RowIndex.{RowIndex}
use Rattle.morsel_scan.specs.Scans.{CsvScan}
use Rattle.morsel_scan.specs.ScanColumns.{used_columns}
use Rattle.morsel_scan.specs.ScanRows.{Placed, index_fits, row_of_values, scanned, total_rows}
use Rattle.morsel_scan.specs.CsvScans.{csv_sources, csv_scan_rows}
use Rattle.morsel_scan.specs.CsvAxis.{PartStart, rows_made, record_gives, part_gives, csv_keeps}
use Rattle.morsel_scan.proofs.HeaderLemmas.{behind_header-append}
use Rattle.morsel_scan.proofs.PartLemmas.{start_at}
use Rattle.morsel_scan.proofs.AxisLemmas.{Maker}
use Rattle.morsel_scan.proofs.AxisFileLemmas.{file_start, file_reading, collected-files, made_sources-scanned}
use Rattle.morsel_query.specs.CsvCauses.{records_in, BeginsRest, position_at, HasFlawAt, CsvCause}
use Rattle.morsel_causes.specs.FileFaults.{FilesWithRowsHaveNoCause}
use Rattle.morsel_causes.proofs.RecordsInLemmas.{records_in-all, records_in-record, records_in-whole}
use Rattle.morsel_causes.proofs.ValidLemmas.{none_refused, stops_nowhere, all_utf8, not_compressed, rows_read}
use Rattle.morsel_causes.proofs.ReachLemmas.{file_gives, record_gives_rows}

no_first : (row : RowOf) → with_first_row row None ≡ None
no_first NoRow = refl
no_first (IsRow cells) = refl
no_first Misfit = refl

-- records of which one does not fit the columns have no rows
misfit_among : (o : Dialect) (types : List ColType) (front : List CsvRecord) (r : CsvRecord) (back : List CsvRecord) → row_of o types r ≡ Misfit → rows_of_records o types (front ++ r ∷ back) ≡ None
misfit_among o types [] r back misfit = ap (λ (row : RowOf). with_first_row row (rows_of_records o types back)) misfit
misfit_among o types (x ∷ front) r back misfit = ap (with_first_row (row_of o types x)) (misfit_among o types front r back misfit) ∙ no_first (row_of o types x)

-- a file of the grammar has no record of another width
no_misfit : (s : CsvScan) (first : ℕ) (files : List (List ℕ)) (file at : ℕ) (records : List CsvRecord) (rest : List ℕ) (begins : BeginsRest s first files file at records rest)
    (r : CsvRecord) (next : List ℕ) → IsDialect s.options → IsOfGrammar s.options (kinds_of s.scan.fields) begins.bytes → IsRecord s.options r rest next
    → awaits_header_after s.options.has_header records ≡ false → HasOtherWidth (kinds_of s.scan.fields) r → ⊥
no_misfit s first files file at records rest begins r next fit (utf8, rows, (all, split, rows_are)) is behind other =
    let o : Dialect = s.options in
    let types : List ColType = kinds_of s.scan.fields in
    let taken = record_taken o r rest next fit is begins.some in
    let more : List CsvRecord = records_in o next in
    let same : all ≡ records ++ r ∷ more =
    sym (records_in-all o (unmarked begins.bytes) all fit split) ∙ ap (records_in o) begins.split ∙ records_in-whole o begins.front rest records fit begins.whole
    ∙ ap (λ (x : List CsvRecord). records ++ x) (records_in-record o r rest next taken.0 fit taken.1) in
    let after : behind_header o.has_header all ≡ behind_header o.has_header records ++ r ∷ more =
    ap (behind_header o.has_header) same ∙ behind_header-append o.has_header records (r ∷ more)
    ∙ ap (λ (head : Bool). behind_header o.has_header records ++ behind_header head (r ∷ more)) behind in
    let none : rows_of_records o types (behind_header o.has_header all) ≡ None =
    ap (rows_of_records o types) after ∙ misfit_among o types (behind_header o.has_header records) r more (row_of-other o types r other) in
    cc

made_ok : (made : Result (Option Row) Fault) (rows : List Row) → rows_made made ≡ Ok rows → (answer : Option Row) × (made ≡ Ok answer)
made_ok (Ok answer) rows is = (answer, refl)
made_ok (Err fault) rows is = absurd (cc)

-- what is made of a row that the slice keeps, where it is no fault: each used cell is good, and its number fits
row_sound : (s : CsvScan) (keeps : ℕ → Bool) (row : Placed) (answer : Option Row) → keeps row.position ≡ true → scanned s.scan keeps row ≡ Ok answer
    → (used_values (used_columns s.scan) row.cells ≡ None → ⊥) × (index_fits s.scan.asked.row_index row.position ≡ true)
row_sound s keeps row answer kept is =
    let here : row_of_values s.scan row (used_values (used_columns s.scan) row.cells) ≡ Ok answer =
    sym (ap (λ (t : Bool). if t then row_of_values s.scan row (used_values (used_columns s.scan) row.cells) else Ok None) kept) ∙ is in
    by (used_values (used_columns s.scan) row.cells) here
  where
    fits : (t : Bool) (made : Option Row) → (if t then Ok made else Err (faults.ComputeError kinds.IndexTooLarge 4294967295 0)) ≡ Ok answer → t ≡ true
    fits true made is = refl
    fits false made is = absurd (cc)

    by : (values : Option Row) → row_of_values s.scan row values ≡ Ok answer → (values ≡ None → ⊥) × (index_fits s.scan.asked.row_index row.position ≡ true)
    by None is = absurd (cc)
    by (Some values) is = (λ none. cc, fits (index_fits s.scan.asked.row_index row.position) _ is)

-- a record after the header that is a row, where what it gives is no fault
row_given : (s : CsvScan) (make : Maker) (here : PartStart) (bytes : List ℕ) (r : CsvRecord) (cells : List CsvCell) (rows : List Row) → here.awaits_header ≡ false
    → row_of s.options (kinds_of s.scan.fields) r ≡ IsRow cells → part_gives s make here bytes (Some r) ≡ Ok rows
    → (answer : Option Row) × (make (record { position = here.position; file = here.file; source = here.name; at = here.at; cells = cells }) ≡ Ok answer)
row_given s make here bytes r cells rows behind row is =
    let types : List ColType = kinds_of s.scan.fields in
    let none : Result (List Row) Fault = Err (faults.ComputeError kinds.NotUtf8 here.file here.at) in
    let one : (if is_utf8 bytes then (if false then Ok [] else record_gives make here (row_of s.options types r)) else none) ≡ Ok rows =
    sym (ap (λ (head : Bool). if is_utf8 bytes then (if head then Ok [] else record_gives make here (row_of s.options types r)) else none) behind) ∙ is in
    let two : (if is_utf8 bytes then record_gives make here (IsRow cells) else none) ≡ Ok rows =
    sym (ap (λ (found : RowOf). if is_utf8 bytes then record_gives make here found else none) row) ∙ one in
    by (is_utf8 bytes) two
  where
    by : (t : Bool) → (if t then record_gives make here (IsRow cells) else Err (faults.ComputeError kinds.NotUtf8 here.file here.at)) ≡ Ok rows
        → (answer : Option Row) × (make (record { position = here.position; file = here.file; source = here.name; at = here.at; cells = cells }) ≡ Ok answer)
    by true is = made_ok (make (record { position = here.position; file = here.file; source = here.name; at = here.at; cells = cells })) rows is
    by false is = absurd (cc)

holds_at : (test : ℕ → Bool) (a b : ℕ) → a ≡ b → test a ≡ true → test b ≡ true
holds_at test a b same held = sym (ap test same) ∙ held

holds_back : (test : ℕ → Bool) (a b : ℕ) → a ≡ b → test b ≡ true → test a ≡ true
holds_back test a b same held = ap test same ∙ held

-- in files of which a scan has a meaning, a row that the slice keeps has good cells where they are used, and a number that fits
kept_sound : (s : CsvScan) (first : ℕ) (names files : List (List ℕ)) (all : List Row) (file at : ℕ) (records : List CsvRecord) (rest : List ℕ) (begins : BeginsRest s first files file at records rest)
    (r : CsvRecord) (next : List ℕ) (cells : List CsvCell) → IsDialect s.options → length names ≡ length files → csv_scan_rows s first names files ≡ Ok all
    → IsRecord s.options r rest next → awaits_header_after s.options.has_header records ≡ false → row_of s.options (kinds_of s.scan.fields) r ≡ IsRow cells
    → csv_keeps s first names files (position_at s first files file at records rest begins) ≡ true
    → (used_values (used_columns s.scan) cells ≡ None → ⊥) × (index_fits s.scan.asked.row_index (position_at s first files file at records rest begins) ≡ true)
kept_sound s first names files all file at records rest begins r next cells fit same means is behind row kept =
    let o : Dialect = s.options in
    let keeps : ℕ → Bool = csv_keeps s first names files in
    let make : Maker = scanned s.scan keeps in
    let position : ℕ = position_at s first files file at records rest begins in
    let gives = file_gives s make first 0 names files all same
    (collected-files s make first 0 names files fit ∙ made_sources-scanned s.scan keeps 0 (csv_sources s first names files) ∙ means) begins.source begins.bytes begins.is_source in
    let start : PartStart = file_start s gives.file gives.name gives.begins begins.bytes in
    let taken = record_taken o r rest next fit is begins.some in
    let given = record_gives_rows s make start (unmarked begins.bytes) begins.front rest records r next taken.0 gives.rows fit begins.split begins.whole taken.1 gives.is in
    let here : PartStart = start_at start (length begins.front) (row_count (length s.scan.fields) (behind_header start.awaits_header records)) (awaits_header_after start.awaits_header records) in
    let made = row_given s make here taken.0 r cells given.0 behind row given.1 in
    let place = gives.position_is in
    let there : here.position ≡ position = omega (arith, place) in
    let sound = row_sound s keeps (record { position = here.position; file = here.file; source = here.name; at = here.at; cells = cells }) made.0 (holds_back keeps here.position position there kept) made.1 in
    (sound.0, holds_at (index_fits s.scan.asked.row_index) here.position position there sound.1)

small_index : (n : ℕ) → nat_le n 4294967295 ≡ true → n ≤ 4294967295
small_index n is = grind (arith, nat_tests)

index_small : (asked : Option RowIndex) (index : RowIndex) (position : ℕ) → asked ≡ Some index → index_fits asked position ≡ true → index.offset + position + 1 ≤ 4294967295
index_small None index position is fits = absurd (cc)
index_small (Some found) index position is fits =
    let same : found ≡ index = cc in
    let small = small_index (found.offset + position + 1) fits in subst (λ (x : RowIndex). x.offset + position + 1 ≤ 4294967295) same small

-- of no file a record is refused
abbrev NoneRefused : CsvScan → List (List ℕ) → Type 0
NoneRefused s files = (source : ℕ) (bytes : List ℕ) → slice_get files source ≡ Some bytes → (file_reading s bytes).refusal ≡ None

none_malformed : (s : CsvScan) (first : ℕ) (files : List (List ℕ)) (file at : ℕ) → IsDialect s.options → NoneRefused s files → HasFlawAt s first files Malformed file at → ⊥
none_malformed s first files file at fit none has = by has.flawed
  where
    by : HasFlaw s.options (kinds_of s.scan.fields) (used_columns s.scan) (awaits_header_after s.options.has_header has.records) has.rest Malformed → ⊥
    by (inl refused) =
        let begins = has.begins in
        stops_nowhere s begins.bytes at fit (none begins.source begins.bytes begins.is_source)
        (record { front = begins.front; records = has.records; rest = has.rest; split = begins.split; whole = begins.whole; place_is = begins.place; refused = refused })
    by (inr (r, next, is, behind, other)) =
        let begins = has.begins in
        let of_grammar = (reads_files s.options fit (kinds_of s.scan.fields) begins.bytes).1 (none begins.source begins.bytes begins.is_source) in
        no_misfit s first files file at has.records has.rest begins r next fit of_grammar is behind other

none_not_utf8 : (s : CsvScan) (first : ℕ) (files : List (List ℕ)) (file at : ℕ) → IsDialect s.options → NoneRefused s files → HasFlawAt s first files NotUtf8 file at → ⊥
none_not_utf8 s first files file at fit none has =
    let begins = has.begins in
    let flaw = has.flawed in
    let P : List ℕ → Type 0 = λ x. IsRecord s.options flaw.0 x flaw.2 in
    all_utf8 s begins.bytes at fit (none begins.source begins.bytes begins.is_source) (record {
      front = begins.front;
      records = has.records;
      bytes = flaw.1;
      rest = flaw.2;
      split = begins.split ∙ ap (λ (x : List ℕ). begins.front ++ x) flaw.4;
      whole = begins.whole;
      place_is = begins.place;
      first = flaw.0;
      is = subst P flaw.4 flaw.3;
      not_utf8 = flaw.5;
    })

abbrev HasTooMany : CsvScan → ℕ → List (List ℕ) → List (List ℕ) → Fault → Type 0
HasTooMany s first names files fault = (fault ≡ faults.ComputeError kinds.TooManyRows 4294967295 0) × (4294967295 < total_rows (csv_sources s first names files))

only_too_many : (s : CsvScan) (first : ℕ) (names files : List (List ℕ)) (rows : List Row) (fault : Fault) → IsDialect s.options → length names ≡ length files
    → csv_scan_rows s first names files ≡ Ok rows → NoneRefused s files → CsvCause s first names files fault → HasTooMany s first names files fault
only_too_many s first names files rows (faults.Malformed file at) fit same means none cause = absurd (none_malformed s first files file at fit none cause)
only_too_many s first names files rows (faults.Unsupported file code) fit same means none (source, number, bytes, at, compressed) =
    absurd (not_compressed bytes code ((reads_files s.options fit (kinds_of s.scan.fields) bytes).1 (none source bytes at)).0 compressed)
only_too_many s first names files rows (faults.ComputeError kinds.NotUtf8 file at) fit same means none cause = absurd (none_not_utf8 s first files file at fit none cause)
only_too_many s first names files rows (faults.ComputeError kinds.IllTyped file at) fit same means none cause =
    let has = cause.flawed in
    let flaw = has.flawed in
    absurd ((kept_sound s first names files rows file at has.records has.rest has.begins flaw.0 flaw.1 flaw.4.0 fit same means flaw.2 flaw.3 flaw.4.1 cause.kept).0 flaw.4.2)
only_too_many s first names files rows (faults.ComputeError kinds.TooManyRows file at) fit same means none (number, place, more) =
    let all = rows_read s first names files fit same none in
    (ap (λ (n : ℕ). faults.ComputeError kinds.TooManyRows n at) number ∙ ap (λ (n : ℕ). faults.ComputeError kinds.TooManyRows 4294967295 n) place, omega (arith, more, all))
only_too_many s first names files rows (faults.ComputeError kinds.IndexTooLarge file at) fit same means none (number, place, has) =
    let row = has.row in
    let there = position_at s first files row.file row.at row.records row.rest row.begins in
    let kept = holds_at (csv_keeps s first names files) has.position there row.position_is row.kept in
    let sound = (kept_sound s first names files rows row.file row.at row.records row.rest row.begins row.found row.after row.cells fit same means row.is_record row.behind row.is_row kept).1 in
    let fits = holds_at (index_fits s.scan.asked.row_index) there has.position (sym row.position_is) sound in
    let small = index_small s.scan.asked.row_index has.index has.position has.asked fits in
    let large = has.large in absurd (omega (arith, small, large))
only_too_many s first names files rows fault fit same means none cause = absurd cause

pub no_cause : FilesWithRowsHaveNoCause
no_cause = λ s first names files rows fault fit same means cause.
    only_too_many s first names files rows fault fit same means (none_refused s (csv_keeps s first names files) first 0 names files rows same means) cause
