-- Each fault of files has its cause in them.
use Rattle.std.proofs.Common.{◌≡◌, ◌≢◌, ℕ, ◌+◌, ◌<◌, ◌≤◌, ap, sym, subst, refl, ◌∙◌, inl, inr, arith, cond}
use Rattle.std.specs.Prelude.{Bool, true, false, nat_le, ◌&&◌, if◌then◌else◌, Option, Some, None, Result, Ok, Err, List, [], ◌∷◌, ◌++◌, length, take, IsUtf8}
use Rattle.std.specs.Str.{is_utf8}
use Rattle.std.proofs.lemmas.Bool.Decides.{nat_tests}
use Rattle.std.proofs.lemmas.List.{length-map}
use Rattle.std.proofs.lemmas.List.Sums.{sum_by-cons}
use Rattle.std.proofs.lemmas.Str.{is_utf8-from_IsUtf8, IsUtf8-nil}
use Rattle.morsel_meaning.specs.declared.value.Field.{Field}
use Rattle.morsel_meaning.specs.declared.fault.Fault.{Fault}
use Rattle.morsel_meaning.specs.declared.fault.Fault.TheVariants as faults
use Rattle.morsel_meaning.specs.declared.fault.ComputeKind.TheVariants as kinds
use Rattle.morsel_meaning.specs.Values.{Row, kinds_of}
use Rattle.morsel_grammar.specs.Dialect.{Dialect, IsDialect}
use Rattle.morsel_grammar.specs.Grammar.{CsvRecord, IsRecord}
use Rattle.morsel_grammar.specs.Cells.{CsvCell}
use Rattle.morsel_grammar.specs.Rows.{RowOf, NoRow, IsRow, Misfit, row_of, behind_header, unmarked}
use Rattle.morsel_grammar.specs.Reading.{used_values}
use Rattle.morsel_grammar.specs.GrammarRows.{awaits_header_after, BeginsNoRecord}
use Rattle.morsel_grammar.proofs.ByteLemmas.{true_not_false}
use Rattle.morsel_grammar.proofs.RecordLemmas.{reads_by_grammar, refuses_by_grammar}
use Rattle.morsel_grammar.proofs.FirstRecordLemmas.{IsTaken, misfit_width}
use Rattle.morsel_grammar.proofs.FirstEndLemmas.{start, reads_to_first_end}
use Rattle.morsel_grammar.proofs.MarkCutLemmas.{may_end}
use Rattle.morsel_cut.specs.RowCounts.{is_row, row_count}
use Rattle.morsel_cut.proofs.CountLemmas.{Agrees, record_agrees}
use Rattle.morsel_scan.specs.declared.spec.RowIndex.{RowIndex}
use Rattle.morsel_scan.specs.Scans.{CsvScan}
use Rattle.morsel_scan.specs.ScanColumns.{used_columns}
use Rattle.morsel_scan.specs.ScanRows.{Placed, index_fits, row_of_values, scanned}
use Rattle.morsel_scan.specs.CsvScans.{csv_sources}
use Rattle.morsel_scan.specs.StretchRows.{collected, HasFaultWithin}
use Rattle.morsel_scan.specs.CsvAxis.{PartStart, scanned_within, rows_made, record_gives, part_gives, files_axis, gives_of, csv_keeps, csv_axis}
use Rattle.morsel_scan.proofs.StretchLemmas.{Places, gives_faults}
use Rattle.morsel_scan.proofs.AxisLemmas.{Maker}
use Rattle.morsel_scan.proofs.AxisFileLemmas.{collected-files, made_sources-scanned}
use Rattle.morsel_read.specs.PieceReads.{IsPiecesFault}
use Rattle.morsel_drive.specs.Lines.{IsDue}
use Rattle.morsel_query.specs.CsvCauses.{records_in, rows_among, rows_in_all, BeginsRest, position_at, HasLargeIndex, CsvCause}
use Rattle.morsel_causes.specs.FileFaults.{TellsOfQuery, EachFaultHasItsCause, FilesWithoutRowsHaveCause}
use Rattle.morsel_causes.proofs.RecordsInLemmas.{records_in-record, records_in-whole, rows_among-append, rows_up_to, more_rows}
use Rattle.morsel_causes.proofs.ValidLemmas.{due_either}
use Rattle.morsel_causes.proofs.BeginLemmas.{BeginsFault, FaultInFiles, fault_in_files}

-- the row of a record is one of all
row_within : (s : CsvScan) (first : ℕ) (files : List (List ℕ)) (file at : ℕ) (records : List CsvRecord) (rest : List ℕ) (begins : BeginsRest s first files file at records rest)
    (r : CsvRecord) (next bytes : List ℕ) (cells : List CsvCell) → IsDialect s.options → IsTaken s.options r rest next bytes → row_of s.options (kinds_of s.scan.fields) r ≡ IsRow cells
    → awaits_header_after s.options.has_header records ≡ false → position_at s first files file at records rest begins < rows_in_all s files
row_within s first files file at records rest begins r next bytes cells fit taken row behind =
    let o : Dialect = s.options in
    let columns : ℕ = length s.scan.fields in
    let more : List CsvRecord = records_in o next in
    let P : ℕ → Type 0 = λ n. Agrees (row_of o (kinds_of s.scan.fields) r) (is_row n r) in
    let agrees : Agrees (row_of o (kinds_of s.scan.fields) r) (is_row columns r) = subst P (length-map s.scan.fields (λ (f : Field). f.kind)) (record_agrees o (kinds_of s.scan.fields) r) in
    let Q : RowOf → Type 0 = λ found. Agrees found (is_row columns r) in
    let counts : is_row columns r ≡ true = subst Q row agrees in
    let one : ◌≡◌ {A = ℕ} (cond (is_row columns r) 1 0) 1 = ap (λ (t : Bool). cond t 1 0) counts in
    let all : rows_among s (records_in o (unmarked begins.bytes)) ≡ rows_among s (records ++ r ∷ more) =
    ap (λ (x : List ℕ). rows_among s (records_in o x)) begins.split ∙ ap (rows_among s) (records_in-whole o begins.front rest records fit begins.whole)
    ∙ ap (λ (x : List CsvRecord). rows_among s (records ++ x)) (records_in-record o r rest next bytes fit taken) in
    let parts = rows_among-append s records (r ∷ more) in
    let later : row_count columns (behind_header (awaits_header_after o.has_header records) (r ∷ more)) ≡ row_count columns (r ∷ more) = ap (λ (head : Bool). row_count columns (behind_header head (r ∷ more))) behind in
    let sum : row_count columns (r ∷ more) ≡ cond (is_row columns r) 1 0 + row_count columns more = sum_by-cons (λ (x : CsvRecord). cond (is_row columns x) 1 0) r more in
    let up = rows_up_to s files begins.source begins.bytes begins.is_source in
    omega (arith, one, all, parts, later, sum, up)

too_many : (n : ℕ) → nat_le 4294967295 n ≡ true → 4294967295 ≤ n
too_many n is = grind (arith, nat_tests)

too_large : (n : ℕ) → nat_le n 4294967295 ≡ false → 4294967295 < n
too_large n is = grind (arith, nat_tests)

made_fault : (made : Result (Option Row) Fault) (fault : Fault) → rows_made made ≡ Err fault → made ≡ Err fault
made_fault (Ok None) fault is = absurd (cc)
made_fault (Ok (Some row)) fault is = absurd (cc)
made_fault (Err first) fault is = cc

-- a record of the files, where what it gives is a fault
record RecordHere (s : CsvScan) (first : ℕ) (files : List (List ℕ)) : Type 0 where
  pub fit : IsDialect s.options
  pub here : PartStart
  pub records : List CsvRecord
  pub rest : List ℕ
  pub begins : BeginsRest s first files here.file here.at records rest
  pub position_is : here.position ≡ position_at s first files here.file here.at records rest begins
  pub header_is : here.awaits_header ≡ awaits_header_after s.options.has_header records
  pub found : CsvRecord
  pub next : List ℕ
  pub bytes : List ℕ
  pub taken : IsTaken s.options found rest next bytes

-- its row, with these cells
abbrev row_here : (s : CsvScan) (first : ℕ) (files : List (List ℕ)) → RecordHere s first files → List CsvCell → Placed
row_here s first files h cells = record { position = h.here.position; file = h.here.file; source = h.here.name; at = h.here.at; cells = cells }

index_cause : (s : CsvScan) (first : ℕ) (names files : List (List ℕ)) (h : RecordHere s first files) (cells : List CsvCell) → row_of s.options (kinds_of s.scan.fields) h.found ≡ IsRow cells
    → awaits_header_after s.options.has_header h.records ≡ false → csv_keeps s first names files h.here.position ≡ true
    → (asked : Option RowIndex) → s.scan.asked.row_index ≡ asked → index_fits asked h.here.position ≡ false → HasLargeIndex s first names files
index_cause s first names files h cells row behind kept None asked fits = absurd (cc)
index_cause s first names files h cells row behind kept (Some index) asked fits = record {
  index = index;
  asked = asked;
  position = h.here.position;
  row = record {
    file = h.here.file;
    at = h.here.at;
    records = h.records;
    rest = h.rest;
    begins = h.begins;
    behind = behind;
    found = h.found;
    after = h.next;
    is_record = h.taken.is;
    cells = cells;
    is_row = row;
    position_is = h.position_is;
    kept = kept;
  };
  large = too_large (index.offset + h.here.position + 1) fits;
}

-- each fault that is made of a row has its cause
abbrev MakesCaused : CsvScan → ℕ → List (List ℕ) → List (List ℕ) → Maker → Type 0
MakesCaused s first names files make = (h : RecordHere s first files) (cells : List CsvCell) (fault : Fault) → row_of s.options (kinds_of s.scan.fields) h.found ≡ IsRow cells
    → awaits_header_after s.options.has_header h.records ≡ false → make (row_here s first files h cells) ≡ Err fault → CsvCause s first names files fault

-- the cause of a fault of a row
scanned_cause : (s : CsvScan) (first : ℕ) (names files : List (List ℕ)) → MakesCaused s first names files (scanned s.scan (csv_keeps s first names files))
scanned_cause s first names files = λ h cells fault row behind is. by h cells fault row behind (csv_keeps s first names files h.here.position) refl is
  where
    by_index : (h : RecordHere s first files) (cells : List CsvCell) (fault : Fault) → row_of s.options (kinds_of s.scan.fields) h.found ≡ IsRow cells → awaits_header_after s.options.has_header h.records ≡ false
        → csv_keeps s first names files h.here.position ≡ true → (t : Bool) (answer : Option Row) → index_fits s.scan.asked.row_index h.here.position ≡ t
        → (if t then Ok answer else Err (faults.ComputeError kinds.IndexTooLarge 4294967295 0)) ≡ Err fault → CsvCause s first names files fault
    by_index h cells fault row behind kept true answer fits is = absurd (cc)
    by_index h cells fault row behind kept false answer fits is =
        let same : faults.ComputeError kinds.IndexTooLarge 4294967295 0 ≡ fault = cc in
        let P : Fault → Type 0 = λ fault. CsvCause s first names files fault in
        subst P same (refl, refl, index_cause s first names files h cells row behind kept s.scan.asked.row_index refl fits)

    by_values : (h : RecordHere s first files) (cells : List CsvCell) (fault : Fault) → row_of s.options (kinds_of s.scan.fields) h.found ≡ IsRow cells → awaits_header_after s.options.has_header h.records ≡ false
        → csv_keeps s first names files h.here.position ≡ true → (values : Option Row) → used_values (used_columns s.scan) cells ≡ values
        → row_of_values s.scan (row_here s first files h cells) values ≡ Err fault → CsvCause s first names files fault
    by_values h cells fault row behind kept None none is =
        let same : faults.ComputeError kinds.IllTyped h.here.file h.here.at ≡ fault = cc in
        let P : Fault → Type 0 = λ fault. CsvCause s first names files fault in
        subst P same (record {
          flawed = record { records = h.records; rest = h.rest; begins = h.begins; flawed = (h.found, h.next, h.taken.is, behind, (cells, row, none)) };
          kept = ap (csv_keeps s first names files) (sym h.position_is) ∙ kept;
        })
    by_values h cells fault row behind kept (Some values) some is = by_index h cells fault row behind kept (index_fits s.scan.asked.row_index h.here.position) _ refl is

    by : (h : RecordHere s first files) (cells : List CsvCell) (fault : Fault) → row_of s.options (kinds_of s.scan.fields) h.found ≡ IsRow cells → awaits_header_after s.options.has_header h.records ≡ false
        → (t : Bool) → csv_keeps s first names files h.here.position ≡ t
        → (if t then row_of_values s.scan (row_here s first files h cells) (used_values (used_columns s.scan) cells) else Ok None) ≡ Err fault → CsvCause s first names files fault
    by h cells fault row behind false kept is = absurd (cc)
    by h cells fault row behind true kept is = by_values h cells fault row behind kept (used_values (used_columns s.scan) cells) refl is

-- the same where too many rows are a fault
within_cause : (s : CsvScan) (first : ℕ) (names files : List (List ℕ)) → MakesCaused s first names files (scanned_within s.scan (csv_keeps s first names files))
within_cause s first names files = λ h cells fault row behind is. by h cells fault row behind (csv_keeps s first names files h.here.position) (nat_le 4294967295 h.here.position) refl is
  where
    by : (h : RecordHere s first files) (cells : List CsvCell) (fault : Fault) → row_of s.options (kinds_of s.scan.fields) h.found ≡ IsRow cells → awaits_header_after s.options.has_header h.records ≡ false
        → (k m : Bool) → nat_le 4294967295 h.here.position ≡ m
        → (if k && m then Err (faults.ComputeError kinds.TooManyRows 4294967295 0) else scanned s.scan (csv_keeps s first names files) (row_here s first files h cells)) ≡ Err fault → CsvCause s first names files fault
    by h cells fault row behind true true many is =
        let same : faults.ComputeError kinds.TooManyRows 4294967295 0 ≡ fault = cc in
        let P : Fault → Type 0 = λ fault. CsvCause s first names files fault in
        let within = row_within s first files h.here.file h.here.at h.records h.rest h.begins h.found h.next h.bytes cells h.fit h.taken row behind in
        let low = too_many h.here.position many in
        let place = h.position_is in
        subst P same (refl, refl, omega (arith, within, low, place))
    by h cells fault row behind true false few is = scanned_cause s first names files h cells fault row behind is
    by h cells fault row behind false m few is = scanned_cause s first names files h cells fault row behind is

-- the cause of a fault of a record
record_cause : (s : CsvScan) (first : ℕ) (names files : List (List ℕ)) (make : Maker) → MakesCaused s first names files make → (h : RecordHere s first files) (fault : Fault)
    → part_gives s make h.here h.bytes (Some h.found) ≡ Err fault → CsvCause s first names files fault
record_cause s first names files make causes h fault is = by (is_utf8 h.bytes) refl h.here.awaits_header refl (row_of s.options (kinds_of s.scan.fields) h.found) refl is
  where
    by : (t : Bool) → is_utf8 h.bytes ≡ t → (head : Bool) → h.here.awaits_header ≡ head → (row : RowOf) → row_of s.options (kinds_of s.scan.fields) h.found ≡ row
        → (if t then (if head then Ok [] else record_gives make h.here row) else Err (faults.ComputeError kinds.NotUtf8 h.here.file h.here.at)) ≡ Err fault
        → CsvCause s first names files fault
    by false not_utf8 head header row row_is is =
        let same : faults.ComputeError kinds.NotUtf8 h.here.file h.here.at ≡ fault = cc in
        let P : Fault → Type 0 = λ fault. CsvCause s first names files fault in
        subst P same (record {
          records = h.records;
          rest = h.rest;
          begins = h.begins;
          flawed = (h.found, h.bytes, h.next, h.taken.is, h.taken.split, λ utf8. true_not_false (is_utf8 h.bytes) (is_utf8-from_IsUtf8 h.bytes utf8) not_utf8);
        })
    by true utf8 true header row row_is is = absurd (cc)
    by true utf8 false header NoRow row_is is = absurd (cc)
    by true utf8 false header (IsRow cells) row_is is =
        causes h cells fault row_is (sym h.header_is ∙ header) (made_fault (make (row_here s first files h cells)) fault is)
    by true utf8 false header Misfit row_is is =
        let same : faults.Malformed h.here.file h.here.at ≡ fault = cc in
        let P : Fault → Type 0 = λ fault. CsvCause s first names files fault in
        subst P same (record {
          records = h.records;
          rest = h.rest;
          begins = h.begins;
          flawed = inr (h.found, h.next, h.taken.is, sym h.header_is ∙ header, misfit_width s.options (kinds_of s.scan.fields) h.found row_is);
        })

-- the cause of a fault of a place
place_cause : (s : CsvScan) (first : ℕ) (names files : List (List ℕ)) (make : Maker) (fault : Fault) → IsDialect s.options → MakesCaused s first names files make
    → FaultInFiles s make first 0 files fault → CsvCause s first names files fault
place_cause s first names files make fault fit causes f = by begins f.has.begins
  where
    begins : BeginsRest s first files f.has.here.file f.has.here.at f.has.records f.has.rest
    begins = record {
      source = f.source;
      number = f.has.file_is ∙ f.file_is;
      bytes = f.bytes;
      is_source = f.is_source;
      front = f.has.front;
      split = f.has.split;
      place = f.has.at_is ∙ ap (λ (n : ℕ). n + length f.has.front) f.at_is;
      whole = f.has.whole;
      some = f.has.some;
    }

    position : (begins : BeginsRest s first files f.has.here.file f.has.here.at f.has.records f.has.rest) → begins.source ≡ f.source
        → f.has.here.position ≡ position_at s first files f.has.here.file f.has.here.at f.has.records f.has.rest begins
    position begins source_is =
        let columns : ℕ = length s.scan.fields in
        let place = f.has.position_is in
        let start = f.position_is in
        let rows : row_count columns (behind_header f.start.awaits_header f.has.records) ≡ rows_among s f.has.records = ap (λ (head : Bool). row_count columns (behind_header head f.has.records)) f.header_is in
        let earlier : rows_in_all s (take begins.source files) ≡ rows_in_all s (take f.source files) = ap (λ (n : ℕ). rows_in_all s (take n files)) source_is in
        omega (arith, place, start, rows, earlier)

    by : BeginsRest s first files f.has.here.file f.has.here.at f.has.records f.has.rest → BeginsFault s make f.has.here f.has.rest fault → CsvCause s first names files fault
    by there (inl (none, is)) =
        let P : Fault → Type 0 = λ fault. CsvCause s first names files fault in
        subst P (sym is) (record { records = f.has.records; rest = f.has.rest; begins = there; flawed = inl ((refuses_by_grammar s.options fit f.has.rest).0 none) })
    by there (inr (r, next, bytes, taken, is)) = record_cause s first names files make causes (record {
      fit = fit;
      here = f.has.here;
      records = f.has.records;
      rest = f.has.rest;
      begins = begins;
      position_is = position begins refl;
      header_is = f.has.header_is ∙ ap (λ (head : Bool). awaits_header_after head f.has.records) f.header_is;
      found = r;
      next = next;
      bytes = bytes;
      taken = taken;
    }) fault is

-- where no record begins, there are bytes
some_record : (o : Dialect) (rest : List ℕ) → IsDialect o → BeginsNoRecord o rest → rest ≢ []
some_record o rest fit never = λ none.
    let found = reads_to_first_end o fit [] [] (inr (refl, refl, may_end (start o) tt)) in
    let P : List ℕ → Type 0 = λ x. IsRecord o found.0 x [] in
    never found.0 [] (subst P (sym none) ((reads_by_grammar o fit [] found.0 []).0 found.1))

some_bytes : (bytes rest : List ℕ) → (IsUtf8 bytes → ⊥) → bytes ++ rest ≢ []
some_bytes [] rest not_utf8 = absurd (not_utf8 IsUtf8-nil)
some_bytes (b ∷ bytes) rest not_utf8 = λ none. cc

-- the cause of a fault of the reader
reason_cause : (s : CsvScan) (first : ℕ) (names files : List (List ℕ)) (asked : ℕ) (fault : Fault) → IsDialect s.options → TellsOfQuery fault
    → IsPiecesFault s first files asked fault → IsDue (CsvCause s first names files) fault
reason_cause s first names files asked faults.OutOfMemory fit tells is = tt
reason_cause s first names files asked (faults.ReadFault file) fit tells is = tt
reason_cause s first names files asked faults.WriteFault fit tells is = tt
reason_cause s first names files asked (faults.Malformed number at) fit tells is =
    let stop = is.5.1 in
    record {
      records = stop.records;
      rest = stop.rest;
      begins = record {
        source = is.0;
        number = is.5.0;
        bytes = is.3;
        is_source = is.4;
        front = stop.front;
        split = stop.split;
        place = stop.place_is;
        whole = stop.whole;
        some = some_record s.options stop.rest fit stop.refused;
      };
      flawed = inl stop.refused;
    }
reason_cause s first names files asked (faults.Unsupported number code) fit tells is = (is.0, is.5.0, is.3, is.4, is.5.1)
reason_cause s first names files asked (faults.ComputeError kinds.NotUtf8 number at) fit tells is =
    let has = is.5.1 in
    record {
      records = has.records;
      rest = has.bytes ++ has.rest;
      begins = record {
        source = is.0;
        number = is.5.0;
        bytes = is.3;
        is_source = is.4;
        front = has.front;
        split = has.split;
        place = has.place_is;
        whole = has.whole;
        some = some_bytes has.bytes has.rest has.not_utf8;
      };
      flawed = (has.first, has.bytes, has.rest, has.is, refl, has.not_utf8);
    }
reason_cause s first names files asked (faults.ComputeError kinds.TooManyRows number at) fit tells is = (tells.0, tells.1, more_rows s files asked 4294967295 fit is)
reason_cause s first names files asked fault fit tells is = absurd is.5

-- what has its cause is due
cause_due : (s : CsvScan) (first : ℕ) (names files : List (List ℕ)) (fault : Fault) → CsvCause s first names files fault → IsDue (CsvCause s first names files) fault
cause_due s first names files faults.OutOfMemory cause = tt
cause_due s first names files (faults.ReadFault file) cause = tt
cause_due s first names files faults.WriteFault cause = tt
cause_due s first names files fault cause = cause

pub each_cause : EachFaultHasItsCause
each_cause = λ s first names files fault fit same tells due.
    due_either (λ fault. let gives = (csv_axis s first names files [] 0 (λ rows. [])).gives in HasFaultWithin gives 0 (length gives) fault) (λ fault. (asked : ℕ) × IsPiecesFault s first files asked fault)
    (CsvCause s first names files) fault
    (λ has. cause_due s first names files fault (place_cause s first names files (scanned_within s.scan (csv_keeps s first names files)) fault fit (within_cause s first names files)
    (fault_in_files s (scanned_within s.scan (csv_keeps s first names files)) fit first 0 names files fault has.0 has.3)))
    (λ reason. reason_cause s first names files reason.0 fault fit tells reason.1)
    due

pub scan_cause : FilesWithoutRowsHaveCause
scan_cause = λ s first names files fault fit is.
    let make : Maker = scanned s.scan (csv_keeps s first names files) in
    let places : Places = gives_of (files_axis s make first 0 names files) in
    let given : collected places ≡ Err fault =
    collected-files s make first 0 names files fit ∙ made_sources-scanned s.scan (csv_keeps s first names files) 0 (csv_sources s first names files) ∙ is in
    let has = gives_faults places fault given in
    place_cause s first names files make fault fit (scanned_cause s first names files) (fault_in_files s make fit first 0 names files fault has.0 has.3)
