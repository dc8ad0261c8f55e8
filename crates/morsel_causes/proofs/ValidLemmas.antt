-- Files of which a scan has a meaning: no record of them is refused.
use Rattle.std.proofs.Common.{◌≡◌, ◌≢◌, ℕ, zero, suc, ◌+◌, ◌<◌, ◌≤◌, ap, sym, subst, refl, ◌∙◌, inl, inr, arith, get_or}
use Rattle.std.specs.Prelude.{Bool, true, false, not, ◌⊎◌, ◌==◌, ◌&&◌, if◌then◌else◌, Option, Some, None, Result, Ok, Err, List, [], ◌∷◌, ◌++◌, length, slice_get, IsUtf8}
use Rattle.std.specs.Str.{is_utf8}
use Rattle.std.proofs.lemmas.List.{append_cancel_right}
use Rattle.std.proofs.lemmas.List.Sums.{sum_by-cons}
use Rattle.std.proofs.lemmas.Option.{slice_get-get_or}
use Rattle.std.proofs.lemmas.Str.{IsUtf8-from_is_utf8, IsUtf8-nil, lead_after_ascii}
use Rattle.morsel_meaning.specs.declared.value.ColType.{ColType}
use Rattle.morsel_meaning.specs.declared.fault.Fault.{Fault}
use Rattle.morsel_meaning.specs.declared.fault.Fault.TheVariants as faults
use Rattle.morsel_meaning.specs.declared.fault.ComputeKind.TheVariants as kinds
use Rattle.morsel_meaning.specs.Values.{Row, kinds_of}
use Rattle.morsel_grammar.specs.Dialect.{Dialect, IsDialect}
use Rattle.morsel_grammar.specs.Grammar.{CsvRecord}
use Rattle.morsel_grammar.specs.Rows.{is_header, row_of, mark_len, unmarked}
use Rattle.morsel_grammar.specs.Reading.{NotUtf8, Malformed, Refusal, Reading, reading, refuses, row_then, record_then}
use Rattle.morsel_grammar.specs.Results.{refusal_fault}
use Rattle.morsel_grammar.specs.Joined.{joined}
use Rattle.morsel_grammar.proofs.ByteLemmas.{same_byte}
use Rattle.morsel_grammar.proofs.FileLemmas.{reads_files}
use Rattle.morsel_grammar.proofs.FirstRecordLemmas.{IsTaken, record_taken}
use Rattle.morsel_grammar.proofs.JoinedLemmas.{reading-record, reading-joined}
use Rattle.morsel_cut.specs.Pieces.{StopsAtRecord}
use Rattle.morsel_cut.proofs.PieceReadLemmas.{reads_up_to_refused}
use Rattle.morsel_scan.specs.Scans.{CsvScan}
use Rattle.morsel_scan.specs.ScanRows.{placed, gathered, ended_by, scanned, SourceRows, scanned_source, scanned_sources, total_rows}
use Rattle.morsel_scan.specs.CsvScans.{csv_source, csv_sources, csv_scan_rows}
use Rattle.morsel_scan.specs.StretchRows.{collected, HasFaultWithin}
use Rattle.morsel_scan.specs.Blocks.{zstd_code, compression_code}
use Rattle.morsel_scan.specs.RowBlocks.{HasRecordNotUtf8}
use Rattle.morsel_scan.specs.CsvAxis.{text_parts, PartStart, text_axis, rows_counted, csv_keeps, csv_axis}
use Rattle.morsel_scan.proofs.StretchLemmas.{Places, followed_by-ok}
use Rattle.morsel_scan.proofs.AxisLemmas.{Maker, rows_counted-read}
use Rattle.morsel_scan.proofs.AxisFileLemmas.{file_start, file_reading, gives_scan}
use Rattle.morsel_read.specs.PieceReads.{IsPiecesFault}
use Rattle.morsel_drive.specs.Lines.{IsDue}
use Rattle.morsel_query.specs.CsvCauses.{records_in, rows_among, rows_in_all}
use Rattle.morsel_causes.specs.FileFaults.{ValidFilesHaveNoFault, FilesWithRowsAreOfGrammar}
use Rattle.morsel_causes.proofs.RecordsInLemmas.{rows_in_all-cons, rows_counted-in, more_rows}

ended_ok : (fault : Option Fault) (found : Result (List Row) Fault) (rows : List Row) → ended_by fault found ≡ Ok rows → fault ≡ None
ended_ok None found rows is = refl
ended_ok (Some fault) (Ok answers) rows is = absurd (cc)
ended_ok (Some fault) (Err first) rows is = absurd (cc)

refusal_none : (file : ℕ) (refusal : Option Refusal) → refusal_fault file refusal ≡ None → refusal ≡ None
refusal_none file None none = refl
refusal_none file (Some refusal) none = absurd (cc)

-- no record of these files is refused
pub none_refused : (s : CsvScan) (keeps : ℕ → Bool) (first position : ℕ) (names files : List (List ℕ)) (rows : List Row) → length names ≡ length files
    → scanned_sources s.scan keeps position (csv_sources s first names files) ≡ Ok rows → (source : ℕ) (bytes : List ℕ) → slice_get files source ≡ Some bytes → (file_reading s bytes).refusal ≡ None
none_refused s keeps first position names [] rows same is source bytes at = absurd (cc)
none_refused s keeps first position [] (here ∷ files) rows same is source bytes at = absurd (omega (arith, same))
none_refused s keeps first position (name ∷ names) (here ∷ files) rows same is zero bytes at =
    let one : SourceRows = csv_source s first name here in
    let parts = followed_by-ok (scanned_source s.scan keeps position one) (scanned_sources s.scan keeps (position + length one.rows) (csv_sources s (first + 1) names files)) rows is in
    let none : refusal_fault first (file_reading s here).refusal ≡ None =
    ended_ok (refusal_fault first (file_reading s here).refusal) (gathered (scanned s.scan keeps) (placed position first name one.rows)) parts.0 parts.2 in
    let file : here ≡ bytes = cc in
    subst (λ (x : List ℕ). (file_reading s x).refusal ≡ None) file (refusal_none first (file_reading s here).refusal none)
none_refused s keeps first position (name ∷ names) (here ∷ files) rows same is (suc n) bytes at =
    let one : SourceRows = csv_source s first name here in
    let parts = followed_by-ok (scanned_source s.scan keeps position one) (scanned_sources s.scan keeps (position + length one.rows) (csv_sources s (first + 1) names files)) rows is in
    none_refused s keeps (first + 1) (position + length one.rows) names files parts.1 (omega (arith, same)) parts.3 n bytes at

pub files_with_rows : FilesWithRowsAreOfGrammar
files_with_rows = λ s first names files rows fit same is k d less.
    (reads_files s.options fit (kinds_of s.scan.fields) (get_or files k d)).1
    (none_refused s (csv_keeps s first names files) first 0 names files rows same is k (get_or files k d) (slice_get-get_or files k d less))

-- where places give rows, none has a fault
no_fault_at : (places : Places) (rows : List Row) (n : ℕ) (fault : Fault) → collected places ≡ Ok rows → slice_get places n ≡ Some (Err fault) → ⊥
no_fault_at [] rows n fault is at = cc
no_fault_at (x ∷ places) rows zero fault is at =
    let parts = followed_by-ok x (collected places) rows is in
    let here : x ≡ Ok parts.0 = parts.2 in
    let there : x ≡ Err fault = cc in cc
no_fault_at (x ∷ places) rows (suc n) fault is at =
    let parts = followed_by-ok x (collected places) rows is in no_fault_at places parts.1 n fault parts.3 at

-- what is read first and then later is refused where the later is
refused_later : (first : Reading) (later : Bool → Reading) → ((head : Bool) → (later head).refusal ≡ None → ⊥) → (joined first later).refusal ≡ None → ⊥
refused_later first later refused none = by first.refusal refl none
  where
    by : (refusal : Option Refusal) → first.refusal ≡ refusal → (joined first later).refusal ≡ None → ⊥
    by None is none = refused first.head (subst (λ (x : Option Refusal). (joined (record first { refusal = x }) later).refusal ≡ None) is none)
    by (Some refusal) is none =
        let some = subst (λ (x : Option Refusal). (joined (record first { refusal = x }) later).refusal ≡ None) is none in cc

-- a file of which no record is refused does not stop at one that is none
pub stops_nowhere : (s : CsvScan) (bytes : List ℕ) (at : ℕ) → IsDialect s.options → (file_reading s bytes).refusal ≡ None → StopsAtRecord s.options bytes at → ⊥
stops_nowhere s bytes at fit none stop =
    let later : Bool → Reading = λ head. refuses head at Malformed in
    let first : Reading = reading s.options (kinds_of s.scan.fields) s.options.has_header (mark_len bytes) stop.front in
    let read : file_reading s bytes ≡ joined first later = reads_up_to_refused s.options fit (kinds_of s.scan.fields) s.options.has_header bytes at stop in
    refused_later first later (λ head is. cc) (sym (ap (λ (r : Reading). r.refusal) read) ∙ none)

not_held : (t : Bool) → (t ≡ true → ⊥) → t ≡ false
not_held true never = absurd (never refl)
not_held false never = refl

-- bytes that are not UTF-8 are refused
refused_bytes : (head : Bool) (at : ℕ) (bytes : List ℕ) (later : Reading) (t : Bool) → (IsUtf8 bytes → ⊥) → is_utf8 bytes ≡ t → (if t then later else refuses head at NotUtf8).refusal ≡ None → ⊥
refused_bytes head at bytes later true not_utf8 is none = not_utf8 (IsUtf8-from_is_utf8 bytes is)
refused_bytes head at bytes later false not_utf8 is none = cc

refused_taken : (o : Dialect) (types : List ColType) (head : Bool) (at : ℕ) (r : CsvRecord) (text next bytes : List ℕ) → IsDialect o → IsTaken o r text next bytes → (IsUtf8 bytes → ⊥)
    → (reading o types head at text).refusal ≡ None → ⊥
refused_taken o types head at r text next bytes fit taken not_utf8 none =
    let later : Bool → Reading = λ awaits_header. reading o types awaits_header (at + length bytes) next in
    let read : reading o types head at text ≡ record_then o types head at bytes r later = reading-record o types head at r text next bytes fit taken in
    refused_bytes head at bytes (if head then later (not (is_header r)) else row_then false at (row_of o types r) (later false)) (is_utf8 bytes) not_utf8 refl
    (sym (ap (λ (x : Reading). x.refusal) read) ∙ none)

some_bytes : (bytes rest : List ℕ) → (IsUtf8 bytes → ⊥) → bytes ++ rest ≢ []
some_bytes [] rest not_utf8 = absurd (not_utf8 IsUtf8-nil)
some_bytes (b ∷ bytes) rest not_utf8 = λ none. cc

-- a file of which no record is refused has none that is not UTF-8
pub all_utf8 : (s : CsvScan) (bytes : List ℕ) (place : ℕ) → IsDialect s.options → (file_reading s bytes).refusal ≡ None → HasRecordNotUtf8 s.options (mark_len bytes) (unmarked bytes) place → ⊥
all_utf8 s bytes place fit none has =
    let o : Dialect = s.options in
    let types : List ColType = kinds_of s.scan.fields in
    let text : List ℕ = has.bytes ++ has.rest in
    let taken = record_taken o has.first text has.rest fit has.is (some_bytes has.bytes has.rest has.not_utf8) in
    let same : has.bytes ≡ taken.0 = append_cancel_right has.bytes taken.0 has.rest taken.1.split in
    let not_utf8 : IsUtf8 taken.0 → ⊥ = subst (λ (x : List ℕ). IsUtf8 x → ⊥) same has.not_utf8 in
    let first : Reading = reading o types o.has_header (mark_len bytes) has.front in
    let later : Bool → Reading = λ head. reading o types head (mark_len bytes + length has.front) text in
    let read : file_reading s bytes ≡ joined first later = ap (reading o types o.has_header (mark_len bytes)) has.split ∙ reading-joined o types o.has_header (mark_len bytes) has.front text has.records fit has.whole in
    refused_later first later (λ head is. refused_taken o types head (mark_len bytes + length has.front) has.first text has.rest taken.0 fit taken.1 not_utf8 is) (sym (ap (λ (r : Reading). r.refusal) read) ∙ none)

-- no byte of two begins no text, where the first is ASCII and the second goes on with a character
begins_no_text : (a b : ℕ) (bytes : List ℕ) → a < 128 → 128 ≤ b → b < 192 → IsUtf8 (a ∷ b ∷ bytes) → ⊥
begins_no_text a b bytes ascii low high utf8 = let lead : 192 ≤ b = lead_after_ascii (a ∷ b ∷ bytes) 0 utf8 ascii (omega arith) low in omega arith

no_zstd : (bytes : List ℕ) (code : ℕ) → IsUtf8 bytes → zstd_code bytes ≡ Some code → ⊥
no_zstd [] code utf8 is = cc
no_zstd (a ∷ []) code utf8 is = cc
no_zstd (a ∷ b ∷ []) code utf8 is = cc
no_zstd (a ∷ b ∷ c ∷ []) code utf8 is = cc
no_zstd (a ∷ b ∷ c ∷ d ∷ bytes) code utf8 is = by (a == 40) (b == 181) refl refl is
  where
    by : (one two : Bool) → (a == 40) ≡ one → (b == 181) ≡ two → (if one && (two && (c == 47 && d == 253)) then Some 40 else None) ≡ Some code → ⊥
    by false two first second is = cc
    by true false first second is = cc
    by true true first second is = let x = same_byte a 40 first in let y = same_byte b 181 second in begins_no_text a b (c ∷ d ∷ bytes) (omega (arith, x)) (omega (arith, y)) (omega (arith, y)) utf8

-- a text that is UTF-8 is not compressed
pub not_compressed : (bytes : List ℕ) (code : ℕ) → IsUtf8 bytes → compression_code bytes ≡ Some code → ⊥
not_compressed [] code utf8 is = cc
not_compressed (a ∷ []) code utf8 is = cc
not_compressed (a ∷ b ∷ bytes) code utf8 is = by (a == 31) (b == 139) refl refl is
  where
    by : (one two : Bool) → (a == 31) ≡ one → (b == 139) ≡ two → (if one && two then Some 31 else zstd_code (a ∷ b ∷ bytes)) ≡ Some code → ⊥
    by false two first second is = no_zstd (a ∷ b ∷ bytes) code utf8 is
    by true false first second is = no_zstd (a ∷ b ∷ bytes) code utf8 is
    by true true first second is = let x = same_byte a 31 first in let y = same_byte b 139 second in begins_no_text a b bytes (omega (arith, x)) (omega (arith, y)) (omega (arith, y)) utf8

-- files of which no record is refused have as many rows as are read of them
pub rows_read : (s : CsvScan) (first : ℕ) (names files : List (List ℕ)) → IsDialect s.options → length names ≡ length files
    → ((source : ℕ) (bytes : List ℕ) → slice_get files source ≡ Some bytes → (file_reading s bytes).refusal ≡ None) → rows_in_all s files ≡ total_rows (csv_sources s first names files)
rows_read s first [] [] fit same none = refl
rows_read s first [] (bytes ∷ files) fit same none = absurd (omega (arith, same))
rows_read s first (name ∷ names) [] fit same none = absurd (omega (arith, same))
rows_read s first (name ∷ names) (bytes ∷ files) fit same none =
    let make : Maker = scanned s.scan (λ position. true) in
    let start : PartStart = file_start s first name 0 bytes in
    let counted : rows_counted (text_axis s make start (text_parts s.options (unmarked bytes))) ≡ rows_among s (records_in s.options (unmarked bytes)) = rows_counted-in s make start (text_parts s.options (unmarked bytes)) in
    let read = rows_counted-read s make start (unmarked bytes) fit (none 0 bytes refl) in
    let later = rows_read s (first + 1) names files fit (omega (arith, same)) (λ source more at. none (suc source) more at) in
    let all = rows_in_all-cons s bytes files in
    let sum = sum_by-cons (λ (source : SourceRows). length source.rows) (csv_source s first name bytes) (csv_sources s (first + 1) names files) in
    omega (arith, counted, read, later, all, sum)

-- files of which no record is refused, and that do not have too many rows, are no reason for a fault
no_reason : (s : CsvScan) (first : ℕ) (names files : List (List ℕ)) (asked : ℕ) (fault : Fault) → IsDialect s.options → length names ≡ length files
    → total_rows (csv_sources s first names files) ≤ 4294967295 → ((source : ℕ) (bytes : List ℕ) → slice_get files source ≡ Some bytes → (file_reading s bytes).refusal ≡ None)
    → IsPiecesFault s first files asked fault → IsDue (λ due. ⊥) fault
no_reason s first names files asked faults.OutOfMemory fit same few none is = tt
no_reason s first names files asked (faults.ReadFault file) fit same few none is = tt
no_reason s first names files asked faults.WriteFault fit same few none is = tt
no_reason s first names files asked (faults.Malformed number at) fit same few none is = stops_nowhere s is.3 at fit (none is.0 is.3 is.4) is.5.1
no_reason s first names files asked (faults.Unsupported number code) fit same few none is =
    not_compressed is.3 code ((reads_files s.options fit (kinds_of s.scan.fields) is.3).1 (none is.0 is.3 is.4)).0 is.5.1
no_reason s first names files asked (faults.ComputeError kinds.NotUtf8 number at) fit same few none is = all_utf8 s is.3 at fit (none is.0 is.3 is.4) is.5.1
no_reason s first names files asked (faults.ComputeError kinds.TooManyRows number at) fit same few none is =
    let more = more_rows s files asked 4294967295 fit is in
    let all = rows_read s first names files fit same none in omega (arith, more, all, few)
no_reason s first names files asked fault fit same few none is = absurd is.5

-- places that give rows have no fault
no_place : (s : CsvScan) (first : ℕ) (names files : List (List ℕ)) (rows : List Row) (fault : Fault) → IsDialect s.options
    → total_rows (csv_sources s first names files) ≤ 4294967295 → csv_scan_rows s first names files ≡ Ok rows
    → (let gives = (csv_axis s first names files [] 0 (λ rows. [])).gives in HasFaultWithin gives 0 (length gives) fault) → ⊥
no_place s first names files rows fault fit few is has =
    no_fault_at (csv_axis s first names files [] 0 (λ rows. [])).gives rows has.0 fault (gives_scan s fit first 0 names files [] (λ rows. []) few ∙ is) has.3

-- a fault that is due for one of two reasons
pub due_either : (P Q R : Fault → Type 0) (fault : Fault) → (P fault → IsDue R fault) → (Q fault → IsDue R fault) → IsDue (λ fault. P fault ⊎ Q fault) fault → IsDue R fault
due_either P Q R faults.OutOfMemory one two due = tt
due_either P Q R (faults.ReadFault file) one two due = tt
due_either P Q R faults.WriteFault one two due = tt
due_either P Q R fault one two (inl here) = one here
due_either P Q R fault one two (inr there) = two there

pub valid_files : ValidFilesHaveNoFault
valid_files = λ s first names files rows fault fit same few is due.
    due_either (λ fault. let gives = (csv_axis s first names files [] 0 (λ rows. [])).gives in HasFaultWithin gives 0 (length gives) fault) (λ fault. (asked : ℕ) × IsPiecesFault s first files asked fault) (λ due. ⊥) fault
    (λ has. absurd (no_place s first names files rows fault fit few is has))
    (λ reason. no_reason s first names files reason.0 fault fit same few (none_refused s (csv_keeps s first names files) first 0 names files rows same is) reason.1)
    due
