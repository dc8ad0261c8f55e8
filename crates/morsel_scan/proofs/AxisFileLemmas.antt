-- What the bytes of files give is what the scan makes of their rows.
use Rattle.std.proofs.Common.{◌≡◌, ℕ, suc, ◌+◌, ◌<◌, ◌≤◌, ap, sym, refl, ◌∙◌, arith}
use Rattle.std.specs.Prelude.{Bool, true, false, ◌&&◌, ◌==◌, if◌then◌else◌, nat_le, Option, Some, None, Result, Ok, Err, List, [], ◌∷◌, length}
use Rattle.std.specs.List.{sum_by}
use Rattle.std.proofs.lemmas.Bool.Decides.{nat_tests}
use Rattle.std.proofs.lemmas.List.Sums.{sum_by-append, sum_by-cons}
use Rattle.std.proofs.lemmas.List.{length-drop}
use Rattle.morsel_meaning.specs.declared.fault.ComputeKind.TheVariants as kinds
use Rattle.morsel_meaning.specs.declared.fault.Fault.{Fault}
use Rattle.morsel_meaning.specs.declared.fault.Fault.TheVariants as faults
use Rattle.morsel_meaning.specs.Values.{Row, kinds_of}
use Rattle.morsel_grammar.specs.Dialect.{IsDialect}
use Rattle.morsel_grammar.specs.Cells.{CsvCell}
use Rattle.morsel_grammar.specs.Rows.{mark_len, unmarked}
use Rattle.morsel_grammar.specs.Reading.{Refusal, Reading, reading}
use Rattle.morsel_grammar.specs.Results.{refusal_fault}
use Rattle.morsel_scan.specs.Scans.{Scan, CsvScan}
use Rattle.morsel_scan.specs.ScanRows.{Placed, placed, gathered_then, gathered, ended_by, followed_by, scanned, SourceRows, scanned_source, scanned_sources, total_rows}
use Rattle.morsel_scan.specs.CsvScans.{csv_sources}
use Rattle.morsel_scan.specs.StretchRows.{collected}
use Rattle.morsel_scan.specs.CsvAxis.{text_parts, PartStart, scanned_within, AxisPart, text_axis, mark_axis, file_axis, rows_counted, files_axis, gives_of, csv_keeps}
use Rattle.morsel_scan.specs.CsvAxisLaws.{GivesScanRows, GivesScan}
use Rattle.morsel_scan.proofs.StretchLemmas.{collected-append, followed_by-ok}
use Rattle.morsel_scan.proofs.AxisLemmas.{Maker, bytes_of, bytes_of-text, gives_of-append, collected-nothing, collected-text, made, rows_counted-read}

-- where the records of a file begin
abbrev pub file_start : CsvScan → ℕ → List ℕ → ℕ → List ℕ → PartStart
file_start s file name position bytes = record { file = file; name = name; at = mark_len bytes; position = position; awaits_header = s.options.has_header }

-- what is read of a file
abbrev pub file_reading : CsvScan → List ℕ → Reading
file_reading s bytes = reading s.options (kinds_of s.scan.fields) s.options.has_header (mark_len bytes) (unmarked bytes)

pub collected-file : (s : CsvScan) (make : Maker) (file : ℕ) (name : List ℕ) (position : ℕ) (bytes : List ℕ) → IsDialect s.options
    → collected (gives_of (file_axis s make file name position bytes)) ≡ made make file name position (file_reading s bytes)
collected-file s make file name position bytes fit =
    collected-nothing (mark_len bytes) (gives_of (text_axis s make (file_start s file name position bytes) (text_parts s.options (unmarked bytes))))
    ∙ collected-text s make fit (unmarked bytes) (file_start s file name position bytes)

mark_within : (bytes : List ℕ) → mark_len bytes ≤ length bytes
mark_within [] = omega arith
mark_within (a ∷ []) = omega arith
mark_within (a ∷ b ∷ []) = omega arith
mark_within (a ∷ b ∷ c ∷ bytes) = by (a == 239 && (b == 187 && c == 191))
  where
    by : (t : Bool) → (if t then 3 else 0) ≤ suc (suc (suc (length bytes)))
    by true = omega arith
    by false = omega arith

pub mark_size : (bytes : List ℕ) → mark_len bytes + length (unmarked bytes) ≡ length bytes
mark_size bytes = let within = mark_within bytes in omega (arith, within, length-drop (mark_len bytes) bytes)

pub bytes_of-file : (s : CsvScan) (make : Maker) (file : ℕ) (name : List ℕ) (position : ℕ) (bytes : List ℕ) → IsDialect s.options
    → bytes_of (file_axis s make file name position bytes) ≡ length bytes
bytes_of-file s make file name position bytes fit =
    let start : PartStart = file_start s file name position bytes in
    let parts : List AxisPart = text_axis s make start (text_parts s.options (unmarked bytes)) in
    sum_by-cons (λ (x : AxisPart). x.size) (mark_axis (mark_len bytes)) parts
    ∙ ap (λ n. mark_len bytes + n) (bytes_of-text s make fit (unmarked bytes) start) ∙ mark_size bytes

pub bytes_of-files : (s : CsvScan) (make : Maker) (file position : ℕ) (names files : List (List ℕ)) → IsDialect s.options → length names ≡ length files
    → bytes_of (files_axis s make file position names files) ≡ sum_by length files
bytes_of-files s make file position [] [] fit same = refl
bytes_of-files s make file position [] (bytes ∷ files) fit same = absurd (omega (arith, same))
bytes_of-files s make file position (name ∷ names) [] fit same = absurd (omega (arith, same))
bytes_of-files s make file position (name ∷ names) (bytes ∷ files) fit same =
    let here : List AxisPart = file_axis s make file name position bytes in
    let later : List AxisPart = files_axis s make (file + 1) (position + rows_counted here) names files in
    sum_by-append (λ (x : AxisPart). x.size) here later
    ∙ ap (λ n. n + bytes_of later) (bytes_of-file s make file name position bytes fit)
    ∙ ap (λ n. length bytes + n) (bytes_of-files s make (file + 1) (position + rows_counted here) names files fit (omega (arith, same)))
    ∙ sym (sum_by-cons length bytes files)

pub rows_counted-file : (s : CsvScan) (make : Maker) (file : ℕ) (name : List ℕ) (position : ℕ) (bytes : List ℕ)
    → rows_counted (file_axis s make file name position bytes) ≡ rows_counted (text_axis s make (file_start s file name position bytes) (text_parts s.options (unmarked bytes)))
rows_counted-file s make file name position bytes =
    let parts : List AxisPart = text_axis s make (file_start s file name position bytes) (text_parts s.options (unmarked bytes)) in
    let none : 0 + rows_counted parts ≡ rows_counted parts = omega arith in
    sum_by-cons (λ (x : AxisPart). if x.counts then 1 else 0) (mark_axis (mark_len bytes)) parts ∙ none

-- what is made of files, whose first row has this position
abbrev pub made_sources : Maker → ℕ → List SourceRows → Result (List Row) Fault
made_sources make position [] = Ok []
made_sources make position (source ∷ sources) =
    followed_by (ended_by source.fault (gathered make (placed position source.file source.name source.rows))) (made_sources make (position + length source.rows) sources)

-- what follows a fault does not matter
fault_first : (fault : Option Fault) (found : Result (List Row) Fault) (n m : ℕ) (later : ℕ → Result (List Row) Fault) → (fault ≡ None → n ≡ m)
    → followed_by (ended_by fault found) (later n) ≡ followed_by (ended_by fault found) (later m)
fault_first None found n m later same = ap (λ k. followed_by found (later k)) (same refl)
fault_first (Some fault) (Ok rows) n m later same = refl
fault_first (Some fault) (Err first) n m later same = refl

no_fault : (file : ℕ) (refusal : Option Refusal) → refusal_fault file refusal ≡ None → refusal ≡ None
no_fault file None none = refl
no_fault file (Some refusal) none = absurd (cc)

pub collected-files : (s : CsvScan) (make : Maker) (file position : ℕ) (names files : List (List ℕ)) → IsDialect s.options
    → collected (gives_of (files_axis s make file position names files)) ≡ made_sources make position (csv_sources s file names files)
collected-files s make file position [] files fit = refl
collected-files s make file position (name ∷ names) [] fit = refl
collected-files s make file position (name ∷ names) (bytes ∷ files) fit =
    let here : List AxisPart = file_axis s make file name position bytes in
    let later : List AxisPart = files_axis s make (file + 1) (position + rows_counted here) names files in
    let r : Reading = file_reading s bytes in
    let sources : List SourceRows = csv_sources s (file + 1) names files in
    ap collected (gives_of-append here later) ∙ collected-append (gives_of here) (gives_of later)
    ∙ ap (λ x. followed_by x (collected (gives_of later))) (collected-file s make file name position bytes fit)
    ∙ ap (followed_by (made make file name position r)) (collected-files s make (file + 1) (position + rows_counted here) names files fit)
    ∙ fault_first (refusal_fault file r.refusal) (gathered make (placed position file name r.rows)) (position + rows_counted here) (position + length r.rows) (λ p. made_sources make p sources)
    (λ none. ap (λ n. position + n) (rows_counted-file s make file name position bytes ∙ rows_counted-read s make (file_start s file name position bytes) (unmarked bytes) fit (no_fault file r.refusal none)))

pub made_sources-scanned : (scan : Scan) (keeps : ℕ → Bool) (position : ℕ) (sources : List SourceRows) → made_sources (scanned scan keeps) position sources ≡ scanned_sources scan keeps position sources
made_sources-scanned scan keeps position [] = refl
made_sources-scanned scan keeps position (source ∷ sources) = ap (followed_by (scanned_source scan keeps position source)) (made_sources-scanned scan keeps (position + length source.rows) sources)

-- both make the same of a row whose position is one of so many from one on
abbrev pub MakeAlike : Maker → Maker → ℕ → ℕ → Type 0
MakeAlike make other position rows = (row : Placed) → position ≤ row.position → row.position < position + rows → make row ≡ other row

pub gathered-made : (make other : Maker) (position file : ℕ) (name : List ℕ) (rows : List (ℕ × List CsvCell)) → MakeAlike make other position (length rows)
    → gathered make (placed position file name rows) ≡ gathered other (placed position file name rows)
gathered-made make other position file name [] alike = refl
gathered-made make other position file name (row ∷ rows) alike =
    let one : Placed = record { position = position; file = file; source = name; at = row.0; cells = row.1 } in
    ap (λ x. gathered_then x (gathered make (placed (position + 1) file name rows))) (alike one (omega arith) (omega arith))
    ∙ ap (gathered_then (other one)) (gathered-made make other (position + 1) file name rows (λ later from to. alike later (omega arith) (omega arith)))

made_sources-alike : (make other : Maker) (position : ℕ) (sources : List SourceRows) → MakeAlike make other position (total_rows sources) → made_sources make position sources ≡ made_sources other position sources
made_sources-alike make other position [] alike = refl
made_sources-alike make other position (source ∷ sources) alike =
    let sum = sum_by-cons (λ (x : SourceRows). length x.rows) source sources in
    ap (λ x. followed_by (ended_by source.fault x) (made_sources make (position + length source.rows) sources))
    (gathered-made make other position source.file source.name source.rows (λ row from to. alike row from (omega (arith, sum))))
    ∙ ap (followed_by (ended_by source.fault (gathered other (placed position source.file source.name source.rows))))
    (made_sources-alike make other (position + length source.rows) sources (λ row from to. alike row (omega arith) (omega (arith, sum))))

-- within the limit of rows, all is made as without it
pub within_alike : (scan : Scan) (keeps : ℕ → Bool) (row : Placed) → row.position < 4294967295 → scanned_within scan keeps row ≡ scanned scan keeps row
within_alike scan keeps row few =
    let low : nat_le 4294967295 row.position ≡ false = low_false row.position few in
    ap (λ t. if keeps row.position && t then Err (faults.ComputeError kinds.TooManyRows 4294967295 0) else scanned scan keeps row) low
    ∙ by (keeps row.position)
  where
    low_false : (n : ℕ) → n < 4294967295 → nat_le 4294967295 n ≡ false
    low_false n few = grind (arith, nat_tests)

    by : (t : Bool) → (if t && false then Err (faults.ComputeError kinds.TooManyRows 4294967295 0) else scanned scan keeps row) ≡ scanned scan keeps row
    by true = refl
    by false = refl

pub gives_scan : (s : CsvScan) → IsDialect s.options → GivesScan s
gives_scan s fit = λ first head names files opened text_of few.
    let keeps : ℕ → Bool = csv_keeps s first names files in
    let sources : List SourceRows = csv_sources s first names files in
    collected-files s (scanned_within s.scan keeps) first 0 names files fit
    ∙ made_sources-alike (scanned_within s.scan keeps) (scanned s.scan keeps) 0 sources (λ row from to. within_alike s.scan keeps row (omega arith))
    ∙ made_sources-scanned s.scan keeps 0 sources

-- what the one makes, the other makes too, unless the one makes a fault
abbrev pub MakesMore : Maker → Maker → Type 0
MakesMore make other = (row : Placed) (answer : Option Row) → make row ≡ Ok answer → other row ≡ Ok answer

first_made : (a : Result (Option Row) Fault) (b : Result (List Row) Fault) (rows : List Row) → gathered_then a b ≡ Ok rows → (answer : Option Row) × (later : List Row) × (a ≡ Ok answer) × (b ≡ Ok later)
first_made (Err fault) b rows is = absurd (cc)
first_made (Ok None) (Err fault) rows is = absurd (cc)
first_made (Ok (Some row)) (Err fault) rows is = absurd (cc)
first_made (Ok None) (Ok later) rows is = (None, later, refl, refl)
first_made (Ok (Some row)) (Ok later) rows is = (Some row, later, refl, refl)

gathered-more : (make other : Maker) → MakesMore make other → (xs : List Placed) (rows : List Row) → gathered make xs ≡ Ok rows → gathered other xs ≡ Ok rows
gathered-more make other more [] rows is = is
gathered-more make other more (x ∷ xs) rows is =
    let h = first_made (make x) (gathered make xs) rows is in
    ap (λ a. gathered_then a (gathered other xs)) (more x h.0 h.2 ∙ sym h.2) ∙ ap (gathered_then (make x)) (gathered-more make other more xs h.1 h.3 ∙ sym h.3) ∙ is

ended-more : (fault : Option Fault) (a b : Result (List Row) Fault) (rows : List Row) → ((rows : List Row) → a ≡ Ok rows → b ≡ Ok rows) → ended_by fault a ≡ Ok rows → ended_by fault b ≡ Ok rows
ended-more None a b rows more is = more rows is
ended-more (Some fault) (Ok a) b rows more is = absurd (cc)
ended-more (Some fault) (Err first) b rows more is = absurd (cc)

pub made_sources-more : (make other : Maker) → MakesMore make other → (position : ℕ) (sources : List SourceRows) (rows : List Row)
    → made_sources make position sources ≡ Ok rows → made_sources other position sources ≡ Ok rows
made_sources-more make other more position [] rows is = is
made_sources-more make other more position (source ∷ sources) rows is =
    let xs : List Placed = placed position source.file source.name source.rows in
    let h = followed_by-ok (ended_by source.fault (gathered make xs)) (made_sources make (position + length source.rows) sources) rows is in
    let one = ended-more source.fault (gathered make xs) (gathered other xs) h.0 (λ rows found. gathered-more make other more xs rows found) h.2 in
    let later = made_sources-more make other more (position + length source.rows) sources h.1 h.3 in
    ap (λ a. followed_by a (made_sources other (position + length source.rows) sources)) one ∙ ap (followed_by (Ok h.0)) later ∙ ap Ok (sym h.4)

pub within_more : (scan : Scan) (keeps : ℕ → Bool) → MakesMore (scanned_within scan keeps) (scanned scan keeps)
within_more scan keeps row answer is = by (keeps row.position && nat_le 4294967295 row.position) is
  where
    by : (t : Bool) → (if t then Err (faults.ComputeError kinds.TooManyRows 4294967295 0) else scanned scan keeps row) ≡ Ok answer → scanned scan keeps row ≡ Ok answer
    by true is = absurd (cc)
    by false is = is

pub gives_scan_rows : (s : CsvScan) → IsDialect s.options → GivesScanRows s
gives_scan_rows s fit = λ first head names files opened text_of rows is.
    let keeps : ℕ → Bool = csv_keeps s first names files in
    let sources : List SourceRows = csv_sources s first names files in
    sym (made_sources-scanned s.scan keeps 0 sources)
    ∙ made_sources-more (scanned_within s.scan keeps) (scanned s.scan keeps) (within_more s.scan keeps) 0 sources rows
    (sym (collected-files s (scanned_within s.scan keeps) first 0 names files fit) ∙ is)
