-- What the bytes of a text give is what a scan makes of the rows that are read of it.
use Rattle.std.proofs.Common.{◌≡◌, ◌≢◌, ℕ, zero, suc, ◌+◌, ◌<◌, ap, sym, subst, refl, ◌∙◌, arith, length-append, cond}
use Rattle.std.proofs.lemmas.List.{length-map}
use Rattle.std.specs.Prelude.{Bool, true, false, not, if◌then◌else◌, Option, Some, None, Result, Ok, Err, List, [], ◌∷◌, ◌++◌, length, map}
use Rattle.std.specs.List.{sum_by}
use Rattle.std.specs.Str.{is_utf8}
use Rattle.std.proofs.lemmas.List.Sums.{sum_by-cons}
use Rattle.std.proofs.lemmas.List.Concat.{flat_map-append}
use Rattle.morsel_meaning.specs.declared.value.ColType.{ColType}
use Rattle.morsel_meaning.specs.declared.value.Field.{Field}
use Rattle.morsel_meaning.specs.declared.fault.Fault.{Fault}
use Rattle.morsel_meaning.specs.declared.fault.Fault.TheVariants as faults
use Rattle.morsel_meaning.specs.Values.{Row, kinds_of}
use Rattle.morsel_grammar.specs.Dialect.{Dialect, IsDialect}
use Rattle.morsel_grammar.specs.Grammar.{CsvRecord, Records}
use Rattle.morsel_grammar.specs.Cells.{CsvCell}
use Rattle.morsel_grammar.specs.Rows.{RowOf, NoRow, IsRow, Misfit, is_header, row_of, behind_header}
use Rattle.morsel_grammar.specs.Reading.{NotUtf8, Refusal, Reading, reading, refuses, row_then, split_then}
use Rattle.morsel_grammar.specs.Results.{flaw_fault, refusal_fault}
use Rattle.morsel_grammar.specs.GrammarRows.{CellsOfGrammar, HasRows}
use Rattle.morsel_grammar.proofs.FileLemmas.{reads_cells}
use Rattle.morsel_grammar.proofs.JoinedLemmas.{reading-split, reading-record}
use Rattle.morsel_cut.specs.RowCounts.{is_row, row_count}
use Rattle.morsel_cut.proofs.CountLemmas.{Agrees, record_agrees, counts_rows}
use Rattle.morsel_scan.specs.Scans.{CsvScan}
use Rattle.morsel_scan.specs.ScanRows.{Placed, placed, gathered_then, gathered, ended_by, followed_by}
use Rattle.morsel_scan.specs.StretchRows.{collected}
use Rattle.morsel_scan.specs.Ahead.{one_if}
use Rattle.morsel_scan.specs.CsvAxis.{TextPart, text_parts, PartStart, is_row_part, awaits_header_past, start_after, rows_made, record_gives, part_gives, AxisPart, axis_part, text_axis, rows_counted, last_of, gives_of}
use Rattle.morsel_scan.proofs.GatherLemmas.{followed_by-nothing}
use Rattle.morsel_scan.proofs.StretchLemmas.{Places}
use Rattle.morsel_scan.proofs.PartLemmas.{by_records, found_part, parts-none, parts-record, start_past, start_past-records}

-- what makes rows of a scan
abbrev pub Maker : Type 0
Maker = Placed → Result (Option Row) Fault

pub length-last_of : {A : Type 0} (n : ℕ) (other last : A) → length (last_of n other last) ≡ n
length-last_of zero other last = refl
length-last_of (suc zero) other last = refl
length-last_of (suc (suc n)) other last = ap suc (length-last_of (suc n) other last)

-- how many bytes parts have
abbrev pub bytes_of : List AxisPart → ℕ
bytes_of parts = sum_by (λ (part : AxisPart). part.size) parts

pub length-gives_of : (parts : List AxisPart) → length (gives_of parts) ≡ bytes_of parts
length-gives_of [] = refl
length-gives_of (part ∷ parts) =
    length-append (last_of part.size (Ok []) part.given) (gives_of parts) ∙ ap (λ n. n + length (gives_of parts)) (length-last_of part.size (Ok []) part.given)
    ∙ ap (λ n. part.size + n) (length-gives_of parts) ∙ sym (sum_by-cons (λ (x : AxisPart). x.size) part parts)

pub gives_of-append : (xs ys : List AxisPart) → gives_of (xs ++ ys) ≡ gives_of xs ++ gives_of ys
gives_of-append xs ys = flat_map-append (λ (part : AxisPart). last_of part.size (Ok []) part.given) xs ys

pub text_axis-append : (s : CsvScan) (make : Maker) (start : PartStart) (xs ys : List TextPart)
    → text_axis s make start (xs ++ ys) ≡ text_axis s make start xs ++ text_axis s make (start_past (length s.scan.fields) start xs) ys
text_axis-append s make start [] ys = refl
text_axis-append s make start (part ∷ xs) ys =
    ap (λ (x : List AxisPart). axis_part s make start part ∷ x) (text_axis-append s make (start_after (length s.scan.fields) start part) xs ys)

-- each byte of a text has its place
pub bytes_of-text : (s : CsvScan) (make : Maker) → IsDialect s.options → (text : List ℕ) (start : PartStart) → bytes_of (text_axis s make start (text_parts s.options text)) ≡ length text
bytes_of-text s make fit text =
    let P : List ℕ → Type 0 = λ text. (start : PartStart) → bytes_of (text_axis s make start (text_parts s.options text)) ≡ length text in
    by_records s.options P fit (record {
      nothing = λ start. refl;
      none = λ text some none start. ap (λ parts. bytes_of (text_axis s make start parts)) (parts-none s.options text fit some none)
          ∙ sum_by-cons (λ (x : AxisPart). x.size) (axis_part s make start (record { bytes = text; found = None })) [] ∙ one_size (length text);
      first = λ r text next bytes taken later start.
          let part : TextPart = found_part bytes r in
          ap (λ parts. bytes_of (text_axis s make start parts)) (parts-record s.options r text next bytes fit taken)
          ∙ sum_by-cons (λ (x : AxisPart). x.size) (axis_part s make start part) (text_axis s make (start_after (length s.scan.fields) start part) (text_parts s.options next))
          ∙ ap (λ n. length bytes + n) (later (start_after (length s.scan.fields) start part)) ∙ sym (length-append bytes next) ∙ sym (ap length taken.split);
    }) text
  where
    one_size : (n : ℕ) → n + 0 ≡ n
    one_size n = omega arith

-- where the last of some bytes gives this, and each other nothing, they give it
pub collected-sized : (n : ℕ) (given : Result (List Row) Fault) (later : Places) → 0 < n → collected (last_of n (Ok []) given ++ later) ≡ followed_by given (collected later)
collected-sized zero given later some = absurd (omega arith)
collected-sized (suc zero) given later some = refl
collected-sized (suc (suc n)) given later some =
    followed_by-nothing (collected (last_of (suc n) (Ok []) given ++ later)) ∙ collected-sized (suc n) given later (omega arith)

pub collected-nothing : (n : ℕ) (later : Places) → collected (last_of n (Ok []) (Ok []) ++ later) ≡ collected later
collected-nothing zero later = refl
collected-nothing (suc zero) later = followed_by-nothing (collected later)
collected-nothing (suc (suc n)) later = followed_by-nothing (collected (last_of (suc n) (Ok []) (Ok []) ++ later)) ∙ collected-nothing (suc n) later

-- what is made of what was read of a text of a file, whose first row has this position
abbrev pub made : Maker → ℕ → List ℕ → ℕ → Reading → Result (List Row) Fault
made make file name position r = ended_by (refusal_fault file r.refusal) (gathered make (placed position file name r.rows))

then_made : (row : Result (Option Row) Fault) (fault : Option Fault) (later : Result (List Row) Fault) → followed_by (rows_made row) (ended_by fault later) ≡ ended_by fault (gathered_then row later)
then_made (Err first) None later = refl
then_made (Err first) (Some fault) later = refl
then_made (Ok None) None (Ok rows) = refl
then_made (Ok None) None (Err first) = refl
then_made (Ok None) (Some fault) (Ok rows) = refl
then_made (Ok None) (Some fault) (Err first) = refl
then_made (Ok (Some row)) None (Ok rows) = refl
then_made (Ok (Some row)) None (Err first) = refl
then_made (Ok (Some row)) (Some fault) (Ok rows) = refl
then_made (Ok (Some row)) (Some fault) (Err first) = refl

row_made : (make : Maker) (file : ℕ) (name : List ℕ) (at position : ℕ) (row : RowOf) (counts : Bool) (later : Reading) → Agrees row counts
    → followed_by (record_gives make (record { file = file; name = name; at = at; position = position; awaits_header = false }) row) (made make file name (position + one_if counts) later)
    ≡ made make file name position (row_then false at row later)
row_made make file name at position NoRow counts later agrees =
    let same : position + one_if false ≡ position = omega arith in
    followed_by-nothing (made make file name (position + one_if counts) later) ∙ ap (λ t. made make file name (position + one_if t) later) agrees ∙ ap (λ p. made make file name p later) same
row_made make file name at position (IsRow cells) counts later agrees =
    let one : Placed = record { position = position; file = file; source = name; at = at; cells = cells } in
    ap (λ t. followed_by (rows_made (make one)) (made make file name (position + one_if t) later)) agrees
    ∙ then_made (make one) (refusal_fault file later.refusal) (gathered make (placed (position + 1) file name later.rows))
row_made make file name at position Misfit counts later agrees = refl

record_made : (s : CsvScan) (make : Maker) (file : ℕ) (name : List ℕ) (at position : ℕ) (head t : Bool) (r : CsvRecord) (later : Bool → Reading)
    → (let start : PartStart = record { file = file; name = name; at = at; position = position; awaits_header = head } in
    followed_by (if t then (if head then Ok [] else record_gives make start (row_of s.options (kinds_of s.scan.fields) r)) else Err (flaw_fault file at NotUtf8))
    (made make file name (position + one_if (is_row_part (length s.scan.fields) head (Some r))) (later (awaits_header_past head (Some r))))
    ≡ made make file name position (if t then (if head then later (not (is_header r)) else row_then false at (row_of s.options (kinds_of s.scan.fields) r) (later false)) else refuses head at NotUtf8))
record_made s make file name at position head false r later = refl
record_made s make file name at position true true r later =
    let same : position + 0 ≡ position = omega arith in
    followed_by-nothing (made make file name (position + 0) (later (not (is_header r)))) ∙ ap (λ p. made make file name p (later (not (is_header r)))) same
record_made s make file name at position false true r later =
    let kinds : List ColType = kinds_of s.scan.fields in
    let columns : length kinds ≡ length s.scan.fields = length-map s.scan.fields (λ (f : Field). f.kind) in
    let P : ℕ → Type 0 = λ n. Agrees (row_of s.options kinds r) (is_row n r) in
    row_made make file name at position (row_of s.options kinds r) (is_row (length s.scan.fields) r) (later false) (subst P columns (record_agrees s.options kinds r))

some_size : (text : List ℕ) → text ≢ [] → 0 < length text
some_size [] some = absurd (some refl)
some_size (b ∷ bs) some = omega arith

-- what the bytes of a text give is what is made of its rows
pub collected-text : (s : CsvScan) (make : Maker) → IsDialect s.options → (text : List ℕ) (start : PartStart)
    → collected (gives_of (text_axis s make start (text_parts s.options text)))
    ≡ made make start.file start.name start.position (reading s.options (kinds_of s.scan.fields) start.awaits_header start.at text)
collected-text s make fit text =
    let o : Dialect = s.options in
    let kinds : List ColType = kinds_of s.scan.fields in
    let P : List ℕ → Type 0 = λ text. (start : PartStart) → collected (gives_of (text_axis s make start (text_parts o text))) ≡ made make start.file start.name start.position (reading o kinds start.awaits_header start.at text) in
    by_records o P fit (record {
      nothing = λ start. refl;
      none = λ text some none start.
          ap (λ parts. collected (gives_of (text_axis s make start parts))) (parts-none o text fit some none)
          ∙ collected-sized (length text) (Err (faults.Malformed start.file start.at)) [] (some_size text some)
          ∙ ap (made make start.file start.name start.position)
          (sym (reading-split o kinds start.awaits_header start.at text fit some ∙ ap (λ found. split_then o kinds start.awaits_header start.at text found (λ head place rest. reading o kinds head place rest)) none));
      first = λ r text next bytes taken later start.
          let part : TextPart = found_part bytes r in
          let after : PartStart = start_after (length s.scan.fields) start part in
          let some : 0 < length bytes = let size = taken.size in let shorter = taken.shorter in omega arith in
          ap (λ parts. collected (gives_of (text_axis s make start parts))) (parts-record o r text next bytes fit taken)
          ∙ collected-sized (length bytes) (part_gives s make start bytes (Some r)) (gives_of (text_axis s make after (text_parts o next))) some
          ∙ ap (followed_by (part_gives s make start bytes (Some r))) (later after)
          ∙ record_made s make start.file start.name start.at start.position start.awaits_header (is_utf8 bytes) r (λ head. reading o kinds head (start.at + length bytes) next)
          ∙ ap (made make start.file start.name start.position) (sym (reading-record o kinds start.awaits_header start.at r text next bytes fit taken));
    }) text

-- the rows of parts are counted on
pub rows_counted-past : (s : CsvScan) (make : Maker) (start : PartStart) (parts : List TextPart)
    → (start_past (length s.scan.fields) start parts).position ≡ start.position + rows_counted (text_axis s make start parts)
rows_counted-past s make start [] = omega arith
rows_counted-past s make start (part ∷ parts) =
    let after : PartStart = start_after (length s.scan.fields) start part in
    let later = rows_counted-past s make after parts in
    let t : Bool = is_row_part (length s.scan.fields) start.awaits_header part.found in
    let one : one_if t ≡ cond t 1 0 = counted_one t in
    let sum : rows_counted (text_axis s make start (part ∷ parts)) ≡ cond t 1 0 + rows_counted (text_axis s make after parts) =
    sum_by-cons (λ (x : AxisPart). cond x.counts 1 0) (axis_part s make start part) (text_axis s make after parts) in
    omega (arith, later, one, sum)
  where
    counted_one : (t : Bool) → one_if t ≡ cond t 1 0
    counted_one true = refl
    counted_one false = refl

-- a text of records has as many rows as are counted
pub rows_counted-records : (s : CsvScan) (make : Maker) (start : PartStart) (text : List ℕ) (records : List CsvRecord) → IsDialect s.options → Records s.options text records
    → rows_counted (text_axis s make start (text_parts s.options text)) ≡ row_count (length s.scan.fields) (behind_header start.awaits_header records)
rows_counted-records s make start text records fit split =
    let past = rows_counted-past s make start (text_parts s.options text) in
    let place = ap (λ (x : PartStart). x.position) (start_past-records s.options (length s.scan.fields) start text records fit split) in
    omega (arith, past, place)

-- where no record is refused, there are as many rows as are counted
pub rows_counted-read : (s : CsvScan) (make : Maker) (start : PartStart) (text : List ℕ) → IsDialect s.options
    → (let r = reading s.options (kinds_of s.scan.fields) start.awaits_header start.at text in
    r.refusal ≡ None → rows_counted (text_axis s make start (text_parts s.options text)) ≡ length r.rows)
rows_counted-read s make start text fit none =
    let kinds : List ColType = kinds_of s.scan.fields in
    let r : Reading = reading s.options kinds start.awaits_header start.at text in
    let cells : List (List CsvCell) = map (λ (row : ℕ × List CsvCell). row.1) r.rows in
    let P : Option Refusal → Type 0 = λ refusal. CellsOfGrammar s.options kinds start.awaits_header start.at text cells r.head refusal in
    let has : HasRows s.options kinds start.awaits_header text cells r.head = subst P none (reads_cells s.options fit kinds start.awaits_header start.at text) in
    let size : length cells ≡ length r.rows = length-map r.rows (λ (row : ℕ × List CsvCell). row.1) in
    let all : length cells ≡ row_count (length kinds) (behind_header start.awaits_header has.records) = counts_rows s.options kinds (behind_header start.awaits_header has.records) cells has.rows_are in
    rows_counted-records s make start text has.records fit has.split
    ∙ ap (λ n. row_count n (behind_header start.awaits_header has.records)) (sym (length-map s.scan.fields (λ (f : Field). f.kind))) ∙ sym all ∙ size
