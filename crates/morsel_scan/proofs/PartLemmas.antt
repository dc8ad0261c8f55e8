-- A text as its parts: they are its bytes, and whole records are parts of their own.
use Rattle.std.proofs.Common.{◌≡◌, ◌≢◌, ℕ, zero, suc, ◌+◌, ◌-◌, ◌<◌, ◌≤◌, ap, sym, subst, refl, ◌∙◌, inl, inr, arith, append_assoc, append-nil, length-append, take, cond}
use Rattle.std.specs.Prelude.{Bool, true, false, not, ◌⊎◌, if◌then◌else◌, Option, Some, None, List, [], ◌∷◌, ◌++◌, length}
use Rattle.std.proofs.lemmas.List.Sums.{sum_by-cons}
use Rattle.morsel_grammar.specs.Dialect.{Dialect, IsDialect}
use Rattle.morsel_grammar.specs.Grammar.{CsvRecord, IsRecord, Records}
use Rattle.morsel_grammar.specs.Rows.{is_header, behind_header}
use Rattle.morsel_grammar.specs.GrammarRows.{AreWholeRecords, awaits_header_after}
use Rattle.morsel_grammar.specs.Split.{record_at}
use Rattle.morsel_grammar.proofs.RecordLemmas.{IsFound, record_at-read, record_at-written}
use Rattle.morsel_grammar.proofs.FirstRecordLemmas.{IsTaken, bytes_taken, record_taken}
use Rattle.morsel_grammar.proofs.WholeRecordLemmas.{record_again}
use Rattle.morsel_cut.specs.RowCounts.{is_row, row_count}
use Rattle.morsel_scan.specs.Ahead.{one_if}
use Rattle.morsel_scan.specs.CsvAxis.{TextPart, part_then, parts_up_to, text_parts, PartStart, is_row_part, awaits_header_past, start_after}

-- the part of a record
abbrev pub found_part : List ℕ → CsvRecord → TextPart
found_part bytes r = record { bytes = bytes; found = Some r }

-- what holds of no text, of one that begins with no record, and of one whose rest it holds of, holds of every text
pub record HoldsByRecords (o : Dialect) (P : List ℕ → Type 0) : Type 0 where
  pub nothing : P []
  pub none : (text : List ℕ) → text ≢ [] → record_at o text ≡ None → P text
  pub first : (r : CsvRecord) (text next bytes : List ℕ) → IsTaken o r text next bytes → P next → P text

holds_by : (o : Dialect) (P : List ℕ → Type 0) → IsDialect o → HoldsByRecords o P → (text : List ℕ) → text ≢ [] → (found : Option (CsvRecord × List ℕ)) → record_at o text ≡ found
    → ((next : List ℕ) → length next < length text → P next) → P text
holds_by o P fit holds text some None is later = holds.none text some is
holds_by o P fit holds text some (Some split) is later =
    let Q : Option (CsvRecord × List ℕ) → Type 0 = λ found. IsFound o text found in
    let begins : IsRecord o split.0 text split.1 = subst Q is (record_at-read o text) in
    let all = record_taken o split.0 text split.1 fit begins some in
    holds.first split.0 text split.1 all.0 all.1 (later split.1 all.1.shorter)

holds_up_to : (n : ℕ) (o : Dialect) (P : List ℕ → Type 0) → IsDialect o → HoldsByRecords o P → (text : List ℕ) → length text ≤ n → P text
holds_up_to n o P fit holds [] few = holds.nothing
holds_up_to zero o P fit holds (b ∷ bs) few = absurd (omega arith)
holds_up_to (suc n) o P fit holds (b ∷ bs) few =
    holds_by o P fit holds (b ∷ bs) (λ none. cc) (record_at o (b ∷ bs)) refl (λ next shorter. holds_up_to n o P fit holds next (omega arith))

pub by_records : (o : Dialect) (P : List ℕ → Type 0) → IsDialect o → HoldsByRecords o P → (text : List ℕ) → P text
by_records o P fit holds text = holds_up_to (length text) o P fit holds text (omega arith)

-- where the rest has the same parts, the whole has
then_same : (o : Dialect) (text : List ℕ) (found : Option (CsvRecord × List ℕ)) (a b : List ℕ → List TextPart) → IsDialect o → text ≢ [] → record_at o text ≡ found
    → ((rest : List ℕ) → length rest < length text → a rest ≡ b rest) → part_then text found a ≡ part_then text found b
then_same o text None a b fit some is same = refl
then_same o text (Some split) a b fit some is same =
    let Q : Option (CsvRecord × List ℕ) → Type 0 = λ found. IsFound o text found in
    let begins : IsRecord o split.0 text split.1 = subst Q is (record_at-read o text) in
    let all = record_taken o split.0 text split.1 fit begins some in
    ap (λ (x : List TextPart). record { bytes = take (length text - length split.1) text; found = Some split.0 } ∷ x) (same split.1 all.1.shorter)

parts_up_to-enough : (n m : ℕ) (o : Dialect) (text : List ℕ) → IsDialect o → length text ≤ n → length text ≤ m → parts_up_to n o text ≡ parts_up_to m o text
parts_up_to-enough zero zero o text fit one two = refl
parts_up_to-enough zero (suc m) o [] fit one two = refl
parts_up_to-enough (suc n) zero o [] fit one two = refl
parts_up_to-enough (suc n) (suc m) o [] fit one two = refl
parts_up_to-enough zero (suc m) o (b ∷ bs) fit one two = absurd (omega arith)
parts_up_to-enough (suc n) zero o (b ∷ bs) fit one two = absurd (omega arith)
parts_up_to-enough (suc n) (suc m) o (b ∷ bs) fit one two =
    then_same o (b ∷ bs) (record_at o (b ∷ bs)) (λ rest. parts_up_to n o rest) (λ rest. parts_up_to m o rest) fit (λ none. cc) refl
    (λ rest shorter. parts_up_to-enough n m o rest fit (omega arith) (omega arith))

parts-split : (o : Dialect) (text : List ℕ) → IsDialect o → text ≢ [] → text_parts o text ≡ part_then text (record_at o text) (λ rest. text_parts o rest)
parts-split o [] fit some = absurd (some refl)
parts-split o (b ∷ bs) fit some =
    then_same o (b ∷ bs) (record_at o (b ∷ bs)) (λ rest. parts_up_to (length bs) o rest) (λ rest. text_parts o rest) fit some refl
    (λ rest shorter. parts_up_to-enough (length bs) (length rest) o rest fit (omega arith) (omega arith))

-- a text that begins with no record is one part
pub parts-none : (o : Dialect) (text : List ℕ) → IsDialect o → text ≢ [] → record_at o text ≡ None → text_parts o text ≡ record { bytes = text; found = None } ∷ []
parts-none o text fit some none = parts-split o text fit some ∙ ap (λ found. part_then text found (λ rest. text_parts o rest)) none

-- a text's first record is its first part
pub parts-record : (o : Dialect) (r : CsvRecord) (text next bytes : List ℕ) → IsDialect o → IsTaken o r text next bytes
    → text_parts o text ≡ found_part bytes r ∷ text_parts o next
parts-record o r text next bytes fit taken =
    parts-split o text fit taken.some
    ∙ ap (λ found. part_then text found (λ rest. text_parts o rest)) (record_at-written o r text next fit taken.is)
    ∙ ap (λ x. found_part x r ∷ text_parts o next) (bytes_taken o r text next bytes taken)

pub line_taken : (o : Dialect) (r : CsvRecord) (text line next : List ℕ) → IsRecord o r text next → text ≡ line ++ o.eol ∷ next → IsTaken o r text next (line ++ o.eol ∷ [])
line_taken o r text line next is split =
    let size : length text ≡ length line + suc (length next) = ap length split ∙ length-append line (o.eol ∷ next) in
    let one : length (line ++ o.eol ∷ []) ≡ length line + 1 = length-append line (o.eol ∷ []) in
    record {
      is = is;
      some = λ none. some_line line (sym split ∙ none);
      split = split ∙ sym (append_assoc line (o.eol ∷ []) next);
      size = omega arith;
      shorter = omega arith;
      end = inr (line, refl);
    }
  where
    some_line : (line : List ℕ) → line ++ o.eol ∷ next ≡ [] → ⊥
    some_line [] is = cc
    some_line (b ∷ line) is = cc

parts-nothing : (o : Dialect) (front rest : List ℕ) → front ≡ [] → text_parts o (front ++ rest) ≡ text_parts o front ++ text_parts o rest
parts-nothing o [] rest none = refl
parts-nothing o (b ∷ front) rest none = absurd (cc)

-- whole records are parts of their own
pub parts-whole : (o : Dialect) (front rest : List ℕ) (records : List CsvRecord) → IsDialect o → AreWholeRecords o front records
    → text_parts o (front ++ rest) ≡ text_parts o front ++ text_parts o rest
parts-whole o front rest [] fit whole = parts-nothing o front rest whole
parts-whole o front rest (r ∷ records) fit whole =
    let line : List ℕ = whole.0 in
    let next : List ℕ = whole.1 in
    let bytes : List ℕ = line ++ o.eol ∷ [] in
    let split : front ++ rest ≡ line ++ o.eol ∷ (next ++ rest) = ap (λ (x : List ℕ). x ++ rest) whole.2 ∙ append_assoc line (o.eol ∷ next) rest in
    let P : List ℕ → Type 0 = λ x. IsRecord o r x (next ++ rest) in
    let is : IsRecord o r (front ++ rest) (next ++ rest) = subst P (sym split) (record_again o r front line next fit whole.3 whole.2 (next ++ rest)) in
    parts-record o r (front ++ rest) (next ++ rest) bytes fit (line_taken o r (front ++ rest) line (next ++ rest) is split)
    ∙ ap (λ (x : List TextPart). found_part bytes r ∷ x) (parts-whole o next rest records fit whole.4)
    ∙ ap (λ (x : List TextPart). x ++ text_parts o rest) (sym (parts-record o r front next bytes fit (line_taken o r front line next whole.3 whole.2)))

-- a text of whole records, or of its last ones, is parts of its own
pub parts-front : (o : Dialect) (front rest : List ℕ) (records : List CsvRecord) → IsDialect o → (AreWholeRecords o front records) ⊎ (rest ≡ [])
    → text_parts o (front ++ rest) ≡ text_parts o front ++ text_parts o rest
parts-front o front rest records fit (inl whole) = parts-whole o front rest records fit whole
parts-front o front rest records fit (inr last) =
    ap (λ (x : List ℕ). text_parts o (front ++ x)) last ∙ ap (text_parts o) (append-nil front) ∙ sym (append-nil (text_parts o front)) ∙ ap (λ (x : List ℕ). text_parts o front ++ text_parts o x) (sym last)

-- where the part after these begins
abbrev pub start_past : ℕ → PartStart → List TextPart → PartStart
start_past columns start [] = start
start_past columns start (part ∷ parts) = start_past columns (start_after columns start part) parts

-- a place later in a file
abbrev pub start_at : PartStart → ℕ → ℕ → Bool → PartStart
start_at start bytes rows awaits_header = record { file = start.file; name = start.name; at = start.at + bytes; position = start.position + rows; awaits_header = awaits_header }

behind_not : (t : Bool) (records : List CsvRecord) → behind_header (not t) records ≡ (if t then records else behind_header true records)
behind_not true records = refl
behind_not false records = refl

awaits_not : (t : Bool) (records : List CsvRecord) → (if t then false else awaits_header_after true records) ≡ awaits_header_after (not t) records
awaits_not true records = refl
awaits_not false records = refl

one_counted : (t : Bool) → one_if t ≡ cond t 1 0
one_counted true = refl
one_counted false = refl

-- a record, and then others, count as rows
rows_past : (columns : ℕ) (head : Bool) (r : CsvRecord) (records : List CsvRecord)
    → one_if (is_row_part columns head (Some r)) + row_count columns (behind_header (awaits_header_past head (Some r)) records) ≡ row_count columns (behind_header head (r ∷ records))
rows_past columns true r records =
    let none : 0 + row_count columns (behind_header (not (is_header r)) records) ≡ row_count columns (behind_header (not (is_header r)) records) = omega arith in
    none ∙ ap (row_count columns) (behind_not (is_header r) records)
rows_past columns false r records =
    ap (λ (n : ℕ). n + row_count columns records) (one_counted (is_row columns r)) ∙ sym (sum_by-cons (λ (x : CsvRecord). cond (is_row columns x) 1 0) r records)

header_past : (head : Bool) (r : CsvRecord) (records : List CsvRecord) → awaits_header_after (awaits_header_past head (Some r)) records ≡ awaits_header_after head (r ∷ records)
header_past true r records = sym (awaits_not (is_header r) records)
header_past false r records = refl

start_same : (start : PartStart) (bytes more rows later : ℕ) (a b : Bool) → bytes ≡ more → rows ≡ later → a ≡ b → start_at start bytes rows a ≡ start_at start more later b
start_same start bytes more rows later a b one two three =
    ap (λ n. start_at start n rows a) one ∙ ap (λ n. start_at start more n a) two ∙ ap (λ t. start_at start more later t) three

start_here : (start : PartStart) → start ≡ start_at start 0 0 start.awaits_header
start_here start =
    let one : start.at ≡ start.at + 0 = omega arith in
    let two : start.position ≡ start.position + 0 = omega arith in
    ap (λ n. record { file = start.file; name = start.name; at = n; position = start.position; awaits_header = start.awaits_header }) one
    ∙ ap (λ n. record { file = start.file; name = start.name; at = start.at + 0; position = n; awaits_header = start.awaits_header }) two

start_twice : (start : PartStart) (bytes more rows later : ℕ) (a b : Bool) → start_at (start_at start bytes rows a) more later b ≡ start_at start (bytes + more) (rows + later) b
start_twice start bytes more rows later a b =
    let one : start.at + bytes + more ≡ start.at + (bytes + more) = omega arith in
    let two : start.position + rows + later ≡ start.position + (rows + later) = omega arith in
    ap (λ n. record { file = start.file; name = start.name; at = n; position = start.position + rows + later; awaits_header = b }) one
    ∙ ap (λ n. record { file = start.file; name = start.name; at = start.at + (bytes + more); position = n; awaits_header = b }) two

awaits_nothing : (head : Bool) → awaits_header_after head [] ≡ head
awaits_nothing true = refl
awaits_nothing false = refl

count_nothing : (columns : ℕ) (head : Bool) → row_count columns (behind_header head []) ≡ 0
count_nothing columns true = refl
count_nothing columns false = refl

-- what follows records begins after all their bytes and rows
pub start_past-records : (o : Dialect) (columns : ℕ) (start : PartStart) (text : List ℕ) (records : List CsvRecord) → IsDialect o → Records o text records
    → start_past columns start (text_parts o text)
    ≡ start_at start (length text) (row_count columns (behind_header start.awaits_header records)) (awaits_header_after start.awaits_header records)
start_past-records o columns start text [] fit none =
    ap (λ t. start_past columns start (text_parts o t)) none ∙ start_here start
    ∙ start_same start 0 (length text) 0 (row_count columns (behind_header start.awaits_header [])) start.awaits_header (awaits_header_after start.awaits_header [])
    (sym (ap length none)) (sym (count_nothing columns start.awaits_header)) (sym (awaits_nothing start.awaits_header))
start_past-records o columns start text (r ∷ records) fit (some, next, is, later) =
    let taken = record_taken o r text next fit is some in
    let head : Bool = start.awaits_header in
    let part : TextPart = found_part taken.0 r in
    let past : Bool = awaits_header_past head (Some r) in
    let size : length taken.0 + length next ≡ length text = sym (length-append taken.0 next) ∙ sym (ap length taken.1.split) in
    ap (start_past columns start) (parts-record o r text next taken.0 fit taken.1)
    ∙ start_past-records o columns (start_after columns start part) next records fit later
    ∙ start_twice start (length taken.0) (length next) (one_if (is_row_part columns head (Some r))) (row_count columns (behind_header past records)) past (awaits_header_after past records)
    ∙ start_same start (length taken.0 + length next) (length text) (one_if (is_row_part columns head (Some r)) + row_count columns (behind_header past records))
    (row_count columns (behind_header head (r ∷ records))) (awaits_header_after past records) (awaits_header_after head (r ∷ records)) size (rows_past columns head r records) (header_past head r records)
