-- Reading a text in two pieces.
use Rattle.std.proofs.Common.{◌≡◌, ◌≢◌, ℕ, zero, suc, ◌+◌, ◌-◌, ◌<◌, ◌≤◌, ap, sym, subst, refl, ◌∙◌, inr, arith, append_assoc, length-append, take}
use Rattle.std.specs.Prelude.{Bool, true, false, not, if◌then◌else◌, Option, Some, None, List, [], ◌∷◌, ◌++◌, length}
use Rattle.std.specs.Str.{is_utf8}
use Rattle.morsel_meaning.specs.declared.value.ColType.{ColType}
use Rattle.morsel_grammar.specs.Dialect.{Dialect, IsDialect}
use Rattle.morsel_grammar.specs.Grammar.{CsvRecord, IsRecord}
use Rattle.morsel_grammar.specs.Cells.{CsvCell}
use Rattle.morsel_grammar.specs.Rows.{RowOf, NoRow, IsRow, Misfit, is_header, row_of}
use Rattle.morsel_grammar.specs.Split.{record_at}
use Rattle.morsel_grammar.specs.Reading.{NotUtf8, Refusal, Reading, refuses, with_cells, row_then, record_then, split_then, reading_up_to, reading}
use Rattle.morsel_grammar.specs.GrammarRows.{AreWholeRecords}
use Rattle.morsel_grammar.specs.Joined.{joined_at, joined, ReadsPieces}
use Rattle.morsel_grammar.proofs.RecordLemmas.{IsFound, record_at-read, record_at-written}
use Rattle.morsel_grammar.proofs.FirstRecordLemmas.{IsTaken, bytes_taken, record_taken}
use Rattle.morsel_grammar.proofs.WholeRecordLemmas.{record_again}

-- what reads the texts that are shorter
abbrev Later : Type 0
Later = Bool → ℕ → List ℕ → Reading

-- where what follows is read alike, all is
record_same : (o : Dialect) (kinds : List ColType) (head : Bool) (at : ℕ) (bytes : List ℕ) (r : CsvRecord) (a b : Bool → Reading) → ((awaits_header : Bool) → a awaits_header ≡ b awaits_header)
    → record_then o kinds head at bytes r a ≡ record_then o kinds head at bytes r b
record_same o kinds true at bytes r a b same = ap (λ (x : Reading). if is_utf8 bytes then x else refuses true at NotUtf8) (same (not (is_header r)))
record_same o kinds false at bytes r a b same =
    ap (λ (x : Reading). if is_utf8 bytes then row_then false at (row_of o kinds r) x else refuses false at NotUtf8) (same false)

split_same : (o : Dialect) (kinds : List ColType) (head : Bool) (at : ℕ) (text : List ℕ) (found : Option (CsvRecord × List ℕ)) (a b : Later) → IsDialect o → text ≢ []
    → record_at o text ≡ found → ((awaits_header : Bool) (place : ℕ) (rest : List ℕ) → length rest < length text → a awaits_header place rest ≡ b awaits_header place rest)
    → split_then o kinds head at text found a ≡ split_then o kinds head at text found b
split_same o kinds head at text None a b fit some is same = refl
split_same o kinds head at text (Some split) a b fit some is same =
    let P : Option (CsvRecord × List ℕ) → Type 0 = λ found. IsFound o text found in
    let begins : IsRecord o split.0 text split.1 = subst P is (record_at-read o text) in
    let all = record_taken o split.0 text split.1 fit begins some in
    let size : ℕ = length text - length split.1 in
    record_same o kinds head at (take size text) split.0 (λ awaits_header. a awaits_header (at + size) split.1) (λ awaits_header. b awaits_header (at + size) split.1)
    (λ awaits_header. same awaits_header (at + size) split.1 all.1.shorter)

some_text : (b : ℕ) (bs : List ℕ) → b ∷ bs ≢ []
some_text b bs = λ is. cc

-- enough is enough
pub reading_up_to-enough : (n m : ℕ) (o : Dialect) (kinds : List ColType) (head : Bool) (at : ℕ) (text : List ℕ) → IsDialect o → length text ≤ n → length text ≤ m
    → reading_up_to n o kinds head at text ≡ reading_up_to m o kinds head at text
reading_up_to-enough zero zero o kinds head at text fit one two = refl
reading_up_to-enough zero (suc m) o kinds head at [] fit one two = refl
reading_up_to-enough (suc n) zero o kinds head at [] fit one two = refl
reading_up_to-enough (suc n) (suc m) o kinds head at [] fit one two = refl
reading_up_to-enough zero (suc m) o kinds head at (b ∷ bs) fit one two = absurd (omega arith)
reading_up_to-enough (suc n) zero o kinds head at (b ∷ bs) fit one two = absurd (omega arith)
reading_up_to-enough (suc n) (suc m) o kinds head at (b ∷ bs) fit one two =
    split_same o kinds head at (b ∷ bs) (record_at o (b ∷ bs)) (λ awaits_header place rest. reading_up_to n o kinds awaits_header place rest) (λ awaits_header place rest. reading_up_to m o kinds awaits_header place rest)
    fit (some_text b bs) refl (λ awaits_header place rest shorter. reading_up_to-enough n m o kinds awaits_header place rest fit (omega arith) (omega arith))

-- reading splits a record off, and goes on after it
pub reading-split : (o : Dialect) (kinds : List ColType) (head : Bool) (at : ℕ) (text : List ℕ) → IsDialect o → text ≢ []
    → reading o kinds head at text ≡ split_then o kinds head at text (record_at o text) (λ awaits_header place rest. reading o kinds awaits_header place rest)
reading-split o kinds head at [] fit some = absurd (some refl)
reading-split o kinds head at (b ∷ bs) fit some =
    split_same o kinds head at (b ∷ bs) (record_at o (b ∷ bs)) (λ awaits_header place rest. reading_up_to (length bs) o kinds awaits_header place rest) (λ awaits_header place rest. reading o kinds awaits_header place rest)
    fit some refl (λ awaits_header place rest shorter. reading_up_to-enough (length bs) (length rest) o kinds awaits_header place rest fit (omega arith) (omega arith))

-- reading a text that begins with a record
pub reading-record : (o : Dialect) (kinds : List ColType) (head : Bool) (at : ℕ) (r : CsvRecord) (text next bytes : List ℕ) → IsDialect o → IsTaken o r text next bytes
    → reading o kinds head at text ≡ record_then o kinds head at bytes r (λ awaits_header. reading o kinds awaits_header (at + length bytes) next)
reading-record o kinds head at r text next bytes fit taken =
    let later : Later = λ awaits_header place rest. reading o kinds awaits_header place rest in
    reading-split o kinds head at text fit taken.some
    ∙ ap (λ found. split_then o kinds head at text found later) (record_at-written o r text next fit taken.is)
    ∙ ap (λ x. record_then o kinds head at x r (λ awaits_header. later awaits_header (at + (length text - length next)) next)) (bytes_taken o r text next bytes taken)
    ∙ ap (λ n. record_then o kinds head at bytes r (λ awaits_header. later awaits_header (at + n) next)) taken.size

line_taken : (o : Dialect) (r : CsvRecord) (text line next : List ℕ) → IsRecord o r text next → text ≡ line ++ o.eol ∷ next → IsTaken o r text next (line ++ o.eol ∷ [])
line_taken o r text line next is split =
    let size : length text ≡ length line + suc (length next) = ap length split ∙ length-append line (o.eol ∷ next) in
    let one : length (line ++ o.eol ∷ []) ≡ length line + 1 = length-append line (o.eol ∷ []) in
    record {
      is = is;
      some = λ none. some_line line (sym split ∙ none);
      split = split ∙ sym (append_assoc line (o.eol ∷ []) next);
      size = omega arith;
      shorter = omega arith;
      end = inr (line, refl);
    }
  where
    some_line : (line : List ℕ) → line ++ o.eol ∷ next ≡ [] → ⊥
    some_line [] is = cc
    some_line (b ∷ line) is = cc

joined_cells : (at : ℕ) (cells : List CsvCell) (rows : List (ℕ × List CsvCell)) (head : Bool) (refusal : Option Refusal) (later : Bool → Reading)
    → joined_at ((at, cells) ∷ rows) head refusal later ≡ with_cells at cells (joined_at rows head refusal later)
joined_cells at cells rows head None later = refl
joined_cells at cells rows head (Some refusal) later = refl

joined_row : (at : ℕ) (row : RowOf) (first : Reading) (later : Bool → Reading) → joined (row_then false at row first) later ≡ row_then false at row (joined first later)
joined_row at NoRow first later = refl
joined_row at (IsRow cells) first later = joined_cells at cells first.rows first.head first.refusal later
joined_row at Misfit first later = refl

joined_utf8 : (o : Dialect) (kinds : List ColType) (head : Bool) (at : ℕ) (r : CsvRecord) (first later : Bool → Reading) (t : Bool)
    → joined (if t then (if head then first (not (is_header r)) else row_then false at (row_of o kinds r) (first false)) else refuses head at NotUtf8) later
    ≡ (if t then (if head then joined (first (not (is_header r))) later else row_then false at (row_of o kinds r) (joined (first false) later)) else refuses head at NotUtf8)
joined_utf8 o kinds true at r first later true = refl
joined_utf8 o kinds false at r first later true = joined_row at (row_of o kinds r) (first false) later
joined_utf8 o kinds head at r first later false = refl

-- a record, and then the rest in two pieces
joined_record : (o : Dialect) (kinds : List ColType) (head : Bool) (at : ℕ) (bytes : List ℕ) (r : CsvRecord) (first later : Bool → Reading)
    → joined (record_then o kinds head at bytes r first) later ≡ record_then o kinds head at bytes r (λ awaits_header. joined (first awaits_header) later)
joined_record o kinds head at bytes r first later = joined_utf8 o kinds head at r first later (is_utf8 bytes)

joined_nothing : (o : Dialect) (kinds : List ColType) (head : Bool) (at : ℕ) (front rest : List ℕ) → front ≡ []
    → reading o kinds head at (front ++ rest) ≡ joined (reading o kinds head at front) (λ awaits_header. reading o kinds awaits_header (at + length front) rest)
joined_nothing o kinds head at [] rest none = let same : at ≡ at + 0 = omega arith in ap (λ place. reading o kinds head place rest) same
joined_nothing o kinds head at (b ∷ front) rest none = cc

pub reading-joined : (o : Dialect) (kinds : List ColType) (head : Bool) (at : ℕ) (front rest : List ℕ) (records : List CsvRecord) → IsDialect o → AreWholeRecords o front records
    → reading o kinds head at (front ++ rest) ≡ joined (reading o kinds head at front) (λ awaits_header. reading o kinds awaits_header (at + length front) rest)
reading-joined o kinds head at front rest [] fit whole = joined_nothing o kinds head at front rest whole
reading-joined o kinds head at front rest (r ∷ records) fit whole =
    let line : List ℕ = whole.0 in
    let next : List ℕ = whole.1 in
    let bytes : List ℕ = line ++ o.eol ∷ [] in
    let place : ℕ = at + length bytes in
    let split : front ++ rest ≡ line ++ o.eol ∷ (next ++ rest) = ap (λ (x : List ℕ). x ++ rest) whole.2 ∙ append_assoc line (o.eol ∷ next) rest in
    let P : List ℕ → Type 0 = λ x. IsRecord o r x (next ++ rest) in
    let is : IsRecord o r (front ++ rest) (next ++ rest) = subst P (sym split) (record_again o r front line next fit whole.3 whole.2 (next ++ rest)) in
    let size : length front ≡ length line + suc (length next) = ap length whole.2 ∙ length-append line (o.eol ∷ next) in
    let one : length bytes ≡ length line + 1 = length-append line (o.eol ∷ []) in
    let there : place + length next ≡ at + length front = omega arith in
    reading-record o kinds head at r (front ++ rest) (next ++ rest) bytes fit (line_taken o r (front ++ rest) line (next ++ rest) is split)
    ∙ record_same o kinds head at bytes r (λ awaits_header. reading o kinds awaits_header place (next ++ rest))
    (λ awaits_header. joined (reading o kinds awaits_header place next) (λ later. reading o kinds later (at + length front) rest))
    (λ awaits_header. reading-joined o kinds awaits_header place next rest records fit whole.4
    ∙ ap (λ n. joined (reading o kinds awaits_header place next) (λ later. reading o kinds later n rest)) there)
    ∙ sym (joined_record o kinds head at bytes r (λ awaits_header. reading o kinds awaits_header place next) (λ later. reading o kinds later (at + length front) rest))
    ∙ ap (λ (x : Reading). joined x (λ later. reading o kinds later (at + length front) rest))
    (sym (reading-record o kinds head at r front next bytes fit (line_taken o r front line next whole.3 whole.2)))

pub reads_pieces : (o : Dialect) → IsDialect o → ReadsPieces o
reads_pieces o fit = λ kinds head at front rest records whole. reading-joined o kinds head at front rest records fit whole
