-- What reading a text gives is what the grammar says of it.
use Rattle.std.proofs.Common.{◌≡◌, ◌≢◌, ℕ, zero, suc, ◌+◌, ◌-◌, ◌<◌, ◌≤◌, ap, sym, subst, refl, ◌∙◌, inl, inr, arith}
use Rattle.std.proofs.lemmas.Str.{IsUtf8-from_is_utf8, is_utf8-from_IsUtf8}
use Rattle.std.specs.Prelude.{Bool, true, false, not, if◌then◌else◌, Option, Some, None, List, [], ◌∷◌, ◌++◌, length, map, IsUtf8}
use Rattle.std.specs.Str.{is_utf8}
use Rattle.morsel_meaning.specs.declared.value.ColType.{ColType}
use Rattle.morsel_grammar.specs.Dialect.{Dialect, IsDialect}
use Rattle.morsel_grammar.specs.Grammar.{CsvRecord, IsRecord, Records}
use Rattle.morsel_grammar.specs.Cells.{CsvCell}
use Rattle.morsel_grammar.specs.Rows.{RowOf, NoRow, IsRow, Misfit, is_header, row_of, behind_header, with_first_row, rows_of_records}
use Rattle.morsel_grammar.specs.Split.{record_at}
use Rattle.morsel_grammar.specs.Reading.{Flaw, Malformed, NotUtf8, Refusal, Reading, ends, refuses, with_cells, row_then, record_then, split_then, reading_up_to, reading}
use Rattle.morsel_grammar.specs.GrammarRows.{awaits_header_after, HasRows, HasFlaw, IsRefusedAt, HasRowAt, CellsOfGrammar}
use Rattle.morsel_grammar.proofs.ByteLemmas.{true_not_false}
use Rattle.morsel_grammar.proofs.RecordLemmas.{IsFound, record_at-read, record_at-written, refuses_by_grammar, one_list}
use Rattle.morsel_grammar.proofs.FirstRecordLemmas.{IsTaken, bytes_taken, record_taken, utf8_parts, Adds, adds_header, adds_nothing, adds_row, rows_more, before_more, before_first, rows_of_nothing, misfit_width}

-- the cells of rows with places
abbrev pub cells_in : List (ℕ × List CsvCell) → List (List CsvCell)
cells_in rows = map (λ (row : ℕ × List CsvCell). row.1) rows

-- a reading says of the text what the grammar says
pub record IsReading (o : Dialect) (kinds : List ColType) (used : List Bool) (head : Bool) (at : ℕ) (text : List ℕ) (r : Reading) : Type 0 where
  pub done : r.refusal ≡ None → HasRows o kinds head text (cells_in r.rows) r.head
  pub stopped : (refusal : Refusal) → r.refusal ≡ Some refusal → IsRefusedAt o kinds used head at text (cells_in r.rows) refusal
  pub rows : (before : List (ℕ × List CsvCell)) (place : ℕ) (cells : List CsvCell) (after : List (ℕ × List CsvCell)) → r.rows ≡ before ++ (place, cells) ∷ after
      → HasRowAt o kinds head at text (cells_in before) place cells

no_middle : {A : Type 0} (before : List A) (x : A) (after : List A) → [] ≡ before ++ x ∷ after → ⊥
no_middle [] x after is = cc
no_middle (b ∷ before) x after is = cc

-- what is refused
refused : (o : Dialect) (kinds : List ColType) (used : List Bool) (head : Bool) (at : ℕ) (text : List ℕ) (flaw : Flaw) → text ≢ [] → HasFlaw o kinds used head text flaw
    → IsReading o kinds used head at text (refuses head at flaw)
refused o kinds used head at text flaw some has = record {
  done = λ none. cc;
  stopped = λ refusal is.
      let one : Refusal = record { at = at; flaw = flaw } in
      let same : one ≡ refusal = cc in
      let P : Refusal → Type 0 = λ x. IsRefusedAt o kinds used head at text [] x in
      subst P same (head, text, before_first o kinds head at text some, has);
  rows = λ before place cells after is. absurd (no_middle before (place, cells) after is);
}

-- the end of the text
ended : (o : Dialect) (kinds : List ColType) (used : List Bool) (head : Bool) (at : ℕ) → IsReading o kinds used head at [] (ends head)
ended o kinds used head at = record {
  done = λ none. rows_of_nothing o kinds head;
  stopped = λ refusal is. cc;
  rows = λ before place cells after is. absurd (no_middle before (place, cells) after is);
}

-- a record that is no row
passed : (o : Dialect) (kinds : List ColType) (used : List Bool) (head awaits_header : Bool) (at : ℕ) (text next bytes : List ℕ) (r : CsvRecord) (later : Reading)
    → IsDialect o → IsTaken o r text next bytes → IsUtf8 bytes → Adds o kinds r head awaits_header (λ rows. rows)
    → IsReading o kinds used awaits_header (at + (length text - length next)) next later → IsReading o kinds used head at text later
passed o kinds used head awaits_header at text next bytes r later fit taken utf8 adds is = record {
  done = λ none. rows_more o kinds r head awaits_header later.head text next bytes (λ rows. rows) (cells_in later.rows) taken utf8 adds (is.done none);
  stopped = λ refusal one.
      let at_end = is.stopped refusal one in (
        at_end.0,
        at_end.1,
        before_more o kinds r head awaits_header at_end.0 at refusal.at text next bytes at_end.1 (λ rows. rows) (cells_in later.rows) fit taken utf8 adds at_end.2,
        at_end.3,
      );
  rows = λ before place cells after one.
      let row = is.rows before place cells after one in (
        row.0,
        row.1,
        row.2,
        before_more o kinds r head awaits_header false at place text next bytes row.0 (λ rows. rows) (cells_in before) fit taken utf8 adds row.3,
        row.4,
        row.5,
      );
}

-- a record that is a row
row_here : (o : Dialect) (kinds : List ColType) (used : List Bool) (at : ℕ) (text next bytes : List ℕ) (r : CsvRecord) (cells : List CsvCell) (later : Reading)
    → IsDialect o → IsTaken o r text next bytes → IsUtf8 bytes → row_of o kinds r ≡ IsRow cells
    → IsReading o kinds used false (at + (length text - length next)) next later
    → (before : List (ℕ × List CsvCell)) (place : ℕ) (other : List CsvCell) (after : List (ℕ × List CsvCell)) → (at, cells) ∷ later.rows ≡ before ++ (place, other) ∷ after
    → HasRowAt o kinds false at text (cells_in before) place other
row_here o kinds used at text next bytes r cells later fit taken utf8 row is [] place other after one =
    let first : (ℕ × List CsvCell) → (ℕ × List CsvCell) → Type 0 = λ a b. a ≡ b in
    let same : first (at, cells) (place, other) = cc in
    let P : ℕ × List CsvCell → Type 0 = λ x. HasRowAt o kinds false at text [] x.0 x.1 in
    subst P same (text, r, next, before_first o kinds false at text taken.some, taken.is, row)
row_here o kinds used at text next bytes r cells later fit taken utf8 row is (b ∷ before) place other after one =
    let rest : later.rows ≡ before ++ (place, other) ∷ after = cc in
    let first : ℕ × List CsvCell = (at, cells) in
    let same : first ≡ b = cc in
    let found = is.rows before place other after rest in
    let P : ℕ × List CsvCell → Type 0 = λ x. HasRowAt o kinds false at text (x.1 ∷ cells_in before) place other in
    subst P same (
      found.0,
      found.1,
      found.2,
      before_more o kinds r false false false at place text next bytes found.0 (λ rows. cells ∷ rows) (cells_in before) fit taken utf8 (adds_row o kinds r cells row) found.3,
      found.4,
      found.5,
    )

added : (o : Dialect) (kinds : List ColType) (used : List Bool) (at : ℕ) (text next bytes : List ℕ) (r : CsvRecord) (cells : List CsvCell) (later : Reading)
    → IsDialect o → IsTaken o r text next bytes → IsUtf8 bytes → row_of o kinds r ≡ IsRow cells
    → IsReading o kinds used false (at + (length text - length next)) next later → IsReading o kinds used false at text (with_cells at cells later)
added o kinds used at text next bytes r cells later fit taken utf8 row is = record {
  done = λ none. rows_more o kinds r false false later.head text next bytes (λ rows. cells ∷ rows) (cells_in later.rows) taken utf8 (adds_row o kinds r cells row) (is.done none);
  stopped = λ refusal one.
      let at_end = is.stopped refusal one in (
        at_end.0,
        at_end.1,
        before_more o kinds r false false at_end.0 at refusal.at text next bytes at_end.1 (λ rows. cells ∷ rows) (cells_in later.rows) fit taken utf8 (adds_row o kinds r cells row) at_end.2,
        at_end.3,
      );
  rows = row_here o kinds used at text next bytes r cells later fit taken utf8 row is;
}

by_row : (o : Dialect) (kinds : List ColType) (used : List Bool) (at : ℕ) (text next bytes : List ℕ) (r : CsvRecord) (row : RowOf) (later : Reading)
    → IsDialect o → IsTaken o r text next bytes → IsUtf8 bytes → row_of o kinds r ≡ row
    → IsReading o kinds used false (at + (length text - length next)) next later → IsReading o kinds used false at text (row_then false at row later)
by_row o kinds used at text next bytes r NoRow later fit taken utf8 row is =
    passed o kinds used false false at text next bytes r later fit taken utf8 (adds_nothing o kinds r row) is
by_row o kinds used at text next bytes r (IsRow cells) later fit taken utf8 row is = added o kinds used at text next bytes r cells later fit taken utf8 row is
by_row o kinds used at text next bytes r Misfit later fit taken utf8 row is =
    refused o kinds used false at text Malformed taken.some (inr (r, next, taken.is, refl, misfit_width o kinds r row))

by_utf8 : (o : Dialect) (kinds : List ColType) (used : List Bool) (head : Bool) (at : ℕ) (text next bytes : List ℕ) (r : CsvRecord) (later : Bool → Reading) (t : Bool)
    → IsDialect o → IsTaken o r text next bytes → is_utf8 bytes ≡ t
    → ((awaits_header : Bool) → IsReading o kinds used awaits_header (at + (length text - length next)) next (later awaits_header))
    → IsReading o kinds used head at text (if t then (if head then later (not (is_header r)) else row_then false at (row_of o kinds r) (later false)) else refuses head at NotUtf8)
by_utf8 o kinds used true at text next bytes r later true fit taken utf8 is =
    passed o kinds used true (not (is_header r)) at text next bytes r (later (not (is_header r))) fit taken (IsUtf8-from_is_utf8 bytes utf8)
    (adds_header o kinds r) (is (not (is_header r)))
by_utf8 o kinds used false at text next bytes r later true fit taken utf8 is =
    by_row o kinds used at text next bytes r (row_of o kinds r) (later false) fit taken (IsUtf8-from_is_utf8 bytes utf8) refl (is false)
by_utf8 o kinds used head at text next bytes r later false fit taken utf8 is =
    refused o kinds used head at text NotUtf8 taken.some
    (r, bytes, next, taken.is, taken.split, λ valid. true_not_false (is_utf8 bytes) (is_utf8-from_IsUtf8 bytes valid) utf8)

-- what reads the texts that are shorter
abbrev Later : Type 0
Later = Bool → ℕ → List ℕ → Reading

by_record : (o : Dialect) (kinds : List ColType) (used : List Bool) (head : Bool) (at : ℕ) (text : List ℕ) (found : Option (CsvRecord × List ℕ)) (later : Later)
    → IsDialect o → text ≢ [] → record_at o text ≡ found
    → ((awaits_header : Bool) (place : ℕ) (rest : List ℕ) → length rest < length text → IsReading o kinds used awaits_header place rest (later awaits_header place rest))
    → IsReading o kinds used head at text (split_then o kinds head at text found later)
by_record o kinds used head at text None later fit some is shorter =
    refused o kinds used head at text Malformed some (inl ((refuses_by_grammar o fit text).0 is))
by_record o kinds used head at text (Some split) later fit some is shorter =
    let P : Option (CsvRecord × List ℕ) → Type 0 = λ found. IsFound o text found in
    let begins : IsRecord o split.0 text split.1 = subst P is (record_at-read o text) in
    let all = record_taken o split.0 text split.1 fit begins some in
    let Q : List ℕ → Type 0 = λ bytes. IsReading o kinds used head at text
    (record_then o kinds head at bytes split.0 (λ awaits_header. later awaits_header (at + (length text - length split.1)) split.1)) in
    subst Q (sym (bytes_taken o split.0 text split.1 all.0 all.1))
    (by_utf8 o kinds used head at text split.1 all.0 split.0 (λ awaits_header. later awaits_header (at + (length text - length split.1)) split.1) (is_utf8 all.0) fit all.1 refl
    (λ awaits_header. shorter awaits_header (at + (length text - length split.1)) split.1 all.1.shorter))

some_text : (b : ℕ) (bs : List ℕ) → b ∷ bs ≢ []
some_text b bs = λ is. cc

pub reading_up_to-is : (n : ℕ) (o : Dialect) (kinds : List ColType) (used : List Bool) (head : Bool) (at : ℕ) (text : List ℕ) → IsDialect o → length text ≤ n
    → IsReading o kinds used head at text (reading_up_to n o kinds head at text)
reading_up_to-is zero o kinds used head at [] fit enough = ended o kinds used head at
reading_up_to-is (suc n) o kinds used head at [] fit enough = ended o kinds used head at
reading_up_to-is zero o kinds used head at (b ∷ bs) fit enough = absurd (omega arith)
reading_up_to-is (suc n) o kinds used head at (b ∷ bs) fit enough =
    by_record o kinds used head at (b ∷ bs) (record_at o (b ∷ bs)) (λ awaits_header next rest. reading_up_to n o kinds awaits_header next rest) fit (some_text b bs) refl
    (λ awaits_header place rest shorter. reading_up_to-is n o kinds used awaits_header place rest fit (omega arith))

pub reading-is : (o : Dialect) (kinds : List ColType) (used : List Bool) (head : Bool) (at : ℕ) (text : List ℕ) → IsDialect o
    → IsReading o kinds used head at text (reading o kinds head at text)
reading-is o kinds used head at text fit = reading_up_to-is (length text) o kinds used head at text fit (omega arith)

cells_by_refusal : (o : Dialect) (kinds : List ColType) (head : Bool) (at : ℕ) (text : List ℕ) (r : Reading) (refusal : Option Refusal) → r.refusal ≡ refusal
    → IsReading o kinds [] head at text r → CellsOfGrammar o kinds head at text (cells_in r.rows) r.head refusal
cells_by_refusal o kinds head at text r None none is = is.done none
cells_by_refusal o kinds head at text r (Some refusal) one is = is.stopped refusal one

-- a reading is what the grammar says
pub reading-cells : (o : Dialect) (kinds : List ColType) (head : Bool) (at : ℕ) (text : List ℕ) → IsDialect o
    → (let r = reading o kinds head at text in CellsOfGrammar o kinds head at text (cells_in r.rows) r.head r.refusal)
reading-cells o kinds head at text fit =
    cells_by_refusal o kinds head at text (reading o kinds head at text) (reading o kinds head at text).refusal refl (reading-is o kinds [] head at text fit)

-- a text that has rows is read to its end
row_kept : (o : Dialect) (kinds : List ColType) (at : ℕ) (row : RowOf) (later : Reading) (found : Option (List (List CsvCell))) (rows : List (List CsvCell))
    → with_first_row row found ≡ Some rows → ((before : List (List CsvCell)) → found ≡ Some before → later.refusal ≡ None) → (row_then false at row later).refusal ≡ None
row_kept o kinds at NoRow later found rows is ends = ends rows is
row_kept o kinds at (IsRow cells) later None rows is ends = cc
row_kept o kinds at (IsRow cells) later (Some before) rows is ends = ends before refl
row_kept o kinds at Misfit later found rows is ends = cc

header_rows : (o : Dialect) (kinds : List ColType) (records : List CsvRecord) (t : Bool) (rows : List (List CsvCell))
    → rows_of_records o kinds (if t then records else behind_header true records) ≡ Some rows → rows_of_records o kinds (behind_header (not t) records) ≡ Some rows
header_rows o kinds records true rows is = is
header_rows o kinds records false rows is = is

head_kept : (o : Dialect) (kinds : List ColType) (head : Bool) (at : ℕ) (r : CsvRecord) (records : List CsvRecord) (rows : List (List CsvCell)) (later : Bool → Reading)
    → rows_of_records o kinds (behind_header head (r ∷ records)) ≡ Some rows
    → ((awaits_header : Bool) (before : List (List CsvCell)) → rows_of_records o kinds (behind_header awaits_header records) ≡ Some before → (later awaits_header).refusal ≡ None)
    → (if head then later (not (is_header r)) else row_then false at (row_of o kinds r) (later false)).refusal ≡ None
head_kept o kinds true at r records rows later is ends = ends (not (is_header r)) rows (header_rows o kinds records (is_header r) rows is)
head_kept o kinds false at r records rows later is ends =
    row_kept o kinds at (row_of o kinds r) (later false) (rows_of_records o kinds records) rows is (ends false)

utf8_kept : (o : Dialect) (kinds : List ColType) (head : Bool) (at : ℕ) (bytes : List ℕ) (r : CsvRecord) (later : Bool → Reading) → IsUtf8 bytes
    → (if head then later (not (is_header r)) else row_then false at (row_of o kinds r) (later false)).refusal ≡ None
    → (record_then o kinds head at bytes r later).refusal ≡ None
utf8_kept o kinds head at bytes r later utf8 kept = rw (is_utf8-from_IsUtf8 bytes utf8) kept

pub reading_up_to-ends : (n : ℕ) (o : Dialect) (kinds : List ColType) (head : Bool) (at : ℕ) (text : List ℕ) (records : List CsvRecord) (rows : List (List CsvCell))
    → IsDialect o → length text ≤ n → IsUtf8 text → Records o text records → rows_of_records o kinds (behind_header head records) ≡ Some rows
    → (reading_up_to n o kinds head at text).refusal ≡ None
reading_up_to-ends zero o kinds head at [] records rows fit enough utf8 split is = refl
reading_up_to-ends (suc n) o kinds head at [] records rows fit enough utf8 split is = refl
reading_up_to-ends zero o kinds head at (b ∷ bs) records rows fit enough utf8 split is = absurd (omega arith)
reading_up_to-ends (suc n) o kinds head at (b ∷ bs) [] rows fit enough utf8 split is = cc
reading_up_to-ends (suc n) o kinds head at (b ∷ bs) (r ∷ records) rows fit enough utf8 split is =
    let text : List ℕ = b ∷ bs in
    let next : List ℕ = split.1 in
    let later : Later = λ awaits_header place rest. reading_up_to n o kinds awaits_header place rest in
    let all = record_taken o r text next fit split.2 split.0 in
    let parts = utf8_parts o r text next all.0 fit all.1 utf8 in
    let shorter : length next < length text = all.1.shorter in
    let place : ℕ = at + (length text - length next) in
    let kept : (record_then o kinds head at all.0 r (λ awaits_header. later awaits_header place next)).refusal ≡ None =
    utf8_kept o kinds head at all.0 r (λ awaits_header. later awaits_header place next) parts.0
    (head_kept o kinds head at r records rows (λ awaits_header. later awaits_header place next) is
    (λ awaits_header before is_before. reading_up_to-ends n o kinds awaits_header place next records before fit (omega arith) parts.1 split.3 is_before)) in
    ap (λ found. (split_then o kinds head at text found later).refusal) (record_at-written o r text next fit split.2)
    ∙ ap (λ bytes. (record_then o kinds head at bytes r (λ awaits_header. later awaits_header place next)).refusal) (bytes_taken o r text next all.0 all.1)
    ∙ kept

-- two answers of the grammar are one
rows_same : (o : Dialect) (kinds : List ColType) (head : Bool) (text : List ℕ) (rows others : List (List CsvCell)) (awaits_header other : Bool) → IsDialect o
    → HasRows o kinds head text rows awaits_header → HasRows o kinds head text others other → (rows ≡ others) × (awaits_header ≡ other)
rows_same o kinds head text rows others awaits_header other fit is also =
    let same : is.records ≡ also.records = one_list o fit text is.records also.records is.split also.split in
    let found : Some rows ≡ Some others = sym is.rows_are ∙ ap (λ records. rows_of_records o kinds (behind_header head records)) same ∙ also.rows_are in
    (cc, is.awaits_header_is ∙ ap (awaits_header_after head) same ∙ sym also.awaits_header_is)

pub reading-ends : (o : Dialect) (kinds : List ColType) (head : Bool) (at : ℕ) (text : List ℕ) (rows : List (List CsvCell)) (awaits_header : Bool) → IsDialect o
    → HasRows o kinds head text rows awaits_header
    → (let r = reading o kinds head at text in (r.refusal ≡ None) × (cells_in r.rows ≡ rows) × (r.head ≡ awaits_header))
reading-ends o kinds head at text rows awaits_header fit is =
    let r = reading o kinds head at text in
    let none : r.refusal ≡ None = reading_up_to-ends (length text) o kinds head at text is.records rows fit (omega arith) is.utf8 is.split is.rows_are in
    let same = rows_same o kinds head text (cells_in r.rows) rows r.head awaits_header fit ((reading-is o kinds [] head at text fit).done none) is in
    (none, same.0, same.1)
