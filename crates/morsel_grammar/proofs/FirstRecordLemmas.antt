-- One record of a text: its bytes, its end, and the rows before a place.
use Rattle.std.proofs.Common.{◌≡◌, ◌≢◌, ℕ, suc, ◌+◌, ◌-◌, ◌<◌, ap, sym, subst, refl, ◌∙◌, inl, inr, arith, append_assoc, length-append, take, drop, get_or}
use Rattle.std.proofs.lemmas.List.{append-nil, append_cancel_right}
use Rattle.std.proofs.lemmas.Str.{IsUtf8-append, IsUtf8-nil, IsUtf8-take, IsUtf8-drop, IsCharBoundary-after_ascii}
use Rattle.std.proofs.Math.Seq.{take-append_seam, drop-append_seam, get_or-append_seam}
use Rattle.std.specs.Prelude.{Bool, true, false, not, ◌⊎◌, if◌then◌else◌, Option, Some, None, List, [], ◌∷◌, ◌++◌, length, IsUtf8}
use Rattle.morsel_meaning.specs.declared.value.ColType.{ColType}
use Rattle.morsel_grammar.specs.Dialect.{Dialect, IsDialect}
use Rattle.morsel_grammar.specs.Grammar.{CsvField, CsvRecord, Comment, Fields, IsRecord}
use Rattle.morsel_grammar.specs.Cells.{CsvCell, cell_of}
use Rattle.morsel_grammar.specs.Rows.{NoRow, IsRow, Misfit, is_empty, is_header, cells_of, row_or_misfit, row_of_nothing, row_of, behind_header, with_first_row, rows_of_records}
use Rattle.morsel_grammar.specs.GrammarRows.{awaits_header_after, HasRows, HasRowsBefore, HasOtherWidth}
use Rattle.morsel_grammar.proofs.RecordLemmas.{EndsIn, record_ends, takes_bytes}

-- the record's bytes, with its eol byte unless the text ends with it
pub record IsTaken (o : Dialect) (r : CsvRecord) (text next bytes : List ℕ) : Type 0 where
  pub is : IsRecord o r text next
  pub some : text ≢ []
  pub split : text ≡ bytes ++ next
  pub size : length text - length next ≡ length bytes
  pub shorter : length next < length text
  pub end : (next ≡ []) ⊎ ((line : List ℕ) × (bytes ≡ line ++ o.eol ∷ []))

pub bytes_taken : (o : Dialect) (r : CsvRecord) (text next bytes : List ℕ) → IsTaken o r text next bytes → take (length text - length next) text ≡ bytes
bytes_taken o r text next bytes taken =
    ap (λ n. take n text) taken.size ∙ ap (take (length bytes)) taken.split ∙ take-append_seam bytes next

taken_to : (o : Dialect) (r : CsvRecord) (text next : List ℕ) → IsRecord o r text next → text ≢ [] → length next < length text → EndsIn o (IsRecord o r) text next
    → (bytes : List ℕ) × IsTaken o r text next bytes
taken_to o r text next is some shorter (inl none) =
    let size : length next ≡ 0 = ap length none in (
      text,
      record {
        is = is;
        some = some;
        split = sym (append-nil text) ∙ ap (λ (x : List ℕ). text ++ x) (sym none);
        size = omega arith;
        shorter = shorter;
        end = inl none;
      },
    )
taken_to o r text next is some shorter (inr (line, split, again)) =
    let whole : text ≡ (line ++ o.eol ∷ []) ++ next = split ∙ sym (append_assoc line (o.eol ∷ []) next) in
    let size : length text ≡ length (line ++ o.eol ∷ []) + length next = ap length whole ∙ length-append (line ++ o.eol ∷ []) next in (
      line ++ o.eol ∷ [],
      record {
        is = is;
        some = some;
        split = whole;
        size = omega arith;
        shorter = shorter;
        end = inr (line, refl);
      },
    )

pub record_taken : (o : Dialect) (r : CsvRecord) (text next : List ℕ) → IsDialect o → IsRecord o r text next → text ≢ []
    → (bytes : List ℕ) × IsTaken o r text next bytes
record_taken o r text next fit is some =
    taken_to o r text next is some (takes_bytes o fit text r next is some).2 (record_ends o r text next fit is)

line_utf8 : (o : Dialect) (text next line : List ℕ) → IsDialect o → text ≡ (line ++ o.eol ∷ []) ++ next → IsUtf8 text → IsUtf8 (line ++ o.eol ∷ []) × IsUtf8 next
line_utf8 o text next line fit split utf8 =
    let bytes : List ℕ = line ++ o.eol ∷ [] in
    let one : length bytes ≡ length line + 1 = length-append line (o.eol ∷ []) in
    let all : length text ≡ length bytes + length next = ap length split ∙ length-append bytes next in
    let last : get_or text (length line) 0 ≡ o.eol = ap (λ x. get_or x (length line) 0) (split ∙ append_assoc line (o.eol ∷ []) next) ∙ get_or-append_seam line o.eol next 0 in
    let eol_ascii : o.eol < 128 = fit.eol_ascii in
    let cut = IsCharBoundary-after_ascii text (length line) utf8 (omega arith) (omega (arith, last)) in
    let P : List ℕ → Type 0 = λ x. IsUtf8 x in (
      subst P (ap (λ n. take n text) (sym one) ∙ ap (take (length bytes)) split ∙ take-append_seam bytes next) (IsUtf8-take text (length line + 1) utf8 cut),
      subst P (ap (λ n. drop n text) (sym one) ∙ ap (drop (length bytes)) split ∙ drop-append_seam bytes next) (IsUtf8-drop text (length line + 1) utf8 cut),
    )

utf8_by_end : (o : Dialect) (text next bytes : List ℕ) → IsDialect o → text ≡ bytes ++ next → (next ≡ []) ⊎ ((line : List ℕ) × (bytes ≡ line ++ o.eol ∷ []))
    → IsUtf8 text → IsUtf8 bytes × IsUtf8 next
utf8_by_end o text next bytes fit split (inl none) utf8 =
    let P : List ℕ → Type 0 = λ x. IsUtf8 x in
    (subst P (split ∙ ap (λ (x : List ℕ). bytes ++ x) none ∙ append-nil bytes) utf8, subst P (sym none) IsUtf8-nil)
utf8_by_end o text next bytes fit split (inr (line, is)) utf8 =
    let P : List ℕ → Type 0 = λ x. IsUtf8 x in
    let parts = line_utf8 o text next line fit (split ∙ ap (λ (x : List ℕ). x ++ next) is) utf8 in
    (subst P (sym is) parts.0, parts.1)

-- a text is UTF-8 exactly where its first record and what follows are
pub utf8_parts : (o : Dialect) (r : CsvRecord) (text next bytes : List ℕ) → IsDialect o → IsTaken o r text next bytes → IsUtf8 text → IsUtf8 bytes × IsUtf8 next
utf8_parts o r text next bytes fit taken utf8 = utf8_by_end o text next bytes fit taken.split taken.end utf8

pub utf8_whole : (o : Dialect) (r : CsvRecord) (text next bytes : List ℕ) → IsTaken o r text next bytes → IsUtf8 bytes → IsUtf8 next → IsUtf8 text
utf8_whole o r text next bytes taken first later =
    let P : List ℕ → Type 0 = λ x. IsUtf8 x in subst P (sym taken.split) (IsUtf8-append bytes next first later)

-- what a record does to the rows that follow: the header's state before and after it, and the rows with those that follow
pub record Adds (o : Dialect) (kinds : List ColType) (r : CsvRecord) (head awaits_header : Bool) (add : List (List CsvCell) → List (List CsvCell)) : Type 0 where
  pub rows_more : (records : List CsvRecord) (rows : List (List CsvCell)) → rows_of_records o kinds (behind_header awaits_header records) ≡ Some rows
      → rows_of_records o kinds (behind_header head (r ∷ records)) ≡ Some (add rows)
  pub awaits_header_more : (records : List CsvRecord) → awaits_header_after head (r ∷ records) ≡ awaits_header_after awaits_header records

header_behind : (records : List CsvRecord) (t : Bool) → behind_header (not t) records ≡ (if t then records else behind_header true records)
header_behind records true = refl
header_behind records false = refl

header_awaited : (records : List CsvRecord) (t : Bool) → (if t then false else awaits_header_after true records) ≡ awaits_header_after (not t) records
header_awaited records true = refl
header_awaited records false = refl

-- up to the header there are no rows
pub adds_header : (o : Dialect) (kinds : List ColType) (r : CsvRecord) → Adds o kinds r true (not (is_header r)) (λ rows. rows)
adds_header o kinds r = record {
  rows_more = λ records rows is. ap (rows_of_records o kinds) (sym (header_behind records (is_header r))) ∙ is;
  awaits_header_more = λ records. header_awaited records (is_header r);
}

pub adds_nothing : (o : Dialect) (kinds : List ColType) (r : CsvRecord) → row_of o kinds r ≡ NoRow → Adds o kinds r false false (λ rows. rows)
adds_nothing o kinds r none = record {
  rows_more = λ records rows is. ap (λ row. with_first_row row (rows_of_records o kinds records)) none ∙ is;
  awaits_header_more = λ records. refl;
}

pub adds_row : (o : Dialect) (kinds : List ColType) (r : CsvRecord) (cells : List CsvCell) → row_of o kinds r ≡ IsRow cells → Adds o kinds r false false (λ rows. cells ∷ rows)
adds_row o kinds r cells row = record {
  rows_more = λ records rows is. ap (λ row. with_first_row row (rows_of_records o kinds records)) row ∙ ap (with_first_row (IsRow cells)) is;
  awaits_header_more = λ records. refl;
}

-- the rows of a text are those of its first record and of what follows
pub rows_more : (o : Dialect) (kinds : List ColType) (r : CsvRecord) (head awaits_header later : Bool) (text next bytes : List ℕ) (add : List (List CsvCell) → List (List CsvCell)) (rows : List (List CsvCell))
    → IsTaken o r text next bytes → IsUtf8 bytes → Adds o kinds r head awaits_header add → HasRows o kinds awaits_header next rows later → HasRows o kinds head text (add rows) later
rows_more o kinds r head awaits_header later text next bytes add rows taken utf8 adds has = record {
  utf8 = utf8_whole o r text next bytes taken utf8 has.utf8;
  records = r ∷ has.records;
  split = (taken.some, next, taken.is, has.split);
  rows_are = adds.rows_more has.records rows has.rows_are;
  awaits_header_is = has.awaits_header_is ∙ sym (adds.awaits_header_more has.records);
}

before_line : (o : Dialect) (kinds : List ColType) (r : CsvRecord) (head awaits_header later : Bool) (at place : ℕ) (text next line rest : List ℕ) (add : List (List CsvCell) → List (List CsvCell)) (rows : List (List CsvCell))
    → IsDialect o → text ≡ line ++ o.eol ∷ next → ((more : List ℕ) → IsRecord o r (line ++ o.eol ∷ more) more) → IsUtf8 (line ++ o.eol ∷ []) → Adds o kinds r head awaits_header add
    → HasRowsBefore o kinds awaits_header (at + (length text - length next)) next place rows later rest → HasRowsBefore o kinds head at text place (add rows) later rest
before_line o kinds r head awaits_header later at place text next line rest add rows fit split again utf8 adds has =
    let P : List ℕ → Type 0 = λ x. IsUtf8 x in
    let all : length text ≡ length line + suc (length next) = ap length split ∙ length-append line (o.eol ∷ next) in
    let some : length (line ++ o.eol ∷ has.front) ≡ length line + suc (length has.front) = length-append line (o.eol ∷ has.front) in
    let place_is : place ≡ at + (length text - length next) + length has.front = has.place_is in
    record {
      front = line ++ o.eol ∷ has.front;
      records = r ∷ has.records;
      split = split ∙ ap (λ (x : List ℕ). line ++ o.eol ∷ x) has.split ∙ sym (append_assoc line (o.eol ∷ has.front) rest);
      place_is = omega arith;
      whole = (line, has.front, refl, again has.front, has.whole);
      utf8 = subst P (append_assoc line (o.eol ∷ []) has.front) (IsUtf8-append (line ++ o.eol ∷ []) has.front utf8 has.utf8);
      rows_are = adds.rows_more has.records rows has.rows_are;
      awaits_header_is = has.awaits_header_is ∙ sym (adds.awaits_header_more has.records);
      some_rest = has.some_rest;
    }

nothing_left : (next front rest : List ℕ) → next ≡ [] → next ≡ front ++ rest → rest ≡ []
nothing_left next [] rest none is = sym is ∙ none
nothing_left next (b ∷ front) rest none is = let never : [] ≡ b ∷ front ++ rest = sym none ∙ is in cc

before_by_end : (o : Dialect) (kinds : List ColType) (r : CsvRecord) (head awaits_header later : Bool) (at place : ℕ) (text next bytes rest : List ℕ) (add : List (List CsvCell) → List (List CsvCell)) (rows : List (List CsvCell))
    → IsDialect o → IsTaken o r text next bytes → IsUtf8 bytes → Adds o kinds r head awaits_header add → EndsIn o (IsRecord o r) text next
    → HasRowsBefore o kinds awaits_header (at + (length text - length next)) next place rows later rest → HasRowsBefore o kinds head at text place (add rows) later rest
before_by_end o kinds r head awaits_header later at place text next bytes rest add rows fit taken utf8 adds (inl none) has =
    absurd (has.some_rest (nothing_left next has.front rest none has.split))
before_by_end o kinds r head awaits_header later at place text next bytes rest add rows fit taken utf8 adds (inr (line, split, again)) has =
    let P : List ℕ → Type 0 = λ x. IsUtf8 x in
    let same : bytes ++ next ≡ (line ++ o.eol ∷ []) ++ next = sym taken.split ∙ split ∙ sym (append_assoc line (o.eol ∷ []) next) in
    before_line o kinds r head awaits_header later at place text next line rest add rows fit split again
    (subst P (append_cancel_right bytes (line ++ o.eol ∷ []) next same) utf8) adds has

-- the rows before a place after the first record are those of that record and of what follows
pub before_more : (o : Dialect) (kinds : List ColType) (r : CsvRecord) (head awaits_header later : Bool) (at place : ℕ) (text next bytes rest : List ℕ) (add : List (List CsvCell) → List (List CsvCell)) (rows : List (List CsvCell))
    → IsDialect o → IsTaken o r text next bytes → IsUtf8 bytes → Adds o kinds r head awaits_header add
    → HasRowsBefore o kinds awaits_header (at + (length text - length next)) next place rows later rest → HasRowsBefore o kinds head at text place (add rows) later rest
before_more o kinds r head awaits_header later at place text next bytes rest add rows fit taken utf8 adds has =
    before_by_end o kinds r head awaits_header later at place text next bytes rest add rows fit taken utf8 adds (record_ends o r text next fit taken.is) has

no_rows : (o : Dialect) (kinds : List ColType) (head : Bool) → rows_of_records o kinds (behind_header head []) ≡ Some []
no_rows o kinds true = refl
no_rows o kinds false = refl

awaits_header_as_before : (head : Bool) → head ≡ awaits_header_after head []
awaits_header_as_before true = refl
awaits_header_as_before false = refl

-- there is nothing before the beginning
pub before_first : (o : Dialect) (kinds : List ColType) (head : Bool) (at : ℕ) (text : List ℕ) → text ≢ [] → HasRowsBefore o kinds head at text at [] head text
before_first o kinds head at text some = record {
  front = [];
  records = [];
  split = refl;
  place_is = omega arith;
  whole = refl;
  utf8 = IsUtf8-nil;
  rows_are = no_rows o kinds head;
  awaits_header_is = awaits_header_as_before head;
  some_rest = some;
}

pub rows_of_nothing : (o : Dialect) (kinds : List ColType) (head : Bool) → HasRows o kinds head [] [] head
rows_of_nothing o kinds head = record {
  utf8 = IsUtf8-nil;
  records = [];
  split = refl;
  rows_are = no_rows o kinds head;
  awaits_header_is = awaits_header_as_before head;
}

-- a record of another width
cells_found : (o : Dialect) (kinds : List ColType) (fields : List CsvField) → length fields ≡ length kinds → (cells : List CsvCell) × (cells_of o kinds fields ≡ Some cells)
cells_found o [] [] same = ([], refl)
cells_found o [] (f ∷ fields) same = absurd (omega arith)
cells_found o (kind ∷ kinds) [] same = absurd (omega arith)
cells_found o (kind ∷ kinds) (f ∷ fields) same =
    let later = cells_found o kinds fields (omega arith) in
    (cell_of o kind f ∷ later.0, rw later.1 refl)

misfit_none : (found : Option (List CsvCell)) → row_or_misfit found ≡ Misfit → found ≡ None
misfit_none None is = refl
misfit_none (Some cells) is = cc

nothing_fits : (kinds : List ColType) → row_of_nothing kinds ≡ Misfit → ⊥
nothing_fits [] is = cc
nothing_fits (kind ∷ []) is = cc
nothing_fits (kind ∷ next ∷ kinds) is = cc

width_of : (o : Dialect) (kinds : List ColType) (fields : List CsvField) (t : Bool) → is_empty fields ≡ t
    → (if t then row_of_nothing kinds else row_or_misfit (cells_of o kinds fields)) ≡ Misfit → (is_empty fields ≡ false) × (length fields ≢ length kinds)
width_of o kinds fields true empty is = absurd (nothing_fits kinds is)
width_of o kinds fields false filled is = (
  filled,
  λ same. let found = cells_found o kinds fields same in
      let none : cells_of o kinds fields ≡ None = misfit_none (cells_of o kinds fields) is in
      let some : cells_of o kinds fields ≡ Some found.0 = found.1 in cc,
)

pub misfit_width : (o : Dialect) (kinds : List ColType) (r : CsvRecord) → row_of o kinds r ≡ Misfit → HasOtherWidth kinds r
misfit_width o kinds (Comment body) is = cc
misfit_width o kinds (Fields fields) is = width_of o kinds fields (is_empty fields) refl is
