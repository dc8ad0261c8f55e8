-- Fields of a record that are kept are the same to the rows as all of them.
use Rattle.std.proofs.Common.{◌≡◌, ℕ, suc, ◌+◌, ◌-◌, ◌<◌, ◌≤◌, ◌∙◌, sym, ap, refl, arith, subst, Bool, true, false, not, if◌then◌else◌, List, [], ◌∷◌, ◌++◌, length, take, map, append_assoc, length-append}
use Rattle.std.proofs.lemmas.List.{append-nil}
use Rattle.std.specs.Prelude.{Option, Some}
use Rattle.std.specs.Str.{is_utf8}
use Rattle.morsel_meaning.specs.declared.value.ColType.{ColType}
use Rattle.morsel_meaning.specs.declared.fault.Fault.{Fault}
use Rattle.morsel_meaning.specs.Values.{Row}
use Rattle.morsel_grammar.specs.Dialect.{Dialect}
use Rattle.morsel_grammar.specs.Grammar.{CsvField, Fields}
use Rattle.morsel_grammar.specs.Rows.{RowOf, Misfit, is_empty, row_of_nothing, row_or_misfit, cells_of, row_of}
use Rattle.morsel_grammar.specs.Split.{record_at}
use Rattle.morsel_grammar.specs.Reading.{Reading, row_then, reading_up_to, read_of}
use Rattle.morsel_grammar.specs.Results.{IsRefused}
use Rattle.morsel_grammar.proofs.OneEndLemmas.{cells_of-other}
use Rattle.morsel_text.specs.RawFields.{shown, AreKept}
use Rattle.morsel_text.specs.Pushes.{AreTexts}
use Rattle.morsel_text.specs.Steps.{left, row_first}
use Rattle.morsel_text.specs.declared.raw_field.RawField.{RawField}
use Rattle.morsel_text.proofs.StepLemmas.{head_reading, row_steps, row_refused}

-- all are kept, where they are few
pub kept_all : (limit : ℕ) (all : List CsvField) → length all ≤ 64 → AreKept limit all all
kept_all limit all short = record { passed = []; front = sym (append-nil all); enough = λ some. absurd (omega (arith, some)); few = omega (arith, short) }

-- a field more is kept, where fewer than the limit are
pub kept_one : (limit : ℕ) (kept all : List CsvField) (f : CsvField) → length kept < limit → AreKept limit kept all → AreKept limit (kept ++ f ∷ []) (all ++ f ∷ [])
kept_one limit kept all f room is = by is.passed is.front is.enough
  where
    by : (passed : List CsvField) → all ≡ kept ++ passed → (0 < length passed → limit ≤ length kept) → AreKept limit (kept ++ f ∷ []) (all ++ f ∷ [])
    by [] front enough = record {
      passed = [];
      front = ap (λ (fs : List CsvField). fs ++ f ∷ []) (front ∙ append-nil kept) ∙ sym (append-nil (kept ++ f ∷ []));
      enough = λ some. absurd (omega (arith, some));
      few = omega (arith, length-append kept (f ∷ []), room);
    }
    by (g ∷ passed) front enough = absurd (omega (arith, enough (omega arith), room))

-- or it is passed over
pub kept_over : (limit : ℕ) (kept all : List CsvField) (f : CsvField) → limit ≤ length kept → AreKept limit kept all → AreKept limit kept (all ++ f ∷ [])
kept_over limit kept all f full is = record {
  passed = is.passed ++ f ∷ [];
  front = ap (λ (fs : List CsvField). fs ++ f ∷ []) is.front ∙ append_assoc kept is.passed (f ∷ []);
  enough = λ some. full;
  few = is.few;
}

-- fewer than the limit are all
pub kept_whole : (limit : ℕ) (kept all : List CsvField) → length kept < limit → AreKept limit kept all → all ≡ kept
kept_whole limit kept all room is = by is.passed is.front is.enough
  where
    by : (passed : List CsvField) → all ≡ kept ++ passed → (0 < length passed → limit ≤ length kept) → all ≡ kept
    by [] front enough = front ∙ append-nil kept
    by (g ∷ passed) front enough = absurd (omega (arith, enough (omega arith), room))

some_fields : (fields : List CsvField) → 2 ≤ length fields → is_empty fields ≡ false
some_fields [] two = absurd (omega (arith, two))
some_fields (f ∷ []) two = absurd (omega (arith, two))
some_fields (f ∷ g ∷ fields) two = refl

long_misfit : (o : Dialect) (kinds : List ColType) (fields : List CsvField) → length kinds + 2 ≤ length fields → row_of o kinds (Fields fields) ≡ Misfit
long_misfit o kinds fields long =
    ap (λ (t : Bool). if t then row_of_nothing kinds else row_or_misfit (cells_of o kinds fields)) (some_fields fields (omega (arith, long)))
    ∙ ap row_or_misfit (cells_of-other o kinds fields (λ same. absurd (omega (arith, same, long))))

-- with two fields kept, a record is empty where it is empty of those that are kept
pub kept_empty : (limit : ℕ) (kept all : List CsvField) → 2 ≤ limit → AreKept limit kept all → is_empty all ≡ is_empty kept
kept_empty limit kept all two is = by is.passed is.front is.enough
  where
    by : (passed : List CsvField) → all ≡ kept ++ passed → (0 < length passed → limit ≤ length kept) → is_empty all ≡ is_empty kept
    by [] front enough = ap is_empty (front ∙ append-nil kept)
    by (g ∷ passed) front enough =
        let long = enough (omega arith) in
        some_fields all (omega (arith, two, long, ap length front, length-append kept (g ∷ passed))) ∙ sym (some_fields kept (omega (arith, two, long)))

-- with two fields more kept than there are columns, a record is the row that those are
pub kept_row : (limit : ℕ) (o : Dialect) (kinds : List ColType) (kept all : List CsvField) → length kinds + 2 ≤ limit → AreKept limit kept all
    → row_of o kinds (Fields all) ≡ row_of o kinds (Fields kept)
kept_row limit o kinds kept all wide is = by is.passed is.front is.enough
  where
    by : (passed : List CsvField) → all ≡ kept ++ passed → (0 < length passed → limit ≤ length kept) → row_of o kinds (Fields all) ≡ row_of o kinds (Fields kept)
    by [] front enough = ap (λ (fs : List CsvField). row_of o kinds (Fields fs)) (front ∙ append-nil kept)
    by (g ∷ passed) front enough =
        let long = enough (omega arith) in
        long_misfit o kinds all (omega (arith, wide, long, ap length front, length-append kept (g ∷ passed))) ∙ sym (long_misfit o kinds kept (omega (arith, wide, long)))

texts_front : (kept passed : List CsvField) → AreTexts (kept ++ passed) → AreTexts kept
texts_front [] passed texts = tt
texts_front (f ∷ kept) passed texts = (texts.0, texts_front kept passed texts.1)

pub kept_texts : (limit : ℕ) (kept all : List CsvField) → AreKept limit kept all → AreTexts all → AreTexts kept
kept_texts limit kept all is texts = texts_front kept is.passed (subst AreTexts is.front texts)

-- the same of the slice that code sees
pub kept_slice : (limit : ℕ) (raws slice : List RawField) (all : List CsvField) → slice ≡ raws → AreKept limit (map shown raws) all → AreKept limit (map shown slice) all
kept_slice limit raws slice all same is = subst (λ (fs : List RawField). AreKept limit (map shown fs) all) (sym same) is

not_twice : (t : Bool) → not (not t) ≡ t
not_twice true = refl
not_twice false = refl

-- so reading goes on after the record as after those of its fields that are kept
pub kept_head : (n limit : ℕ) (o : Dialect) (ks : List ColType) (head awaits_header : Bool) (at : ℕ) (text rest : List ℕ) (kept all : List CsvField) → 0 < length text
    → record_at o text ≡ Some (Fields all, rest) → is_utf8 (take (length text - length rest) text) ≡ true → head ≡ true → 2 ≤ limit → AreKept limit kept all → awaits_header ≡ is_empty kept
    → reading_up_to (suc n) o ks head at text ≡ reading_up_to n o ks awaits_header (at + (length text - length rest)) rest
kept_head n limit o ks head awaits_header at text rest kept all some found utf8 before two is awaits =
    ap (λ (h : Bool). reading_up_to (suc n) o ks h at text) before ∙ head_reading n o ks at text rest (Fields all) some found utf8
    ∙ ap (λ (h : Bool). reading_up_to n o ks h (at + (length text - length rest)) rest) (not_twice (is_empty all) ∙ kept_empty limit kept all two is ∙ sym awaits)

pub kept_steps : (n : ℕ) (o : Dialect) (ks : List ColType) (used : List Bool) (head : Bool) (at : ℕ) (text rest : List ℕ) (kept all : List CsvField) (row : Option Row) → 0 < length text
    → record_at o text ≡ Some (Fields all, rest) → is_utf8 (take (length text - length rest) text) ≡ true → head ≡ false → row_of o ks (Fields all) ≡ row_of o ks (Fields kept)
    → ((later : Reading) → read_of used (row_then false at (row_of o ks (Fields kept)) later) ≡ row_first at row (read_of used later))
    → left (suc n) o ks used head at text ≡ row_first at row (left n o ks used false (at + (length text - length rest)) rest)
kept_steps n o ks used head at text rest kept all row some found utf8 behind same gives =
    row_steps n o ks used head at text rest (Fields all) row some found utf8 behind
    (λ later. ap (λ (r : RowOf). read_of used (row_then false at r later)) same ∙ gives later)

pub kept_refused : (n : ℕ) (o : Dialect) (ks : List ColType) (used : List Bool) (head : Bool) (at file : ℕ) (text rest : List ℕ) (kept all : List CsvField) (fault : Fault) → 0 < length text
    → record_at o text ≡ Some (Fields all, rest) → is_utf8 (take (length text - length rest) text) ≡ true → head ≡ false → row_of o ks (Fields all) ≡ row_of o ks (Fields kept)
    → ((later : Reading) → IsRefused file (read_of used (row_then false at (row_of o ks (Fields kept)) later)).refusal fault)
    → IsRefused file (left (suc n) o ks used head at text).refusal fault
kept_refused n o ks used head at file text rest kept all fault some found utf8 behind same gives =
    row_refused n o ks used head at file text rest (Fields all) fault some found utf8 behind
    (λ later. subst (λ (r : RowOf). IsRefused file (read_of used (row_then false at r later)).refusal fault) (sym same) (gives later))
