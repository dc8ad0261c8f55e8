-- The records up to a header: they end with their eol bytes, unless the text ends with them.
use Rattle.std.proofs.Common.{◌≡◌, ℕ, ◌+◌, ◌<◌, ◌≤◌, ◌∙◌, sym, ap, refl, arith, subst, inl, inr, Bool, true, false, List, [], ◌∷◌, ◌++◌, length, take, drop, append_assoc, length-append}
use Rattle.std.proofs.Math.Seq.{take-add}
use Rattle.std.proofs.lemmas.List.{drop-drop, drop_all, length-drop, take_at, append-nil}
use Rattle.std.specs.Prelude.{◌⊎◌, Some, if◌then◌else◌}
use Rattle.morsel_grammar.specs.Dialect.{Dialect, IsDialect}
use Rattle.morsel_grammar.specs.Grammar.{CsvRecord, IsRecord, Records}
use Rattle.morsel_grammar.specs.Split.{record_at}
use Rattle.morsel_grammar.specs.Rows.{is_header}
use Rattle.morsel_grammar.specs.GrammarRows.{AreWholeRecords}
use Rattle.morsel_grammar.proofs.WholeRecordLemmas.{ends_with_eol, stands_whatever_follows, joins_whole}
use Rattle.morsel_cut.specs.FirstEnds.{record_size}
use Rattle.morsel_cut.specs.RowCounts.{up_to_header, EndsHeadWhole}
use Rattle.morsel_cut.proofs.SizeLemmas.{HasFirst, has_first, record_size-le}
use Rattle.morsel_cut.proofs.RowLemmas.{nothing_left, something_left}

-- so many bytes of the text are these records, each with its eol byte, or all that there is
abbrev AreWholeOrAll : Dialect → List ℕ → ℕ → List CsvRecord → Type 0
AreWholeOrAll o text len records = AreWholeRecords o (take len text) records ⊎ (length text ≤ len)

-- the first record of a text
one_whole : (o : Dialect) (text : List ℕ) (r : CsvRecord) (rest : List ℕ) (size : ℕ) → IsDialect o → IsRecord o r text rest → rest ≡ drop size text → size ≤ length text
    → (rest ≡ []) ⊎ ((line : List ℕ) × (text ≡ line ++ o.eol ∷ rest)) → AreWholeOrAll o text size (r ∷ [])
one_whole o text r rest size fit is rest_is within (inl none) = inr (omega (arith, ap length rest_is, length-drop size text, ap length none))
one_whole o text r rest size fit is rest_is within (inr (line, text_is)) =
    let parts : text ≡ (line ++ o.eol ∷ []) ++ rest = text_is ∙ sym (append_assoc line (o.eol ∷ []) rest) in
    let front_size : length (line ++ o.eol ∷ []) ≡ size =
    omega (arith, ap length parts, length-append (line ++ o.eol ∷ []) rest, ap length rest_is, length-drop size text) in
    let front : take size text ≡ line ++ o.eol ∷ [] = ap (take size) parts ∙ take_at (line ++ o.eol ∷ []) rest size front_size in
    inl (line, [], front, subst (λ (x : List ℕ). IsRecord o r x []) (sym front) (stands_whatever_follows o fit text r line rest is text_is []), refl)

first_whole : (o : Dialect) (text : List ℕ) (r : CsvRecord) (records : List CsvRecord) → IsDialect o → HasFirst o text r records → AreWholeOrAll o text (record_size o text) (r ∷ [])
first_whole o text r records fit first =
    let rest = drop (record_size o text) text in
    one_whole o text r rest (record_size o text) fit first.is refl (record_size-le o text) (ends_with_eol o fit text r rest first.is)

-- records up to a place, none of which is the header, and those that are left
pub record HasPassedWhole (o : Dialect) (bytes : List ℕ) (at : ℕ) (records : List CsvRecord) : Type 0 where
  pub front : List CsvRecord
  pub left : List CsvRecord
  pub passed : AreWholeRecords o (take at bytes) front ⊎ (length bytes ≤ at)
  pub rest : Records o (drop at bytes) left
  pub up_to : up_to_header records ≡ front ++ up_to_header left

pub passed_whole_none : (o : Dialect) (bytes : List ℕ) (records : List CsvRecord) → Records o bytes records → HasPassedWhole o bytes 0 records
passed_whole_none o bytes records are = record { front = []; left = records; passed = inl refl; rest = are; up_to = refl }

-- one record more
joins_first : (o : Dialect) (bytes : List ℕ) (at size : ℕ) (front : List CsvRecord) (r : CsvRecord) → IsDialect o → at < length bytes → AreWholeOrAll o bytes at front
    → AreWholeOrAll o (drop at bytes) size (r ∷ []) → AreWholeOrAll o bytes (at + size) (front ++ r ∷ [])
joins_first o bytes at size front r fit within (inr over) one = absurd (omega arith)
joins_first o bytes at size front r fit within (inl passed) (inr over) = inr (omega (arith, length-drop at bytes))
joins_first o bytes at size front r fit within (inl passed) (inl one) =
    inl (subst (λ (x : List ℕ). AreWholeRecords o x (front ++ r ∷ [])) (sym (take-add at size bytes))
    (joins_whole o fit (take at bytes) (take size (drop at bytes)) front (r ∷ []) passed one))

passes_whole_by : (o : Dialect) (bytes : List ℕ) (at : ℕ) (records front left : List CsvRecord) → IsDialect o → at < length bytes → AreWholeOrAll o bytes at front
    → Records o (drop at bytes) left → up_to_header records ≡ front ++ up_to_header left
    → ((r : CsvRecord) (after : List ℕ) → record_at o (drop at bytes) ≡ Some (r, after) → false ≡ is_header r)
    → HasPassedWhole o bytes (at + record_size o (drop at bytes)) records
passes_whole_by o bytes at records front [] fit within passed rest up_to test_is = absurd (something_left o bytes at within rest)
passes_whole_by o bytes at records front (r ∷ left) fit within passed rest up_to test_is =
    let size = record_size o (drop at bytes) in
    let first = has_first o (drop at bytes) r left fit rest in
    let no_header : is_header r ≡ false = sym (test_is r (drop size (drop at bytes)) first.read) in
    record {
      front = front ++ r ∷ [];
      left = left;
      passed = joins_first o bytes at size front r fit within passed (first_whole o (drop at bytes) r left fit first);
      rest = subst (λ (x : List ℕ). Records o x left) (drop-drop size at bytes) first.later;
      up_to = up_to
          ∙ ap (λ (t : Bool). front ++ r ∷ (if t then [] else up_to_header left)) no_header
          ∙ sym (append_assoc front (r ∷ []) (up_to_header left));
    }

pub passes_whole : (o : Dialect) (bytes rest : List ℕ) (at size : ℕ) (test : Bool) (records : List CsvRecord) → IsDialect o → at < length bytes → rest ≡ drop at bytes
    → HasPassedWhole o bytes at records → size ≡ record_size o rest → ((r : CsvRecord) (after : List ℕ) → record_at o rest ≡ Some (r, after) → test ≡ is_header r) → test ≡ false
    → HasPassedWhole o bytes (at + size) records
passes_whole o bytes rest at size test records fit within rest_is has size_is test_is failed =
    subst (λ (n : ℕ). HasPassedWhole o bytes (at + n) records) (ap (record_size o) (sym rest_is) ∙ sym size_is)
    (passes_whole_by o bytes at records has.front has.left fit within has.passed has.rest has.up_to
    (λ r after read. sym failed ∙ test_is r after (ap (record_at o) rest_is ∙ read)))

-- the header
ends_whole_by : (o : Dialect) (bytes : List ℕ) (at : ℕ) (records front left : List CsvRecord) → IsDialect o → at < length bytes → AreWholeOrAll o bytes at front
    → Records o (drop at bytes) left → up_to_header records ≡ front ++ up_to_header left
    → ((r : CsvRecord) (after : List ℕ) → record_at o (drop at bytes) ≡ Some (r, after) → true ≡ is_header r)
    → EndsHeadWhole o bytes records (at + record_size o (drop at bytes))
ends_whole_by o bytes at records front [] fit within passed rest up_to test_is = absurd (something_left o bytes at within rest)
ends_whole_by o bytes at records front (r ∷ left) fit within passed rest up_to test_is =
    let size = record_size o (drop at bytes) in
    let first = has_first o (drop at bytes) r left fit rest in
    let header : is_header r ≡ true = sym (test_is r (drop size (drop at bytes)) first.read) in
    subst (λ (x : List CsvRecord). AreWholeOrAll o bytes (at + size) x)
    (sym (up_to ∙ ap (λ (t : Bool). front ++ r ∷ (if t then [] else up_to_header left)) header))
    (joins_first o bytes at size front r fit within passed (first_whole o (drop at bytes) r left fit first))

pub ends_whole : (o : Dialect) (bytes rest : List ℕ) (at size : ℕ) (test : Bool) (records : List CsvRecord) → IsDialect o → at < length bytes → rest ≡ drop at bytes
    → HasPassedWhole o bytes at records → size ≡ record_size o rest → ((r : CsvRecord) (after : List ℕ) → record_at o rest ≡ Some (r, after) → test ≡ is_header r) → test ≡ true
    → EndsHeadWhole o bytes records (at + size)
ends_whole o bytes rest at size test records fit within rest_is has size_is test_is held =
    subst (λ (n : ℕ). EndsHeadWhole o bytes records (at + n)) (ap (record_size o) (sym rest_is) ∙ sym size_is)
    (ends_whole_by o bytes at records has.front has.left fit within has.passed has.rest has.up_to
    (λ r after read. sym held ∙ test_is r after (ap (record_at o) rest_is ∙ read)))

-- no header up to the end
pub ends_whole_nowhere : (o : Dialect) (bytes : List ℕ) (at : ℕ) (records : List CsvRecord) → length bytes ≤ at → HasPassedWhole o bytes at records → EndsHeadWhole o bytes records at
ends_whole_nowhere o bytes at records over has = inr over
