-- The rows of the records up to a place, and the header, one record after the other.
use Rattle.std.proofs.Common.{◌≡◌, ℕ, zero, suc, ◌+◌, ◌<◌, ◌≤◌, ◌∙◌, sym, ap, refl, arith, subst, inl, inr, Bool, true, false, cond, List, [], ◌∷◌, ◌++◌, length, take, drop, append_assoc}
use Rattle.std.proofs.Math.Seq.{take-add}
use Rattle.std.proofs.lemmas.List.{drop-drop, drop_all, length-drop, length-take, take_all, take_at}
use Rattle.std.proofs.Common.{length-append}
use Rattle.std.proofs.lemmas.List.Sums.{sum_by-cons}
use Rattle.std.specs.Prelude.{Some, ◌⊎◌, if◌then◌else◌}
use Rattle.morsel_grammar.specs.Dialect.{Dialect, IsDialect}
use Rattle.morsel_grammar.specs.Grammar.{CsvRecord, IsRecord, Records}
use Rattle.morsel_grammar.specs.Split.{record_at}
use Rattle.morsel_grammar.specs.Rows.{is_header, behind_header}
use Rattle.morsel_grammar.specs.GrammarRows.{awaits_header_after}
use Rattle.morsel_grammar.proofs.WholeRecordLemmas.{ends_with_eol, stands_whatever_follows}
use Rattle.morsel_cut.specs.FirstEnds.{record_size}
use Rattle.morsel_cut.specs.RowCounts.{is_row, row_count, up_to_header, EndsHead}
use Rattle.morsel_cut.proofs.SizeLemmas.{HasFirst, has_first, record_size-le, record_size-some}

pub nothing_left : (o : Dialect) (bytes : List ℕ) (at : ℕ) (records : List CsvRecord) → length bytes ≤ at → Records o (drop at bytes) records → records ≡ []
nothing_left o bytes at [] over are = refl
nothing_left o bytes at (r ∷ records) over are = absurd (are.0 (drop_all at bytes over))

pub something_left : (o : Dialect) (bytes : List ℕ) (at : ℕ) → at < length bytes → Records o (drop at bytes) [] → ⊥
something_left o bytes at within none =
    let size : length (drop at bytes) ≡ 0 = ap length none in
    omega (arith, size, length-drop at bytes)

-- the records that are left at a place, and the rows so far
pub record HasCounted (o : Dialect) (columns : ℕ) (bytes : List ℕ) (at rows : ℕ) (records : List CsvRecord) : Type 0 where
  pub left : List CsvRecord
  pub are : Records o (drop at bytes) left
  pub counted : rows + row_count columns left ≡ row_count columns records

pub counted_none : (o : Dialect) (columns : ℕ) (bytes : List ℕ) (records : List CsvRecord) → Records o bytes records → HasCounted o columns bytes 0 0 records
counted_none o columns bytes records are = record { left = records; are = are; counted = omega arith }

counts_by : (o : Dialect) (columns : ℕ) (bytes : List ℕ) (at rows more : ℕ) (test : Bool) (records left : List CsvRecord) → IsDialect o → at < length bytes
    → Records o (drop at bytes) left → rows + row_count columns left ≡ row_count columns records
    → ((r : CsvRecord) (after : List ℕ) → record_at o (drop at bytes) ≡ Some (r, after) → test ≡ is_row columns r) → more ≡ (if test then 1 else 0)
    → HasCounted o columns bytes (at + record_size o (drop at bytes)) (rows + more) records
counts_by o columns bytes at rows more test records [] fit within are counted test_is more_is = absurd (something_left o bytes at within are)
counts_by o columns bytes at rows more test records (r ∷ left) fit within are counted test_is more_is =
    let rest = drop at bytes in
    let first = has_first o rest r left fit are in
    let one : more ≡ (if is_row columns r then 1 else 0) = more_is ∙ ap (λ (t : Bool). if t then 1 else 0) (test_is r (drop (record_size o rest) rest) first.read) in
    record {
      left = left;
      are = subst (λ (x : List ℕ). Records o x left) (drop-drop (record_size o rest) at bytes) first.later;
      counted = omega (arith, one, counted, sum_by-cons (λ (x : CsvRecord). cond (is_row columns x) 1 0) r left);
    }

pub counts_on : (o : Dialect) (columns : ℕ) (bytes rest : List ℕ) (at size rows more : ℕ) (test : Bool) (records : List CsvRecord) → IsDialect o → at < length bytes → rest ≡ drop at bytes
    → HasCounted o columns bytes at rows records → size ≡ record_size o rest
    → ((r : CsvRecord) (after : List ℕ) → record_at o rest ≡ Some (r, after) → test ≡ is_row columns r) → more ≡ (if test then 1 else 0)
    → HasCounted o columns bytes (at + size) (rows + more) records
counts_on o columns bytes rest at size rows more test records fit within rest_is has size_is test_is more_is =
    subst (λ (n : ℕ). HasCounted o columns bytes (at + n) (rows + more) records) (ap (record_size o) (sym rest_is) ∙ sym size_is)
    (counts_by o columns bytes at rows more test records has.left fit within has.are has.counted
    (λ r after read. test_is r after (ap (record_at o) rest_is ∙ read)) more_is)

pub counted_all : (o : Dialect) (columns : ℕ) (bytes : List ℕ) (at rows : ℕ) (records : List CsvRecord) → length bytes ≤ at → HasCounted o columns bytes at rows records
    → rows ≡ row_count columns records
counted_all o columns bytes at rows records over counted =
    let none : row_count columns counted.left ≡ 0 = ap (row_count columns) (nothing_left o bytes at counted.left over counted.are) in
    omega (arith, none, counted.counted)

-- the records up to a place, none of which is the header, and those that are left
pub record HasPassedTo (o : Dialect) (bytes : List ℕ) (at : ℕ) (records : List CsvRecord) : Type 0 where
  pub front : List CsvRecord
  pub left : List CsvRecord
  pub are : Records o (drop at bytes) left
  pub up_to : up_to_header records ≡ front ++ up_to_header left
  pub behind : behind_header true records ≡ behind_header true left
  pub awaits : awaits_header_after true records ≡ awaits_header_after true left
  pub joins : (n : ℕ) (more : List CsvRecord) → Records o (take n (drop at bytes)) more → Records o (take (at + n) bytes) (front ++ more)

take_nothing : (n : ℕ) → take {A = ℕ} n [] ≡ []
take_nothing zero = refl
take_nothing (suc n) = refl

-- the first record, with so many bytes of what follows
again_by : (o : Dialect) (r : CsvRecord) (text rest : List ℕ) (size n : ℕ) → IsDialect o → rest ≡ drop size text → size ≤ length text → IsRecord o r text rest
    → (rest ≡ []) ⊎ ((line : List ℕ) × (text ≡ line ++ o.eol ∷ rest)) → IsRecord o r (take (size + n) text) (take n rest)
again_by o r text rest size n fit rest_is within is (inl none) =
    let over : length text ≤ size + n = omega (arith, ap length rest_is, length-drop size text, ap length none) in
    let same : rest ≡ take n rest = none ∙ sym (ap (take n) none ∙ take_nothing n) in
    subst (λ (x : List ℕ). IsRecord o r (take (size + n) text) x) same (subst (λ (x : List ℕ). IsRecord o r x rest) (sym (take_all (size + n) text over)) is)
again_by o r text rest size n fit rest_is within is (inr (line, text_is)) =
    let all : length text ≡ length line + suc (length rest) = ap length text_is ∙ length-append line (o.eol ∷ rest) in
    let whole : length (line ++ o.eol ∷ []) ≡ size = omega (arith, length-append line (o.eol ∷ []), ap length rest_is, length-drop size text) in
    let front : take size text ≡ line ++ o.eol ∷ [] =
    ap (take size) (text_is ∙ sym (append_assoc line (o.eol ∷ []) rest)) ∙ take_at (line ++ o.eol ∷ []) rest size whole in
    let both : take (size + n) text ≡ line ++ o.eol ∷ take n rest =
    take-add size n text
    ∙ ap (λ (x : List ℕ). x ++ take n (drop size text)) front
    ∙ append_assoc line (o.eol ∷ []) (take n (drop size text))
    ∙ ap (λ (x : List ℕ). line ++ o.eol ∷ take n x) (sym rest_is) in
    subst (λ (x : List ℕ). IsRecord o r x (take n rest)) (sym both) (stands_whatever_follows o fit text r line rest is text_is (take n rest))

record_joins : (o : Dialect) (text : List ℕ) (r : CsvRecord) (records : List CsvRecord) (n : ℕ) (more : List CsvRecord) → IsDialect o → 0 < length text → HasFirst o text r records
    → Records o (take n (drop (record_size o text) text)) more → Records o (take (record_size o text + n) text) (r ∷ more)
record_joins o text r records n more fit some first are =
    let size = record_size o text in
    let rest = drop size text in (
      λ none. let empty : length (take (size + n) text) ≡ 0 = ap length none in omega (arith, empty, length-take (size + n) text, record_size-some o text some),
      take n rest,
      again_by o r text rest size n fit refl (record_size-le o text) first.is (ends_with_eol o fit text r rest first.is),
      are,
    )

pub passed_none : (o : Dialect) (bytes : List ℕ) (records : List CsvRecord) → Records o bytes records → HasPassedTo o bytes 0 records
passed_none o bytes records are = record {
  front = [];
  left = records;
  are = are;
  up_to = refl;
  behind = refl;
  awaits = refl;
  joins = λ n more here. let e : n ≡ 0 + n = omega arith in subst (λ (k : ℕ). Records o (take k bytes) more) e here;
}

-- a record that is no header
passes_by : (o : Dialect) (bytes : List ℕ) (at : ℕ) (records front left : List CsvRecord) → IsDialect o → at < length bytes → Records o (drop at bytes) left
    → up_to_header records ≡ front ++ up_to_header left → behind_header true records ≡ behind_header true left
    → awaits_header_after true records ≡ awaits_header_after true left
    → ((n : ℕ) (more : List CsvRecord) → Records o (take n (drop at bytes)) more → Records o (take (at + n) bytes) (front ++ more))
    → ((r : CsvRecord) (after : List ℕ) → record_at o (drop at bytes) ≡ Some (r, after) → false ≡ is_header r)
    → HasPassedTo o bytes (at + record_size o (drop at bytes)) records
passes_by o bytes at records front [] fit within are up_to behind awaits joins test_is = absurd (something_left o bytes at within are)
passes_by o bytes at records front (r ∷ left) fit within are up_to behind awaits joins test_is =
    let rest = drop at bytes in
    let size = record_size o rest in
    let first = has_first o rest r left fit are in
    let some : 0 < length rest = omega (arith, length-drop at bytes) in
    let no_header : is_header r ≡ false = sym (test_is r (drop size rest) first.read) in
    record {
      front = front ++ r ∷ [];
      left = left;
      are = subst (λ (x : List ℕ). Records o x left) (drop-drop size at bytes) first.later;
      up_to = up_to
          ∙ ap (λ (t : Bool). front ++ r ∷ (if t then [] else up_to_header left)) no_header
          ∙ sym (append_assoc front (r ∷ []) (up_to_header left));
      behind = behind ∙ ap (λ (t : Bool). if t then left else behind_header true left) no_header;
      awaits = awaits ∙ ap (λ (t : Bool). if t then false else awaits_header_after true left) no_header;
      joins = λ n more here.
          let here_too = subst (λ (x : List ℕ). Records o (take n x) more) (sym (drop-drop size at bytes)) here in
          let place : at + (size + n) ≡ at + size + n = omega arith in
          subst (λ (k : ℕ). Records o (take k bytes) ((front ++ r ∷ []) ++ more)) place
          (subst (λ (x : List CsvRecord). Records o (take (at + (size + n)) bytes) x) (sym (append_assoc front (r ∷ []) more))
          (joins (size + n) (r ∷ more) (record_joins o rest r left n more fit some first here_too)));
    }

pub passes_record : (o : Dialect) (bytes rest : List ℕ) (at size : ℕ) (test : Bool) (records : List CsvRecord) → IsDialect o → at < length bytes → rest ≡ drop at bytes
    → HasPassedTo o bytes at records → size ≡ record_size o rest → ((r : CsvRecord) (after : List ℕ) → record_at o rest ≡ Some (r, after) → test ≡ is_header r) → test ≡ false
    → HasPassedTo o bytes (at + size) records
passes_record o bytes rest at size test records fit within rest_is has size_is test_is failed =
    subst (λ (n : ℕ). HasPassedTo o bytes (at + n) records) (ap (record_size o) (sym rest_is) ∙ sym size_is)
    (passes_by o bytes at records has.front has.left fit within has.are has.up_to has.behind has.awaits has.joins
    (λ r after read. sym failed ∙ test_is r after (ap (record_at o) rest_is ∙ read)))

-- the header
found_by : (o : Dialect) (bytes : List ℕ) (at : ℕ) (records front left : List CsvRecord) → IsDialect o → at < length bytes → Records o (drop at bytes) left
    → up_to_header records ≡ front ++ up_to_header left → behind_header true records ≡ behind_header true left
    → awaits_header_after true records ≡ awaits_header_after true left
    → ((n : ℕ) (more : List CsvRecord) → Records o (take n (drop at bytes)) more → Records o (take (at + n) bytes) (front ++ more))
    → ((r : CsvRecord) (after : List ℕ) → record_at o (drop at bytes) ≡ Some (r, after) → true ≡ is_header r)
    → EndsHead o bytes records (record { len = at + record_size o (drop at bytes); awaits_header = false })
found_by o bytes at records front [] fit within are up_to behind awaits joins test_is = absurd (something_left o bytes at within are)
found_by o bytes at records front (r ∷ left) fit within are up_to behind awaits joins test_is =
    let rest = drop at bytes in
    let size = record_size o rest in
    let first = has_first o rest r left fit are in
    let some : 0 < length rest = omega (arith, length-drop at bytes) in
    let header : is_header r ≡ true = sym (test_is r (drop size rest) first.read) in
    let place : at + (size + 0) ≡ at + size = omega arith in
    let up_to_here : front ++ r ∷ [] ≡ up_to_header records = sym (up_to ∙ ap (λ (t : Bool). front ++ r ∷ (if t then [] else up_to_header left)) header) in
    let behind_here : left ≡ behind_header true records = sym (behind ∙ ap (λ (t : Bool). if t then left else behind_header true left) header) in
    record {
      within = omega (arith, record_size-le o rest, length-drop at bytes);
      front = subst (λ (x : List CsvRecord). Records o (take (at + size) bytes) x) up_to_here
          (subst (λ (k : ℕ). Records o (take k bytes) (front ++ r ∷ [])) place (joins (size + 0) (r ∷ []) (record_joins o rest r left 0 [] fit some first refl)));
      back = subst (λ (x : List CsvRecord). Records o (drop (at + size) bytes) x) behind_here
          (subst (λ (x : List ℕ). Records o x left) (drop-drop size at bytes) first.later);
      awaits = sym (awaits ∙ ap (λ (t : Bool). if t then false else awaits_header_after true left) header);
    }

pub finds_header : (o : Dialect) (bytes rest : List ℕ) (at size : ℕ) (test : Bool) (records : List CsvRecord) → IsDialect o → at < length bytes → rest ≡ drop at bytes
    → HasPassedTo o bytes at records → size ≡ record_size o rest → ((r : CsvRecord) (after : List ℕ) → record_at o rest ≡ Some (r, after) → test ≡ is_header r) → test ≡ true
    → EndsHead o bytes records (record { len = at + size; awaits_header = false })
finds_header o bytes rest at size test records fit within rest_is has size_is test_is held =
    subst (λ (n : ℕ). EndsHead o bytes records (record { len = at + n; awaits_header = false })) (ap (record_size o) (sym rest_is) ∙ sym size_is)
    (found_by o bytes at records has.front has.left fit within has.are has.up_to has.behind has.awaits has.joins
    (λ r after read. sym held ∙ test_is r after (ap (record_at o) rest_is ∙ read)))

-- no header up to the end
pub finds_no_header : (o : Dialect) (bytes : List ℕ) (at : ℕ) (records : List CsvRecord) → at ≤ length bytes → length bytes ≤ at → HasPassedTo o bytes at records
    → EndsHead o bytes records (record { len = at; awaits_header = true })
finds_no_header o bytes at records within over has =
    let none : has.left ≡ [] = nothing_left o bytes at has.left over has.are in
    let place : at + 0 ≡ at = omega arith in
    let up_to : has.front ++ [] ≡ up_to_header records = sym (has.up_to ∙ ap (λ (x : List CsvRecord). has.front ++ up_to_header x) none) in
    let behind : has.left ≡ behind_header true records = none ∙ sym (has.behind ∙ ap (behind_header true) none) in
    record {
      within = within;
      front = subst (λ (x : List CsvRecord). Records o (take at bytes) x) up_to
          (subst (λ (k : ℕ). Records o (take k bytes) (has.front ++ [])) place (has.joins 0 [] refl));
      back = subst (λ (x : List CsvRecord). Records o (drop at bytes) x) behind has.are;
      awaits = sym (has.awaits ∙ ap (awaits_header_after true) none);
    }
