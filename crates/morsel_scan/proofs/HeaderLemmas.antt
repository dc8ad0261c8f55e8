-- The records up to the header and those after it, of lists of records in two parts.
use Rattle.std.proofs.Common.{◌≡◌, ℕ, ◌<◌, ap, refl, arith}
use Rattle.std.specs.Prelude.{Bool, true, false, if◌then◌else◌, List, [], ◌∷◌, ◌++◌}
use Rattle.morsel_grammar.specs.Grammar.{CsvRecord}
use Rattle.morsel_grammar.specs.Rows.{is_header, behind_header}
use Rattle.morsel_grammar.specs.GrammarRows.{awaits_header_after}
use Rattle.morsel_cut.specs.RowCounts.{row_count, up_to_header}
use Rattle.morsel_scan.specs.BlockRows.{header_front}

pub behind_header-append : (head : Bool) (front back : List CsvRecord) → behind_header head (front ++ back) ≡ behind_header head front ++ behind_header (awaits_header_after head front) back
behind_header-append false front back = refl
behind_header-append true [] back = refl
behind_header-append true (r ∷ front) back = by_test (is_header r) (behind_header-append true front back)
  where
    by_test : (t : Bool) → behind_header true (front ++ back) ≡ behind_header true front ++ behind_header (awaits_header_after true front) back
        → (if t then front ++ back else behind_header true (front ++ back)) ≡ (if t then front else behind_header true front) ++ behind_header (if t then false else awaits_header_after true front) back
    by_test true later = refl
    by_test false later = later

pub awaits_header-append : (head : Bool) (front back : List CsvRecord) → awaits_header_after head (front ++ back) ≡ awaits_header_after (awaits_header_after head front) back
awaits_header-append false front back = refl
awaits_header-append true [] back = refl
awaits_header-append true (r ∷ front) back = by_test (is_header r) (awaits_header-append true front back)
  where
    by_test : (t : Bool) → awaits_header_after true (front ++ back) ≡ awaits_header_after (awaits_header_after true front) back
        → (if t then false else awaits_header_after true (front ++ back)) ≡ awaits_header_after (if t then false else awaits_header_after true front) back
    by_test true later = refl
    by_test false later = later

-- the records up to the header have none after it
up_to-behind : (records : List CsvRecord) → behind_header true (up_to_header records) ≡ []
up_to-behind [] = refl
up_to-behind (r ∷ records) = by_test (is_header r) (up_to-behind records)
  where
    by_test : (t : Bool) → behind_header true (up_to_header records) ≡ []
        → (if t then (if t then [] else up_to_header records) else behind_header true (if t then [] else up_to_header records)) ≡ []
    by_test true later = refl
    by_test false later = later

pub front-behind : (head : Bool) (records : List CsvRecord) → behind_header head (header_front head records) ≡ []
front-behind false records = refl
front-behind true records = up_to-behind records

up_to-awaits : (records : List CsvRecord) → awaits_header_after true (up_to_header records) ≡ awaits_header_after true records
up_to-awaits [] = refl
up_to-awaits (r ∷ records) = by_test (is_header r) (up_to-awaits records)
  where
    by_test : (t : Bool) → awaits_header_after true (up_to_header records) ≡ awaits_header_after true records
        → (if t then false else awaits_header_after true (if t then [] else up_to_header records)) ≡ (if t then false else awaits_header_after true records)
    by_test true later = refl
    by_test false later = later

pub front-awaits : (head : Bool) (records : List CsvRecord) → awaits_header_after head (header_front head records) ≡ awaits_header_after head records
front-awaits false records = refl
front-awaits true records = up_to-awaits records

-- the two parts are all
up_to-then-behind : (records : List CsvRecord) → up_to_header records ++ behind_header true records ≡ records
up_to-then-behind [] = refl
up_to-then-behind (r ∷ records) = by_test (is_header r) (up_to-then-behind records)
  where
    by_test : (t : Bool) → up_to_header records ++ behind_header true records ≡ records
        → r ∷ ((if t then [] else up_to_header records) ++ (if t then records else behind_header true records)) ≡ r ∷ records
    by_test true later = refl
    by_test false later = ap (λ (x : List CsvRecord). r ∷ x) later

pub front-then-behind : (head : Bool) (records : List CsvRecord) → header_front head records ++ behind_header head records ≡ records
front-then-behind false records = refl
front-then-behind true records = up_to-then-behind records

-- where the header is still to come after records, none is behind it
still_none : (records : List CsvRecord) → awaits_header_after true records ≡ true → behind_header true records ≡ []
still_none [] still = refl
still_none (r ∷ records) still = by_test (is_header r) still (λ later. still_none records later)
  where
    by_test : (t : Bool) → (if t then false else awaits_header_after true records) ≡ true → (awaits_header_after true records ≡ true → behind_header true records ≡ [])
        → (if t then records else behind_header true records) ≡ []
    by_test true is later = absurd (cc)
    by_test false is later = later is

pub rows_after_header : (columns : ℕ) (head : Bool) (records : List CsvRecord) → 0 < row_count columns (behind_header head records) → awaits_header_after head records ≡ false
rows_after_header columns false records some = refl
rows_after_header columns true records some = by_test (awaits_header_after true records) refl
  where
    by_test : (t : Bool) → awaits_header_after true records ≡ t → awaits_header_after true records ≡ false
    by_test false is = is
    by_test true is = absurd (let none : row_count columns (behind_header true records) ≡ 0 = ap (row_count columns) (still_none records is) in omega arith)
