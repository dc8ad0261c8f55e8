-- A permutation gives each number below its length once.
use Rattle.std.proofs.Common.{◌≡◌, ℕ, zero, suc, ◌+◌, ◌*◌, ◌-◌, ◌/◌, ◌%◌, ◌^◌, ◌<◌, ◌≤◌, Bool, true, false, ◌||◌, eqb, ltb, leb, cond, List, [], ◌∷◌, length, map, filter, count_by, refl, sym, ap, ◌∙◌, subst, ◌⊎◌, inl, inr, arith}
use Rattle.std.specs.Prelude.{bit_or}
use Rattle.std.proofs.Math.Nat.{mul_comm, pow-le-pow_right}
use Rattle.std.proofs.lemmas.Nat.{or_mod, div_below, pow-add}
use Rattle.std.specs.List.{list_any, range_with_len, IsDistinct, AllByRecursion}
use Rattle.std.proofs.lemmas.Bool.{false≢true, true≢false, eqb-true, eq-eqb, eqb-false, ne_eqb, ltb-true, lt-ltb, ltb-false, le-ltb, leb-true, leb-false, cases_Bool, cases_lt, or_cases, cond-true, cond-false}
use Rattle.std.proofs.lemmas.List.FromFn.{length-map-range_with_len, get_or-map-range_with_len}
use Rattle.std.proofs.lemmas.Map.Keys.{IsDistinct-from_apart, IsDistinct-head, IsDistinct-tail, IsDistinct-cons}
use Rattle.std.proofs.lemmas.Map.Steps.{length-le_from_distinct_below}
use Rattle.morsel_exec.specs.declared.permutation.Plan.{Plan}
use Rattle.morsel_exec.specs.Permutation.{mixed, moved_on, numbers_from, IsLeastWidth, HasEachOnce}
use Rattle.morsel_exec.proofs.CountLemmas.{count-cons}
use Rattle.morsel_exec.proofs.MixLemmas.{mixed_below, same_from_mixed}

-- ---- a list of distinct numbers below n, n of them, has each once

none_equal : (k : ℕ) (xs : List ℕ) → AllByRecursion (λ y. eqb k y ≡ false) xs → count_by (λ y. eqb y k) xs ≡ 0
none_equal k [] apart = refl
none_equal k (x ∷ xs) apart =
    let other = ne_eqb x k (λ same. eqb-false k x apart.0 (sym same)) in
    let counted = count-cons (λ y. eqb y k) x xs false other in
    let later = none_equal k xs apart.1 in
    omega arith

distinct_once : (k : ℕ) (xs : List ℕ) → IsDistinct eqb xs → list_any (eqb k) xs ≡ true → count_by (λ y. eqb y k) xs ≡ 1
distinct_once k [] apart found = absurd (false≢true found)
distinct_once k (x ∷ xs) apart found = elim (cases_Bool (eqb k x)) [
  | inl here ↦
      let same = eqb-true k x here in
      let later = none_equal k xs (subst (λ n. AllByRecursion (λ y. eqb n y ≡ false) xs) (sym same) (IsDistinct-head eqb x xs apart)) in
      let counted = count-cons (λ y. eqb y k) x xs true (eq-eqb x k (sym same)) in
      omega arith
  | inr other ↦
      let counted = count-cons (λ y. eqb y k) x xs false (ne_eqb x k (λ same. eqb-false k x other (sym same))) in
      let later = distinct_once k xs (IsDistinct-tail eqb x xs apart) (elim (or_cases (eqb k x) (list_any (eqb k) xs) found) [ inl here ↦ absurd (false≢true (sym other ∙ here)) | inr later ↦ later ]) in
      omega arith
]

-- where a number is not in the list, each element is another
all_other : (k : ℕ) (xs : List ℕ) → list_any (eqb k) xs ≡ false → AllByRecursion (λ y. eqb k y ≡ false) xs
all_other k [] none = tt
all_other k (x ∷ xs) none = elim (cases_Bool (eqb k x)) [
  | inl here ↦ absurd (true≢false (sym (ap (λ b. b || list_any (eqb k) xs) here) ∙ none))
  | inr other ↦ (other, all_other k xs (sym (ap (λ b. b || list_any (eqb k) xs) other) ∙ none))
]

full_once : (n k : ℕ) (xs : List ℕ) → length xs ≡ n → IsDistinct eqb xs → ((q : ℕ) → list_any (eqb q) xs ≡ true → q < n) → k < n → count_by (λ y. eqb y k) xs ≡ 1
full_once n k xs len apart below within = elim (cases_Bool (list_any (eqb k) xs)) [
  | inl found ↦ distinct_once k xs apart found
  | inr none ↦
      let longer = length-le_from_distinct_below (k ∷ xs) n (IsDistinct-cons eqb k xs (all_other k xs none) apart) (λ q found. elim (or_cases (eqb q k) (list_any (eqb q) xs) found) [
        | inl here ↦ subst (λ m. m < n) (sym (eqb-true q k here)) within
        | inr later ↦ below q later
      ]) in
      absurd (omega arith)
]

-- ---- the numbers of all places

any_below : (f : ℕ → ℕ) (n : ℕ) (below : (i : ℕ) → f i < n) (at left q : ℕ) → list_any (eqb q) (map f (range_with_len at left)) ≡ true → q < n
any_below f n below at zero q found = absurd (false≢true found)
any_below f n below at (suc left) q found = elim (or_cases (eqb q (f at)) (list_any (eqb q) (map f (range_with_len (at + 1) left))) found) [
  | inl here ↦ subst (λ m. m < n) (sym (eqb-true q (f at) here)) (below at)
  | inr later ↦ any_below f n below (at + 1) left q later
]

mapped_once : (f : ℕ → ℕ) (n : ℕ) → ((i : ℕ) → f i < n) → ((i j : ℕ) → i < n → j < n → f i ≡ f j → i ≡ j) → (k : ℕ) → k < n → count_by (λ y. eqb y k) (map f (range_with_len 0 n)) ≡ 1
mapped_once f n below apart k within = full_once n k (map f (range_with_len 0 n)) (length-map-range_with_len f 0 n)
    (IsDistinct-from_apart eqb (map f (range_with_len 0 n)) (λ i j d less inside.
    let inside_n : j < n = subst (λ m. j < m) (length-map-range_with_len f 0 n) inside in
    let at_i = get_or-map-range_with_len f 0 n i i d (omega arith) (omega arith) in
    let at_j = get_or-map-range_with_len f 0 n j j d inside_n (omega arith) in
    ne_eqb _ _ (λ same. let one = apart i j (omega arith) inside_n (sym at_i ∙ same ∙ at_j) in absurd (omega arith))))
    (any_below f n below 0 n) within

-- ---- moved on

-- the number that is moved on to k
abbrev source : Plan → ℕ → ℕ
source p k = cond (leb p.first k) (k - p.first) (k + p.len - p.first)

-- a number is moved on past the end and round, or not as far
moved_cases : (p : Plan) (n : ℕ) → ((p.len ≤ n + p.first) × (moved_on p n ≡ n + p.first - p.len)) ⊎ ((n + p.first < p.len) × (moved_on p n ≡ n + p.first))
moved_cases p n = elim (cases_Bool (leb p.len (n + p.first))) [
  | inl past ↦ inl (leb-true p.len (n + p.first) past, cond-true (leb p.len (n + p.first)) (n + p.first - p.len) (n + p.first) past)
  | inr before ↦ inr (leb-false p.len (n + p.first) before, cond-false (leb p.len (n + p.first)) (n + p.first - p.len) (n + p.first) before)
]

source_cases : (p : Plan) (k : ℕ) → ((p.first ≤ k) × (source p k ≡ k - p.first)) ⊎ ((k < p.first) × (source p k ≡ k + p.len - p.first))
source_cases p k = elim (cases_Bool (leb p.first k)) [
  | inl up ↦ inl (leb-true p.first k up, cond-true (leb p.first k) (k - p.first) (k + p.len - p.first) up)
  | inr down ↦ inr (leb-false p.first k down, cond-false (leb p.first k) (k - p.first) (k + p.len - p.first) down)
]

moved_below : (p : Plan) (n : ℕ) → p.first < p.len → n < p.len → moved_on p n < p.len
moved_below p n first below = elim (moved_cases p n) [
  | inl past ↦ let e = past.1 in omega arith
  | inr before ↦ let less = before.0 in let e = before.1 in omega arith
]

source_is : (p : Plan) (n k : ℕ) → p.first < p.len → n < p.len → k < p.len → (moved_on p n ≡ k → n ≡ source p k) × (n ≡ source p k → moved_on p n ≡ k)
source_is p n k first below within = elim (moved_cases p n) [
  | inl past ↦ let more = past.0 in let e = past.1 in elim (source_cases p k) [
    | inl up ↦ let least = up.0 in let s = up.1 in (λ is. omega arith, λ is. omega arith)
    | inr down ↦ let most = down.0 in let s = down.1 in (λ is. omega arith, λ is. omega arith)
  ]
  | inr before ↦ let less = before.0 in let e = before.1 in elim (source_cases p k) [
    | inl up ↦ let least = up.0 in let s = up.1 in (λ is. omega arith, λ is. omega arith)
    | inr down ↦ let most = down.0 in let s = down.1 in (λ is. omega arith, λ is. omega arith)
  ]
]

source_below : (p : Plan) (k : ℕ) → p.first < p.len → k < p.len → source p k < p.len
source_below p k first within = elim (source_cases p k) [ inl up ↦ let s = up.1 in omega arith | inr down ↦ let less = down.0 in let s = down.1 in omega arith ]

-- what is below the length, moved on
abbrev kept : Plan → List ℕ → List ℕ
kept p xs = map (moved_on p) (filter (λ number. ltb number p.len) xs)

kept-cons : (p : Plan) (x : ℕ) (xs : List ℕ) (b : Bool) → ltb x p.len ≡ b → kept p (x ∷ xs) ≡ cond b (moved_on p x ∷ kept p xs) (kept p xs)
kept-cons p x xs true is = ap (λ b. map (moved_on p) (cond b (x ∷ filter (λ number. ltb number p.len) xs) (filter (λ number. ltb number p.len) xs))) is
kept-cons p x xs false is = ap (λ b. map (moved_on p) (cond b (x ∷ filter (λ number. ltb number p.len) xs) (filter (λ number. ltb number p.len) xs))) is

-- a number is kept as often as its source was there
kept_as_often : (p : Plan) (k : ℕ) (xs : List ℕ) → p.first < p.len → k < p.len → count_by (λ y. eqb y k) (kept p xs) ≡ count_by (λ y. eqb y (source p k)) xs
kept_as_often p k [] first within = refl
kept_as_often p k (x ∷ xs) first within = elim (cases_Bool (ltb x p.len)) [
  | inl inside ↦
      let below = ltb-true x p.len inside in
      let is = source_is p x k first below within in
      let later = kept_as_often p k xs first within in
      elim (cases_Bool (eqb x (source p k))) [
        | inl same ↦
            ap (λ ys. count_by (λ y. eqb y k) ys) (kept-cons p x xs true inside)
            ∙ count-cons (λ y. eqb y k) (moved_on p x) (kept p xs) true (eq-eqb _ k (is.1 (eqb-true x (source p k) same)))
            ∙ ap (λ n. 1 + n) later
            ∙ sym (count-cons (λ y. eqb y (source p k)) x xs true same)
        | inr other ↦
            ap (λ ys. count_by (λ y. eqb y k) ys) (kept-cons p x xs true inside)
            ∙ count-cons (λ y. eqb y k) (moved_on p x) (kept p xs) false (ne_eqb _ k (λ moved. eqb-false x (source p k) other (is.0 moved)))
            ∙ ap (λ n. 0 + n) later
            ∙ sym (count-cons (λ y. eqb y (source p k)) x xs false other)
      ]
  | inr outside ↦
      let past = ltb-false x p.len outside in
      let low = source_below p k first within in
      let here = ap (λ ys. count_by (λ y. eqb y k) ys) (kept-cons p x xs false outside) in
      let later = kept_as_often p k xs first within in
      let counted = count-cons (λ y. eqb y (source p k)) x xs false (ne_eqb x (source p k) (λ same. absurd (omega arith))) in
      omega arith
]

-- no number past the length is kept
kept_below : (p : Plan) (k : ℕ) (xs : List ℕ) → (0 < p.len → p.first < p.len) → p.len ≤ k → count_by (λ y. eqb y k) (kept p xs) ≡ 0
kept_below p k [] first past = refl
kept_below p k (x ∷ xs) first past = elim (cases_Bool (ltb x p.len)) [
  | inl inside ↦
      let below = ltb-true x p.len inside in
      let moved = moved_below p x (first (omega arith)) below in
      ap (λ ys. count_by (λ y. eqb y k) ys) (kept-cons p x xs true inside)
      ∙ count-cons (λ y. eqb y k) (moved_on p x) (kept p xs) false (ne_eqb _ k (λ same. absurd (omega arith)))
      ∙ ap (λ n. 0 + n) (kept_below p k xs first past)
  | inr outside ↦ ap (λ ys. count_by (λ y. eqb y k) ys) (kept-cons p x xs false outside) ∙ kept_below p k xs first past
]

-- ---- the whole

-- the numbers of all places
numbers_from_start : (p : Plan) → numbers_from p 0 ≡ kept p (map (mixed p) (range_with_len 0 (2 ^ p.width)))
unfolding numbers_from
numbers_from_start p = ap (λ n. kept p (map (mixed p) (range_with_len 0 n))) (let all : 2 ^ p.width - 0 ≡ 2 ^ p.width = omega arith in all)

each_kept_once : (p : Plan) → p.width ≤ 32 → p.len ≤ 2 ^ p.width → p.odd1 % 2 ≡ 1 → p.odd2 % 2 ≡ 1 → (0 < p.len → p.first < p.len) → HasEachOnce p.len (kept p (map (mixed p) (range_with_len 0 (2 ^ p.width))))
each_kept_once p short enough odd1 odd2 first k = elim (cases_lt k p.len) [
  | inl within ↦
      let moves = first (omega arith) in
      let low = source_below p k moves within in
      let once = mapped_once (mixed p) (2 ^ p.width) (mixed_below p) (λ i j below_i below_j same. same_from_mixed p i j short odd1 odd2 below_i below_j same) (source p k) (omega arith) in
      kept_as_often p k (map (mixed p) (range_with_len 0 (2 ^ p.width))) moves within ∙ once ∙ sym (cond-true (ltb k p.len) 1 0 (lt-ltb k p.len within))
  | inr past ↦ kept_below p k (map (mixed p) (range_with_len 0 (2 ^ p.width))) first past ∙ sym (cond-false (ltb k p.len) 1 0 (le-ltb k p.len past))
]

pub each_once : (p : Plan) → p.width ≤ 32 → p.len ≤ 2 ^ p.width → p.odd1 % 2 ≡ 1 → p.odd2 % 2 ≡ 1 → (0 < p.len → p.first < p.len) → HasEachOnce p.len (numbers_from p 0)
each_once p short enough odd1 odd2 first = subst (HasEachOnce p.len) (sym (numbers_from_start p)) (each_kept_once p short enough odd1 odd2 first)

-- a word with its lowest bit set is odd
pub odd_word : (word : ℕ) → bit_or word 1 % 2 ≡ 1
odd_word word = or_mod word 1 1 ∙ lowest (word % 2) (omega arith)
  where
    lowest : (b : ℕ) → b < 2 → bit_or b 1 ≡ 1
    lowest zero below = refl
    lowest (suc zero) below = refl
    lowest (suc (suc n)) below = absurd (omega arith)

lt_times : (a b n : ℕ) → a < b → 0 < n → a * n < b * n
lt_times a b n less positive = grind arith

-- the part of a length that a word is of 2 ^ 32 is below it
pub part_below : (word len : ℕ) → word < 2 ^ 32 → 0 < len → word * len / 2 ^ 32 < len
part_below word len small positive = div_below (word * len) (2 ^ 32) len (omega arith) (subst (λ n. word * len < n) (mul_comm (2 ^ 32) len) (lt_times word (2 ^ 32) len small positive))

-- the least power of two, by the logarithm of one less
pub least_width : (len log : ℕ) → 1 < len → 2 ^ log ≤ len - 1 → len - 1 < 2 * 2 ^ log → IsLeastWidth len (log + 1)
least_width len log more low high = record {
  enough = let double = pow-add 2 log 1 in omega arith;
  least = λ other enough. elim (cases_lt log other) [
    | inl above ↦ omega arith
    | inr below ↦ let less = pow-le-pow_right {n = 2} (omega arith) below in absurd (omega arith)
  ];
}

-- ---- one place after another

-- no place is left at the end
pub numbers_from_end : (p : Plan) (at : ℕ) → at ≡ 2 ^ p.width → numbers_from p at ≡ []
unfolding numbers_from
numbers_from_end p at ended = ap (λ n. kept p (map (mixed p) (range_with_len at n))) (let none : 2 ^ p.width - at ≡ 0 = omega arith in none)

-- a place gives its number, moved on, or none
numbers_from_place : (p : Plan) (at : ℕ) (b : Bool) → at < 2 ^ p.width → ltb (mixed p at) p.len ≡ b → numbers_from p at ≡ cond b (moved_on p (mixed p at) ∷ numbers_from p (at + 1)) (numbers_from p (at + 1))
unfolding numbers_from
numbers_from_place p at b below is =
    ap (λ n. kept p (map (mixed p) (range_with_len at n))) (let more : 2 ^ p.width - at ≡ suc (2 ^ p.width - (at + 1)) = omega arith in more)
    ∙ kept-cons p (mixed p at) (map (mixed p) (range_with_len (at + 1) (2 ^ p.width - (at + 1)))) b is

pub numbers_from_kept : (p : Plan) (at : ℕ) → at < 2 ^ p.width → mixed p at < p.len → numbers_from p at ≡ moved_on p (mixed p at) ∷ numbers_from p (at + 1)
numbers_from_kept p at below inside = numbers_from_place p at true below (lt-ltb (mixed p at) p.len inside)

pub numbers_from_dropped : (p : Plan) (at : ℕ) → at < 2 ^ p.width → p.len ≤ mixed p at → numbers_from p at ≡ numbers_from p (at + 1)
numbers_from_dropped p at below outside = numbers_from_place p at false below (le-ltb (mixed p at) p.len outside)
