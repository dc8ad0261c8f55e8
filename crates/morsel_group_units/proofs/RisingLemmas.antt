-- Things in rising order, and others that are as often the same.
use Rattle.std.proofs.Common.{◌≡◌, ◌≤◌, ◌<◌, [], ◌∷◌, List, ℕ, map, refl, sym, ap, subst, ◌∙◌, arith, Bool, true, false, if◌then◌else◌}
use Rattle.std.specs.List.{sum_by}
use Rattle.std.proofs.lemmas.Bool.{false≢true}
use Rattle.std.proofs.lemmas.List.Sums.{sum_by-cons}
use Rattle.morsel_meaning.specs.Often.{AsOften}
use Rattle.morsel_meaning.specs.Sequences.{AllAfter, InOrder, NeverFalls, by_number}
use Rattle.morsel_meaning.proofs.NumberLemmas.{numbers_often, numbers_rise}

-- things that have numbers, and a test that tells them apart
module _ {X : Type 0} (number : X → ℕ) (same : X → X → Bool) (same_only : (x y : X) → same x y ≡ true → x ≡ y) (same_itself : (x : X) → same x x ≡ true) where
  -- one for a thing that is this one
  abbrev one_for : X → X → ℕ
  one_for z x = if same x z then 1 else 0

  -- what is so of the numbers of all is so of that of a thing that is among them
  among : (R : ℕ → ℕ → Type 0) (n : ℕ) (z : X) (xs : List X) → AllAfter R n (map number xs) → 1 ≤ sum_by (one_for z) xs → R n (number z)
  among R n z [] after some = absurd (omega (arith, some))
  among R n z (x ∷ xs) (here, after) some = by (same x z) refl (among R n z xs after)
    where
      by : (t : Bool) → same x z ≡ t → (1 ≤ sum_by (one_for z) xs → R n (number z)) → R n (number z)
      by true q later = subst (λ (y : X). R n (number y)) (same_only x z q) here
      by false q later =
          let all = sum_by-cons (one_for z) x xs in
          let none : one_for z x ≡ 0 = ap (λ (t : Bool). if t then 1 else 0) q in
          later (omega (arith, some, all, none))

  -- where a thing is not another one, the other one is not the first
  apart : (x y : X) → same x y ≡ false → (t : Bool) → same y x ≡ t → same y x ≡ false
  apart x y other true q = absurd (false≢true (sym other ∙ ap (λ (z : X). same x z) (same_only y x q) ∙ same_itself x))
  apart x y other false q = q

  -- things whose numbers never fall are those that are as often the same and whose numbers rise
  pub rising_alike : (xs ys : List X) → NeverFalls (map number xs) → InOrder (λ m n. m < n) (map number ys) → AsOften xs ys → xs ≡ ys
  rising_alike [] [] rises others often = refl
  rising_alike [] (y ∷ ys) rises others often =
      let one = often (λ x. 1) in let there = sum_by-cons (λ (x : X). 1) y ys in absurd (omega (arith, one, there))
  rising_alike (x ∷ xs) [] rises others often =
      let one = often (λ x. 1) in let here = sum_by-cons (λ (x : X). 1) x xs in absurd (omega (arith, one, here))
  rising_alike (x ∷ xs) (y ∷ ys) (after, rises) (later, others) often = by (same x y) refl (rising_alike xs ys rises others)
    where
      by : (t : Bool) → same x y ≡ t → (AsOften xs ys → xs ≡ ys) → x ∷ xs ≡ y ∷ ys
      by true q rest =
          let is = same_only x y q in
          ap (λ (z : X). z ∷ xs) is ∙ ap (λ (zs : List X). y ∷ zs) (rest (λ weight.
          let all = often weight in let here = sum_by-cons weight x xs in let there = sum_by-cons weight y ys in
          let first = ap weight is in omega (arith, all, here, there, first)))
      by false q rest =
          let here = sum_by-cons (one_for y) x xs in let there = sum_by-cons (one_for y) y ys in let all = often (one_for y) in
          let none : one_for y x ≡ 0 = ap (λ (t : Bool). if t then 1 else 0) q in
          let one : one_for y y ≡ 1 = ap (λ (t : Bool). if t then 1 else 0) (same_itself y) in
          let up : number x ≤ number y = among (λ m n. m ≤ n) (number x) y xs after (omega (arith, here, there, all, none, one)) in
          let here2 = sum_by-cons (one_for x) x xs in let there2 = sum_by-cons (one_for x) y ys in let all2 = often (one_for x) in
          let none2 : one_for x y ≡ 0 = ap (λ (t : Bool). if t then 1 else 0) (apart x y q (same y x) refl) in
          let one2 : one_for x x ≡ 1 = ap (λ (t : Bool). if t then 1 else 0) (same_itself x) in
          let down : number y < number x = among (λ m n. m < n) (number y) x ys later (omega (arith, here2, there2, all2, none2, one2)) in
          absurd (omega (arith, up, down))

  -- so they are what others come to by number
  pub in_order_of_rising : (all placed : List X) → AsOften all placed → InOrder (λ m n. m < n) (map number placed) → by_number number all ≡ placed
  in_order_of_rising all placed often rises = rising_alike (by_number number all) placed (numbers_rise number all) rises (λ weight. numbers_often number all weight ∙ often weight)
