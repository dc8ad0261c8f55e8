-- Lists that are as often the same.
use Rattle.std.proofs.Common.{◌≡◌, ◌≤◌, ◌<◌, [], ◌∷◌, List, ℕ, ◌∙◌, sym, ap, refl, arith, Bool, true, false, if◌then◌else◌, nat_lt}
use Rattle.std.specs.List.{sum_by}
use Rattle.std.proofs.lemmas.List.Sums.{sum_by-append, sum_by-cons}
use Rattle.std.proofs.lemmas.List.Sorted.{sum_by-IsPermutation}
use Rattle.morsel_meaning.specs.Often.{AsOften}
use Rattle.morsel_meaning.specs.Sequences.{AllAfter}
use Rattle.morsel_meaning.specs.ListLaws.{KeepsOften, JoinsOften, RisesAlike}

pub keeps_often : {X : Type 0} → KeepsOften X
keeps_often = λ xs ys is weight. sym (sum_by-IsPermutation weight xs ys is)

pub joins_often : {X : Type 0} → JoinsOften X
joins_often = λ xs ys us vs first later weight.
    let a = sum_by-append weight xs ys in let b = sum_by-append weight us vs in
    let c = first weight in let d = later weight in omega (arith, a, b, c, d)

-- one for a number that is no greater
abbrev at_most : ℕ → ℕ → ℕ
at_most m n = if nat_lt m n then 0 else 1

none_at_most : (m n : ℕ) (numbers : List ℕ) → m < n → AllAfter (λ a b. a ≤ b) n numbers → sum_by (at_most m) numbers ≡ 0
none_at_most m n [] less after = refl
none_at_most m n (k ∷ numbers) less (here, after) =
    let all = sum_by-cons (at_most m) k numbers in let later = none_at_most m n numbers less after in
    let none : at_most m k ≡ 0 = grind (arith, less, here) in omega (arith, all, later, none)

-- of rising lists that are as often the same, the first of the one is no smaller than that of the other
no_smaller : (x y : ℕ) (xs ys : List ℕ) → AllAfter (λ a b. a ≤ b) y ys → AsOften (x ∷ xs) (y ∷ ys) → y ≤ x
no_smaller x y xs ys after often = by (nat_lt x y) refl
  where
    by : (t : Bool) → nat_lt x y ≡ t → y ≤ x
    by false q = grind (arith, q)
    by true q =
        let less : x < y = grind (arith, q) in
        let here = sum_by-cons (at_most x) x xs in let there = sum_by-cons (at_most x) y ys in
        let same = often (at_most x) in let later = none_at_most x y ys less after in
        let none : at_most x y ≡ 0 = grind (arith, less) in let one : at_most x x ≡ 1 = grind arith in
        absurd (omega (arith, here, there, same, later, none, one))

pub rises_alike : RisesAlike
rises_alike [] [] rises others often = refl
rises_alike [] (y ∷ ys) rises others often =
    let one = often (λ n. 1) in let there = sum_by-cons (λ (n : ℕ). 1) y ys in absurd (omega (arith, one, there))
rises_alike (x ∷ xs) [] rises others often =
    let one = often (λ n. 1) in let here = sum_by-cons (λ (n : ℕ). 1) x xs in absurd (omega (arith, one, here))
rises_alike (x ∷ xs) (y ∷ ys) (after, rises) (later, others) often =
    let up = no_smaller x y xs ys later often in let down = no_smaller y x ys xs after (λ weight. sym (often weight)) in
    let same : x ≡ y = omega (arith, up, down) in
    ap (λ n. n ∷ xs) same ∙ ap (λ ns. y ∷ ns) (rises_alike xs ys rises others (λ weight.
    let all = often weight in let here = sum_by-cons weight x xs in let there = sum_by-cons weight y ys in
    let first = ap weight same in omega (arith, all, here, there, first)))
