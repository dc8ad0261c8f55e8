-- Lists by number.
use Rattle.std.proofs.Common.{◌≡◌, ◌≤◌, [], ◌∷◌, List, ℕ, ◌+◌, ◌∙◌, sym, ap, refl, arith, Bool, true, false, if◌then◌else◌, nat_lt, map}
use Rattle.std.specs.List.{sum_by}
use Rattle.std.proofs.lemmas.List.Sums.{sum_by-cons}
use Rattle.morsel_meaning.specs.Sequences.{AllAfter, NeverFalls, put_by, by_number, folded}
use Rattle.morsel_meaning.specs.ListLaws.{NumbersOften, NumbersRise, NumbersStay, FoldsByNumber}

put_weighs : {X : Type 0} (number weight : X → ℕ) (x : X) (ys : List X) → sum_by weight (put_by number x ys) ≡ weight x + sum_by weight ys
put_weighs number weight x [] = sum_by-cons weight x []
put_weighs number weight x (y ∷ ys) = by (nat_lt (number y) (number x)) (put_weighs number weight x ys)
  where
    by : (t : Bool) → sum_by weight (put_by number x ys) ≡ weight x + sum_by weight ys
        → sum_by weight (if t then y ∷ put_by number x ys else x ∷ y ∷ ys) ≡ weight x + sum_by weight (y ∷ ys)
    by true later =
        let here = sum_by-cons weight y (put_by number x ys) in let all = sum_by-cons weight y ys in omega (arith, here, later, all)
    by false later = sum_by-cons weight x (y ∷ ys)

pub numbers_often : {X : Type 0} → NumbersOften X
numbers_often {X} = λ number xs weight. weighs X number weight xs
  where
    weighs : (X : Type 0) (number weight : X → ℕ) (xs : List X) → sum_by weight (by_number number xs) ≡ sum_by weight xs
    weighs X number weight [] = refl
    weighs X number weight (x ∷ xs) =
        let here = put_weighs number weight x (by_number number xs) in let later = weighs X number weight xs in
        let all = sum_by-cons weight x xs in omega (arith, here, later, all)

-- a smaller number comes before what a greater comes before
below_all : (m n : ℕ) (numbers : List ℕ) → m ≤ n → AllAfter (λ a b. a ≤ b) n numbers → AllAfter (λ a b. a ≤ b) m numbers
below_all m n [] less after = tt
below_all m n (k ∷ numbers) less (here, after) = (omega (arith, less, here), below_all m n numbers less after)

put_after : {X : Type 0} (number : X → ℕ) (m : ℕ) (x : X) (ys : List X) → m ≤ number x → AllAfter (λ a b. a ≤ b) m (map number ys)
    → AllAfter (λ a b. a ≤ b) m (map number (put_by number x ys))
put_after number m x [] less after = (less, tt)
put_after number m x (y ∷ ys) less (here, after) = by (nat_lt (number y) (number x)) (put_after number m x ys less after)
  where
    by : (t : Bool) → AllAfter (λ a b. a ≤ b) m (map number (put_by number x ys))
        → AllAfter (λ a b. a ≤ b) m (map number (if t then y ∷ put_by number x ys else x ∷ y ∷ ys))
    by true later = (here, later)
    by false later = (less, (here, after))

put_rises : {X : Type 0} (number : X → ℕ) (x : X) (ys : List X) → NeverFalls (map number ys) → NeverFalls (map number (put_by number x ys))
put_rises number x [] rises = (tt, tt)
put_rises number x (y ∷ ys) (after, rises) = by (nat_lt (number y) (number x)) refl (put_rises number x ys rises)
  where
    by : (t : Bool) → nat_lt (number y) (number x) ≡ t → NeverFalls (map number (put_by number x ys))
        → NeverFalls (map number (if t then y ∷ put_by number x ys else x ∷ y ∷ ys))
    by true q later = (put_after number (number y) x ys (grind (arith, q)) after, later)
    by false q later =
        let less : number x ≤ number y = grind (arith, q) in
        ((less, below_all (number x) (number y) (map number ys) less after), (after, rises))

pub numbers_rise : {X : Type 0} → NumbersRise X
numbers_rise {X} = λ number xs. rises X number xs
  where
    rises : (X : Type 0) (number : X → ℕ) (xs : List X) → NeverFalls (map number (by_number number xs))
    rises X number [] = tt
    rises X number (x ∷ xs) = put_rises number x (by_number number xs) (rises X number xs)

put_first : {X : Type 0} (number : X → ℕ) (x : X) (ys : List X) → AllAfter (λ a b. a ≤ b) (number x) (map number ys) → put_by number x ys ≡ x ∷ ys
put_first number x [] after = refl
put_first number x (y ∷ ys) (less, after) = by (nat_lt (number y) (number x)) refl
  where
    by : (t : Bool) → nat_lt (number y) (number x) ≡ t → (if t then y ∷ put_by number x ys else x ∷ y ∷ ys) ≡ x ∷ y ∷ ys
    by true q = absurd (grind (arith, q, less))
    by false q = refl

pub numbers_stay : {X : Type 0} → NumbersStay X
numbers_stay {X} = λ number xs rises. stays X number xs rises
  where
    stays : (X : Type 0) (number : X → ℕ) (xs : List X) → NeverFalls (map number xs) → by_number number xs ≡ xs
    stays X number [] rises = refl
    stays X number (x ∷ xs) (after, rises) = ap (put_by number x) (stays X number xs rises) ∙ put_first number x xs after

folded_put : {X M : Type 0} (number : X → ℕ) (f : X → M → M) (e : M) → ((a b : X) (m : M) → nat_lt (number b) (number a) ≡ true → f a (f b m) ≡ f b (f a m))
    → (x : X) (ys : List X) → folded f e (put_by number x ys) ≡ f x (folded f e ys)
folded_put number f e swaps x [] = refl
folded_put number f e swaps x (y ∷ ys) = by (nat_lt (number y) (number x)) refl (folded_put number f e swaps x ys)
  where
    by : (t : Bool) → nat_lt (number y) (number x) ≡ t → folded f e (put_by number x ys) ≡ f x (folded f e ys)
        → folded f e (if t then y ∷ put_by number x ys else x ∷ y ∷ ys) ≡ f x (f y (folded f e ys))
    by true q later = ap (f y) later ∙ sym (swaps x y (folded f e ys) q)
    by false q later = refl

pub folds_by_number : {X M : Type 0} → FoldsByNumber X M
folds_by_number {X} {M} = λ number f e swaps xs. folds X M number f e swaps xs
  where
    folds : (X M : Type 0) (number : X → ℕ) (f : X → M → M) (e : M) → ((a b : X) (m : M) → nat_lt (number b) (number a) ≡ true → f a (f b m) ≡ f b (f a m))
        → (xs : List X) → folded f e (by_number number xs) ≡ folded f e xs
    folds X M number f e swaps [] = refl
    folds X M number f e swaps (x ∷ xs) = folded_put number f e swaps x (by_number number xs) ∙ ap (f x) (folds X M number f e swaps xs)
