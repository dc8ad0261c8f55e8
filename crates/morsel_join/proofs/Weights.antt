-- Weights of lists, added up from the first on.
use Rattle.std.proofs.Common.{◌≡◌, ◌++◌, [], ◌∷◌, List, ℕ, ◌+◌, arith, refl, ap, ◌∙◌, map}
use Rattle.std.specs.List.{sum_by}
use Rattle.std.proofs.lemmas.List.Sums.{sum_by-cons}

-- the weights of the things, added up
abbrev pub weigh : {X : Type 0} → (X → ℕ) → List X → ℕ
weigh h [] = 0
weigh h (x ∷ xs) = h x + weigh h xs

pub weighed : {X : Type 0} (h : X → ℕ) (xs : List X) → sum_by h xs ≡ weigh h xs
weighed h [] = refl
weighed h (x ∷ xs) = sum_by-cons h x xs ∙ ap (λ n. h x + n) (weighed h xs)

pub weigh-append : {X : Type 0} (h : X → ℕ) (xs ys : List X) → weigh h (xs ++ ys) ≡ weigh h xs + weigh h ys
weigh-append h [] ys = omega arith
weigh-append h (x ∷ xs) ys = let e = weigh-append h xs ys in omega (arith, e)

pub weigh-map : {X A : Type 0} (h : X → ℕ) (g : A → X) (xs : List A) → weigh h (map g xs) ≡ weigh (λ x. h (g x)) xs
weigh-map h g [] = refl
weigh-map h g (x ∷ xs) = ap (λ n. h (g x) + n) (weigh-map h g xs)
