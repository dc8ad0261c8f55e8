-- A list that grows by one.
use Rattle.std.proofs.Common.{◌≡◌, List, [], ◌∷◌, ◌++◌, length, set, refl, ap}

-- the last one is replaced
pub set-last : {A : Type 0} (xs : List A) (x y : A) → set (xs ++ x ∷ []) (length xs) y ≡ xs ++ y ∷ []
set-last [] x y = refl
set-last (z ∷ zs) x y = ap (λ w. z ∷ w) (set-last zs x y)
