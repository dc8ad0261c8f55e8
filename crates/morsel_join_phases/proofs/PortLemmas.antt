-- The states of ports, one after the other.
use Rattle.std.proofs.Common.{◌≡◌, List, [], ◌∷◌, length, slice_set, refl, arith}

pub set_one : {X : Type 0} (xs : List X) (x : X) → length xs ≡ 1 → slice_set xs 0 x ≡ x ∷ []
set_one [] x is = absurd (omega (arith, is))
set_one (a ∷ []) x is = refl
set_one (a ∷ b ∷ xs) x is = absurd (omega (arith, is))

pub set_two : {X : Type 0} (xs : List X) (x y : X) → length xs ≡ 2 → slice_set (slice_set xs 0 x) 1 y ≡ x ∷ y ∷ []
set_two [] x y is = absurd (omega (arith, is))
set_two (a ∷ []) x y is = absurd (omega (arith, is))
set_two (a ∷ b ∷ []) x y is = refl
set_two (a ∷ b ∷ c ∷ xs) x y is = absurd (omega (arith, is))
