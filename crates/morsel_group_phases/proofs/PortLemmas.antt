-- The states of ports.
use Rattle.std.proofs.Common.{◌≡◌, List, [], ◌∷◌, length, slice_set, refl, arith}

pub set_only : {X : Type 0} (xs : List X) (x : X) → length xs ≡ 1 → slice_set xs 0 x ≡ x ∷ []
set_only [] x is = absurd (omega (arith, is))
set_only (a ∷ []) x is = refl
set_only (a ∷ b ∷ xs) x is = absurd (omega (arith, is))
