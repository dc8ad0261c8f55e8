-- Pairs of ends, in order.
use Rattle.std.specs.Prelude.{List, [], ◌∷◌}

-- there are as many on both sides, and this is true of each pair
abbrev pub MayJoin : {X Y : Type 0} → (X → Y → Type 0) → List X → List Y → Type 0
MayJoin may [] [] = Unit {0}
MayJoin may [] (y ∷ ys) = ⊥
MayJoin may (x ∷ xs) [] = ⊥
MayJoin may (x ∷ xs) (y ∷ ys) = may x y × MayJoin may xs ys
