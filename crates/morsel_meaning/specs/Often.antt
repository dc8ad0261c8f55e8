-- The same things, each as often: two lists that differ in their order alone.
use Rattle.std.specs.Prelude.{◌≡◌, ℕ, List}
use Rattle.std.specs.List.{sum_by}

-- the same things, each as often: however they are weighed, the weights add up to the same
abbrev pub AsOften : {X : Type 0} → List X → List X → Type 0
AsOften {X} xs ys = (weight : X → ℕ) → sum_by weight xs ≡ sum_by weight ys
