-- What holds of lists by number, of those that are as often the same, and of those that are made of others.
use Rattle.std.specs.Prelude.{◌≡◌, ℕ, true, List, [], ◌∷◌, ◌++◌, map, nat_lt}
use Rattle.std.specs.List.{flat_map}
use Rattle.std.specs.List.Sorted.{IsPermutation}
use Rattle.morsel_meaning.specs.Often.{AsOften}
use Rattle.morsel_meaning.specs.Sequences.{NeverFalls, by_number, folded, InterleavesAll}

-- a list that was put into another order has the same things, each as often
abbrev pub KeepsOften : Type 0 → Type 0
KeepsOften X = (xs ys : List X) → IsPermutation xs ys → AsOften xs ys

-- two lists together have what two others have that are as often the same
abbrev pub JoinsOften : Type 0 → Type 0
JoinsOften X = (xs ys us vs : List X) → AsOften xs us → AsOften ys vs → AsOften (xs ++ ys) (us ++ vs)

-- by number there are the same things
abbrev pub NumbersOften : Type 0 → Type 0
NumbersOften X = (number : X → ℕ) (xs : List X) → AsOften (by_number number xs) xs

-- by number the numbers never fall
abbrev pub NumbersRise : Type 0 → Type 0
NumbersRise X = (number : X → ℕ) (xs : List X) → NeverFalls (map number (by_number number xs))

-- things whose numbers never fall are by number as they are
abbrev pub NumbersStay : Type 0 → Type 0
NumbersStay X = (number : X → ℕ) (xs : List X) → NeverFalls (map number xs) → by_number number xs ≡ xs

-- what does not ask for the order of things of different numbers is the same by number
abbrev pub FoldsByNumber : Type 0 → Type 0 → Type 0
FoldsByNumber X M = (number : X → ℕ) (f : X → M → M) (e : M)
    → ((a b : X) (m : M) → nat_lt (number b) (number a) ≡ true → f a (f b m) ≡ f b (f a m))
    → (xs : List X) → folded f e (by_number number xs) ≡ folded f e xs

-- numbers that never fall and are as often the same are the same
abbrev pub RisesAlike : Type 0
RisesAlike = (xs ys : List ℕ) → NeverFalls xs → NeverFalls ys → AsOften xs ys → xs ≡ ys

-- what is made of lists has their things, each as often
abbrev pub InterleavesOften : Type 0 → Type 0
InterleavesOften X = (lists : List (List X)) (whole : List X) → InterleavesAll lists whole → AsOften (flat_map (λ xs. xs) lists) whole

-- where one of the lists grows at its end, so does what is made of them
abbrev pub InterleavesGrowing : Type 0 → Type 0
InterleavesGrowing X = (before : List (List X)) (xs : List X) (others : List (List X)) (whole : List X) (x : X)
    → InterleavesAll (before ++ (xs ∷ others)) whole → InterleavesAll (before ++ ((xs ++ (x ∷ [])) ∷ others)) (whole ++ (x ∷ []))
