-- Lists whose things come in an order, and lists that are made of others.
use Rattle.std.specs.Prelude.{◌≡◌, ◌≤◌, ◌⊎◌, ℕ, List, [], ◌∷◌, if◌then◌else◌, nat_lt}

-- a thing stands in a relation to each of these
abbrev pub AllAfter : {X : Type 0} → (X → X → Type 0) → X → List X → Type 0
AllAfter R x [] = Unit {0}
AllAfter R x (y ∷ ys) = R x y × AllAfter R x ys

-- each stands in a relation to all that come after it
abbrev pub InOrder : {X : Type 0} → (X → X → Type 0) → List X → Type 0
InOrder R [] = Unit {0}
InOrder R (x ∷ xs) = AllAfter R x xs × InOrder R xs

-- the numbers never fall
abbrev pub NeverFalls : List ℕ → Type 0
NeverFalls numbers = InOrder (λ m n. m ≤ n) numbers

-- the things with one more among them: before the first whose number is not smaller
abbrev pub put_by : {X : Type 0} → (X → ℕ) → X → List X → List X
put_by number x [] = x ∷ []
put_by number x (y ∷ ys) = if nat_lt (number y) (number x) then y ∷ put_by number x ys else x ∷ y ∷ ys

-- the things by rising number, those of equal number in their order
abbrev pub by_number : {X : Type 0} → (X → ℕ) → List X → List X
by_number number [] = []
by_number number (x ∷ xs) = put_by number x (by_number number xs)

-- what is gathered of the things, from the last to the first
abbrev pub folded : {X M : Type 0} → (X → M → M) → M → List X → M
folded f e [] = e
folded f e (x ∷ xs) = f x (folded f e xs)

-- a list is made of two others, each in its own order
abbrev pub Interleaves : {X : Type 0} → List X → List X → List X → Type 0
Interleaves xs ys [] = (xs ≡ []) × (ys ≡ [])
Interleaves {X} xs ys (x ∷ whole) = ((rest : List X) × (xs ≡ x ∷ rest) × Interleaves rest ys whole)
    ⊎ ((rest : List X) × (ys ≡ x ∷ rest) × Interleaves xs rest whole)

-- a list is made of all of these, each in its own order
abbrev pub InterleavesAll : {X : Type 0} → List (List X) → List X → Type 0
InterleavesAll [] whole = whole ≡ []
InterleavesAll {X} (xs ∷ lists) whole = (others : List X) × InterleavesAll lists others × Interleaves xs others whole
