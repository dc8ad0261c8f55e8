-- Lists in order: what is put together of two, and the items with a left row.
use Rattle.std.proofs.Common.{◌≡◌, ◌≤◌, ◌<◌, ◌++◌, [], ◌∷◌, List, ℕ, suc, arith, refl, Bool, true, false, if◌then◌else◌, map, inr}
use Rattle.morsel_meaning.specs.Sequences.{AllAfter, InOrder}
use Rattle.morsel_join.specs.Items.{JoinItem, Both, places, or_lone, left_items, BeforeBoth, left_of, right_of}

-- each of one list before all of another
abbrev pub AllEach : {X : Type 0} → (X → X → Type 0) → List X → List X → Type 0
AllEach R [] ys = Unit {0}
AllEach R (x ∷ xs) ys = AllAfter R x ys × AllEach R xs ys

AllAfter-append : {X : Type 0} (R : X → X → Type 0) (x : X) (xs ys : List X) → AllAfter R x xs → AllAfter R x ys → AllAfter R x (xs ++ ys)
AllAfter-append R x [] ys a b = b
AllAfter-append R x (z ∷ xs) ys a b = (a.0, AllAfter-append R x xs ys a.1 b)

pub InOrder-append : {X : Type 0} (R : X → X → Type 0) (xs ys : List X) → InOrder R xs → InOrder R ys → AllEach R xs ys → InOrder R (xs ++ ys)
InOrder-append R [] ys a b c = b
InOrder-append R (x ∷ xs) ys a b c = (AllAfter-append R x xs ys a.0 c.0, InOrder-append R xs ys a.1 b c.1)

-- every element, by recursion
abbrev pub Each : {X : Type 0} → (X → Type 0) → List X → Type 0
Each P [] = Unit {0}
Each P (x ∷ xs) = P x × Each P xs

pub Each-append : {X : Type 0} (P : X → Type 0) (xs ys : List X) → Each P xs → Each P ys → Each P (xs ++ ys)
Each-append P [] ys a b = b
Each-append P (x ∷ xs) ys a b = (a.0, Each-append P xs ys a.1 b)

pub Each-weaker : {X : Type 0} (P Q : X → Type 0) → ((x : X) → P x → Q x) → (xs : List X) → Each P xs → Each Q xs
Each-weaker P Q f [] a = tt
Each-weaker P Q f (x ∷ xs) a = (f x a.0, Each-weaker P Q f xs a.1)

-- all of one list before all of another, by what is known of each
after-by : {X : Type 0} (R : X → X → Type 0) (x : X) (Q : X → Type 0) → ((y : X) → Q y → R x y) → (ys : List X) → Each Q ys → AllAfter R x ys
after-by R x Q f [] b = tt
after-by R x Q f (y ∷ ys) b = (f y b.0, after-by R x Q f ys b.1)

pub AllEach-by : {X : Type 0} (R : X → X → Type 0) (P Q : X → Type 0) → ((x y : X) → P x → Q y → R x y) → (xs ys : List X) → Each P xs → Each Q ys → AllEach R xs ys
AllEach-by R P Q f [] ys a b = tt
AllEach-by R P Q f (x ∷ xs) ys a b = (after-by R x Q (λ y q. f x y a.0 q) ys b, AllEach-by R P Q f xs ys a.1 b)

rise-step : (t : Bool) (j : ℕ) (js : List ℕ) → Each (λ k. j ≤ k) js → Each (λ k. j ≤ k) (if t then j ∷ js else js)
rise-step true j js a = (omega arith, a)
rise-step false j js a = a

pub places-rise : {Y : Type 0} (test : Y → Bool) (j : ℕ) (ys : List Y) → Each (λ k. j ≤ k) (places test j ys)
places-rise test j [] = tt
places-rise test j (y ∷ ys) = rise-step (test y) j (places test (suc j) ys) (Each-weaker (λ k. suc j ≤ k) (λ k. j ≤ k) (λ k l. omega arith) (places test (suc j) ys) (places-rise test (suc j) ys))

abbrev LeftRight : JoinItem → JoinItem → Type 0
LeftRight a b = BeforeBoth left_of right_of a b

pair-order : (i : ℕ) (j k : ℕ) → j ≤ k → LeftRight (Both i j) (Both i k)
pair-order i j k l = (inr (omega arith, omega arith), λ e. omega arith)

map-after : (i j : ℕ) (js : List ℕ) → Each (λ k. j ≤ k) js → AllAfter LeftRight (Both i j) (map (Both i) js)
map-after i j [] a = tt
map-after i j (k ∷ js) a = (pair-order i j k a.0, map-after i j js a.1)

pairs-step : (t : Bool) (i j : ℕ) (js : List ℕ) → Each (λ k. j ≤ k) js → InOrder LeftRight (map (Both i) js) → InOrder LeftRight (map (Both i) (if t then j ∷ js else js))
pairs-step true i j js a o = (map-after i j js a, o)
pairs-step false i j js a o = o

pairs-in_order : {Y : Type 0} (test : Y → Bool) (i j : ℕ) (ys : List Y) → InOrder LeftRight (map (Both i) (places test j ys))
pairs-in_order test i j [] = tt
pairs-in_order test i j (y ∷ ys) = pairs-step (test y) i j (places test (suc j) ys) (Each-weaker (λ k. suc j ≤ k) (λ k. j ≤ k) (λ k l. omega arith) (places test (suc j) ys) (places-rise test (suc j) ys)) (pairs-in_order test i (suc j) ys)

or_lone-in_order : (wanted : Bool) (i : ℕ) (js : List ℕ) → InOrder LeftRight (map (Both i) js) → InOrder LeftRight (or_lone wanted i js)
or_lone-in_order true i [] o = (tt, tt)
or_lone-in_order false i [] o = tt
or_lone-in_order wanted i (j ∷ js) o = o

of-map : (i : ℕ) (js : List ℕ) → Each (λ a. left_of a ≡ suc i) (map (Both i) js)
of-map i [] = tt
of-map i (j ∷ js) = (refl, of-map i js)

or_lone-left : (wanted : Bool) (i : ℕ) (js : List ℕ) → Each (λ a. left_of a ≡ suc i) (or_lone wanted i js)
or_lone-left true i [] = (refl, tt)
or_lone-left false i [] = tt
or_lone-left wanted i (j ∷ js) = of-map i (j ∷ js)

pub left-from : {X Y : Type 0} (same : X → Y → Bool) (wanted : Bool) (i : ℕ) (xs : List X) (ys : List Y) → Each (λ a. i < left_of a) (left_items same wanted i xs ys)
left-from same wanted i [] ys = tt
left-from same wanted i (x ∷ xs) ys = Each-append (λ a. i < left_of a) (or_lone wanted i (places (same x) 0 ys)) (left_items same wanted (suc i) xs ys)
    (Each-weaker (λ a. left_of a ≡ suc i) (λ a. i < left_of a) (λ a e. omega arith) (or_lone wanted i (places (same x) 0 ys)) (or_lone-left wanted i (places (same x) 0 ys)))
    (Each-weaker (λ a. suc i < left_of a) (λ a. i < left_of a) (λ a e. omega arith) (left_items same wanted (suc i) xs ys) (left-from same wanted (suc i) xs ys))

pub left-in_order : {X Y : Type 0} (same : X → Y → Bool) (wanted : Bool) (i : ℕ) (xs : List X) (ys : List Y) → InOrder LeftRight (left_items same wanted i xs ys)
left-in_order same wanted i [] ys = tt
left-in_order same wanted i (x ∷ xs) ys = InOrder-append LeftRight (or_lone wanted i (places (same x) 0 ys)) (left_items same wanted (suc i) xs ys)
    (or_lone-in_order wanted i (places (same x) 0 ys) (pairs-in_order (same x) i 0 ys))
    (left-in_order same wanted (suc i) xs ys)
    (AllEach-by LeftRight (λ a. left_of a ≡ suc i) (λ b. suc i < left_of b) (λ a b e l. (inr (omega arith, omega arith), λ f. absurd (omega arith))) (or_lone wanted i (places (same x) 0 ys)) (left_items same wanted (suc i) xs ys) (or_lone-left wanted i (places (same x) 0 ys)) (left-from same wanted (suc i) xs ys))
