-- The items of a join, weighed: pairs by rows or by columns, and lone rows.
use Rattle.std.proofs.Common.{◌≡◌, ◌++◌, [], ◌∷◌, List, ℕ, ◌+◌, suc, arith, refl, ap, ◌∙◌, Bool, true, false, not, ◌||◌, if◌then◌else◌, map}
use Rattle.std.specs.List.{list_any}
use Rattle.morsel_meaning.specs.Often.{AsOften}
use Rattle.morsel_join.specs.Items.{JoinItem, Both, LoneLeft, LoneRight, places, or_lone, left_items, right_items}
use Rattle.morsel_join.specs.Laws.{mirrored}
use Rattle.morsel_join.proofs.Weights.{weigh, weighed, weigh-append, weigh-map}

-- what passes, weighed by its place
abbrev pub row : {Y : Type 0} → (Y → Bool) → (ℕ → ℕ) → ℕ → List Y → ℕ
row test f j [] = 0
row test f j (y ∷ ys) = (if test y then f j else 0) + row test f (suc j) ys

-- the pairs, weighed by their places
abbrev pub grid : {X Y : Type 0} → (X → Y → Bool) → (ℕ → ℕ → ℕ) → ℕ → ℕ → List X → List Y → ℕ
grid same f i j [] ys = 0
grid same f i j (x ∷ xs) ys = row (same x) (f i) j ys + grid same f (suc i) j xs ys

grid-nil : {X Y : Type 0} (same : X → Y → Bool) (f : ℕ → ℕ → ℕ) (i j : ℕ) (xs : List X) → grid same f i j xs [] ≡ 0
grid-nil same f i j [] = refl
grid-nil same f i j (x ∷ xs) = let h = grid-nil same f (suc i) j xs in omega (arith, h)

grid-column : {X Y : Type 0} (same : X → Y → Bool) (f : ℕ → ℕ → ℕ) (i j : ℕ) (xs : List X) (y : Y) (ys : List Y) → grid same f i j xs (y ∷ ys) ≡ row (λ x. same x y) (λ k. f k j) i xs + grid same f i (suc j) xs ys
grid-column same f i j [] y ys = refl
grid-column same f i j (x ∷ xs) y ys = let h = grid-column same f (suc i) j xs y ys in omega (arith, h)

-- by rows or by columns
grid-mirror : {X Y : Type 0} (same : X → Y → Bool) (f : ℕ → ℕ → ℕ) (i j : ℕ) (xs : List X) (ys : List Y) → grid same f i j xs ys ≡ grid (λ y x. same x y) (λ l k. f k l) j i ys xs
grid-mirror same f i j xs [] = grid-nil same f i j xs
grid-mirror same f i j xs (y ∷ ys) = grid-column same f i j xs y ys ∙ ap (λ n. row (λ x. same x y) (λ k. f k j) i xs + n) (grid-mirror same f i (suc j) xs ys)

places-step : (t : Bool) (n : ℕ) (js : List ℕ) (g : ℕ → JoinItem) (h : JoinItem → ℕ) (j : ℕ) → weigh h (map g js) ≡ n → weigh h (map g (if t then j ∷ js else js)) ≡ (if t then h (g j) else 0) + n
places-step true n js g h j e = ap (λ k. h (g j) + k) e
places-step false n js g h j e = e ∙ omega arith

-- the places of what passes, weighed
places-weighed : {Y : Type 0} (test : Y → Bool) (g : ℕ → JoinItem) (h : JoinItem → ℕ) (j : ℕ) (ys : List Y) → weigh h (map g (places test j ys)) ≡ row test (λ k. h (g k)) j ys
places-weighed test g h j [] = refl
places-weighed test g h j (y ∷ ys) = places-step (test y) (row test (λ k. h (g k)) (suc j) ys) (places test (suc j) ys) g h j (places-weighed test g h (suc j) ys)

lone-step : {Y : Type 0} (t : Bool) (test : Y → Bool) (wanted : Bool) (h : JoinItem → ℕ) (i j : ℕ) (ys : List Y) → weigh h (or_lone wanted i (places test (suc j) ys)) ≡ weigh h (map (Both i) (places test (suc j) ys)) + (if list_any test ys then 0 else (if wanted then h (LoneLeft i) else 0)) → weigh h (or_lone wanted i (if t then j ∷ places test (suc j) ys else places test (suc j) ys)) ≡ weigh h (map (Both i) (if t then j ∷ places test (suc j) ys else places test (suc j) ys)) + (if t || list_any test ys then 0 else (if wanted then h (LoneLeft i) else 0))
lone-step true test wanted h i j ys e = omega arith
lone-step false test wanted h i j ys e = e

-- there are no places exactly where nothing passes
lone-weighed : {Y : Type 0} (test : Y → Bool) (wanted : Bool) (h : JoinItem → ℕ) (i j : ℕ) (ys : List Y) → weigh h (or_lone wanted i (places test j ys)) ≡ weigh h (map (Both i) (places test j ys)) + (if list_any test ys then 0 else (if wanted then h (LoneLeft i) else 0))
lone-weighed test true h i j [] = omega arith
lone-weighed test false h i j [] = refl
lone-weighed test wanted h i j (y ∷ ys) = lone-step (test y) test wanted h i j ys (lone-weighed test wanted h i (suc j) ys)

put-together : (w b : Bool) (a g r o : ℕ) → (a + (if b then 0 else (if w then o else 0))) + (g + (if w then r else 0)) ≡ (a + g) + (if w then (if not b then o else 0) + r else 0)
put-together true true a g r o = omega arith
put-together true false a g r o = omega arith
put-together false true a g r o = omega arith
put-together false false a g r o = omega arith

-- the items with a left row, weighed: the pairs, and the lone rows
pub left-weighed : {X Y : Type 0} (same : X → Y → Bool) (wanted : Bool) (h : JoinItem → ℕ) (i : ℕ) (xs : List X) (ys : List Y) → weigh h (left_items same wanted i xs ys) ≡ grid same (λ k l. h (Both k l)) i 0 xs ys + (if wanted then row (λ x. not (list_any (same x) ys)) (λ k. h (LoneLeft k)) i xs else 0)
left-weighed same true h i [] ys = refl
left-weighed same false h i [] ys = refl
left-weighed same wanted h i (x ∷ xs) ys =
    rw (weigh-append h (or_lone wanted i (places (same x) 0 ys)) (left_items same wanted (suc i) xs ys), lone-weighed (same x) wanted h i 0 ys, places-weighed (same x) (Both i) h 0 ys, left-weighed same wanted h (suc i) xs ys)
    (put-together wanted (list_any (same x) ys) (row (same x) (λ l. h (Both i l)) 0 ys) (grid same (λ k l. h (Both k l)) (suc i) 0 xs ys) (row (λ z. not (list_any (same z) ys)) (λ k. h (LoneLeft k)) (suc i) xs) (h (LoneLeft i)))

-- the lone right rows, weighed
pub right-weighed : {X Y : Type 0} (same : X → Y → Bool) (wanted : Bool) (h : JoinItem → ℕ) (xs : List X) (ys : List Y) → weigh h (right_items same wanted xs ys) ≡ (if wanted then row (λ y. not (list_any (λ x. same x y) xs)) (λ k. h (LoneRight k)) 0 ys else 0)
right-weighed same true h xs ys = places-weighed (λ y. not (list_any (λ x. same x y) xs)) LoneRight h 0 ys
right-weighed same false h xs ys = refl

-- the items of the exchanged sides, exchanged, are the items
pub items-mirrored : {X Y : Type 0} (same : X → Y → Bool) (l r : Bool) (xs : List X) (ys : List Y) → AsOften (left_items same l 0 xs ys ++ right_items same r xs ys) (map mirrored (left_items (λ y x. same x y) r 0 ys xs ++ right_items (λ y x. same x y) l ys xs))
items-mirrored same l r xs ys h =
    let m : JoinItem → ℕ = λ i. h (mirrored i) in
    let s = weighed h (left_items same l 0 xs ys ++ right_items same r xs ys) in
    let t = weighed h (map mirrored (left_items (λ y x. same x y) r 0 ys xs ++ right_items (λ y x. same x y) l ys xs)) in
    let a = weigh-append h (left_items same l 0 xs ys) (right_items same r xs ys) in
    let b = left-weighed same l h 0 xs ys in
    let c = right-weighed same r h xs ys in
    let d = weigh-append m (left_items (λ y x. same x y) r 0 ys xs) (right_items (λ y x. same x y) l ys xs) in
    let e = left-weighed (λ y x. same x y) r m 0 ys xs in
    let f = right-weighed (λ y x. same x y) l m ys xs in
    let g = grid-mirror same (λ k l. h (Both k l)) 0 0 xs ys in
    let k = weigh-map h mirrored (left_items (λ y x. same x y) r 0 ys xs ++ right_items (λ y x. same x y) l ys xs) in
    omega (arith, a, b, c, d, e, f, g, k, s, t)
