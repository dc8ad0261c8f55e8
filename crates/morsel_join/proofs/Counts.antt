-- Each item of a join stands once in the list of its items, and nothing else stands there.
use Rattle.std.proofs.Common.{◌≡◌, ◌<◌, [], ◌∷◌, List, ℕ, ◌+◌, zero, suc, arith, refl, ap, ◌∙◌, Bool, true, false, not, ◌&&◌, if◌then◌else◌, Some, None, slice_get, nat_eq}
use Rattle.std.specs.Prelude.{Option}
use Rattle.std.specs.List.{list_any}
use Rattle.morsel_join.specs.declared.join_type.JoinType.{JoinType}
use Rattle.morsel_join.specs.Items.{JoinItem, Both, LoneLeft, LoneRight, left_items, right_items, join_items, wants_left, wants_right, is_item, is_alone, are_paired, same_item, count_of}
use Rattle.morsel_join.proofs.Weights.{weigh, weighed, weigh-append}
use Rattle.morsel_join.proofs.Grid.{row, grid, left-weighed, right-weighed}

-- whether something is there and passes
abbrev passes : {Y : Type 0} → (Y → Bool) → Option Y → Bool
passes test None = false
passes test (Some y) = test y

row-none : {Y : Type 0} (test : Y → Bool) (j : ℕ) (ys : List Y) → row test (λ k. 0) j ys ≡ 0
row-none test j [] = refl
row-none test j (y ∷ ys) = let h = row-none test (suc j) ys in grind (arith, h)

grid-none : {X Y : Type 0} (same : X → Y → Bool) (i j : ℕ) (xs : List X) (ys : List Y) → grid same (λ k l. 0) i j xs ys ≡ 0
grid-none same i j [] ys = refl
grid-none same i j (x ∷ xs) ys = let h = grid-none same (suc i) j xs ys in let r = row-none (same x) j ys in omega (arith, h, r)

row-past : {Y : Type 0} (test : Y → Bool) (b j : ℕ) (ys : List Y) → b < j → row test (λ k. if nat_eq b k then 1 else 0) j ys ≡ 0
row-past test b j [] less = refl
row-past test b j (y ∷ ys) less = let h = row-past test b (suc j) ys (omega (arith, less)) in grind (arith, h, less)

-- what passes, counted at one place
row-one : {Y : Type 0} (test : Y → Bool) (b j c : ℕ) (ys : List Y) → b ≡ j + c → row test (λ k. if nat_eq b k then 1 else 0) j ys ≡ (if passes test (slice_get ys c) then 1 else 0)
row-one test b j c [] e = refl
row-one test b j zero (y ∷ ys) e = let h = row-past test b (suc j) ys (omega (arith, e)) in grind (arith, h, e)
row-one test b j (suc c) (y ∷ ys) e = let h = row-one test b (suc j) c ys (omega (arith, e)) in let away : nat_eq b j ≡ false = grind (arith, e) in row-later (test y) (nat_eq b j) (row test (λ k. if nat_eq b k then 1 else 0) (suc j) ys) away ∙ h
  where
    row-later : (t s : Bool) (n : ℕ) → s ≡ false → (if t then (if s then 1 else 0) else 0) + n ≡ n
    row-later true false n q = omega arith
    row-later false false n q = omega arith
    row-later t true n q = absurd (cc)

row-same : {Y : Type 0} (test : Y → Bool) (s : Bool) (b j : ℕ) (ys : List Y) → row test (λ k. if s && nat_eq b k then 1 else 0) j ys ≡ (if s then row test (λ k. if nat_eq b k then 1 else 0) j ys else 0)
row-same test true b j ys = refl
row-same test false b j ys = row-none test j ys

grid-past : {X Y : Type 0} (same : X → Y → Bool) (a b i : ℕ) (xs : List X) (ys : List Y) → a < i → grid same (λ k l. if nat_eq a k && nat_eq b l then 1 else 0) i 0 xs ys ≡ 0
grid-past same a b i [] ys less = refl
grid-past same a b i (x ∷ xs) ys less =
    let h = grid-past same a b (suc i) xs ys (omega (arith, less)) in
    let r = row-same (same x) (nat_eq a i) b 0 ys in let away : nat_eq a i ≡ false = grind (arith, less) in
    rw (r, away) (omega (arith, h))

row-first : {X Y : Type 0} (same : X → Y → Bool) (x : X) (o : Option Y) (n : ℕ) → n ≡ (if passes (same x) o then 1 else 0) → n + 0 ≡ (if are_paired same (Some x) o then 1 else 0)
row-first same x None n q = omega (arith, q)
row-first same x (Some y) n q = omega arith ∙ q

-- the pairs, counted at one place of each side
grid-one : {X Y : Type 0} (same : X → Y → Bool) (a b i c : ℕ) (xs : List X) (ys : List Y) → a ≡ i + c → grid same (λ k l. if nat_eq a k && nat_eq b l then 1 else 0) i 0 xs ys ≡ (if are_paired same (slice_get xs c) (slice_get ys b) then 1 else 0)
grid-one same a b i c [] ys e = refl
grid-one same a b i zero (x ∷ xs) ys e =
    let h = grid-past same a b (suc i) xs ys (omega (arith, e)) in
    let r = row-same (same x) (nat_eq a i) b 0 ys in let here : nat_eq a i ≡ true = grind (arith, e) in
    rw (r, here, h) (row-first same x (slice_get ys b) (row (same x) (λ k. if nat_eq b k then 1 else 0) 0 ys) (row-one (same x) b 0 b ys (omega arith)))
grid-one same a b i (suc c) (x ∷ xs) ys e =
    let h = grid-one same a b (suc i) c xs ys (omega (arith, e)) in
    let r = row-same (same x) (nat_eq a i) b 0 ys in let away : nat_eq a i ≡ false = grind (arith, e) in
    rw (r, away) (omega (arith, h))

alone-passes : {Y : Type 0} (matched : Y → Bool) (o : Option Y) → passes (λ y. not (matched y)) o ≡ is_alone matched o
alone-passes matched None = refl
alone-passes matched (Some y) = refl

row-if : (w : Bool) (n : ℕ) (t : Bool) → n ≡ (if t then 1 else 0) → (if w then n else 0) ≡ (if w && t then 1 else 0)
row-if true n t e = e
row-if false n t e = refl

none-if : (w : Bool) (n : ℕ) → n ≡ 0 → (if w then n else 0) ≡ 0
none-if true n e = e
none-if false n e = refl

pub each-once : {X Y : Type 0} (how : JoinType) (same : X → Y → Bool) (xs : List X) (ys : List Y) (item : JoinItem) → count_of item (join_items how same xs ys) ≡ (if is_item how same xs ys item then 1 else 0)
each-once {X} {Y} how same xs ys item = all item
  where
    sums : (item : JoinItem) → count_of item (join_items how same xs ys) ≡ weigh (λ other. if same_item item other then 1 else 0) (left_items same (wants_left how) 0 xs ys) + weigh (λ other. if same_item item other then 1 else 0) (right_items same (wants_right how) xs ys)
    sums item = weighed (λ other. if same_item item other then 1 else 0) (join_items how same xs ys) ∙ weigh-append (λ other. if same_item item other then 1 else 0) (left_items same (wants_left how) 0 xs ys) (right_items same (wants_right how) xs ys)

    all : (item : JoinItem) → count_of item (join_items how same xs ys) ≡ (if is_item how same xs ys item then 1 else 0)
    all (Both a b) =
        let s = sums (Both a b) in
        let l = left-weighed same (wants_left how) (λ other. if same_item (Both a b) other then 1 else 0) 0 xs ys in
        let r = right-weighed same (wants_right how) (λ other. if same_item (Both a b) other then 1 else 0) xs ys in
        let g = grid-one same a b 0 a xs ys (omega arith) in
        let ln = none-if (wants_left how) (row (λ x. not (list_any (same x) ys)) (λ k. 0) 0 xs) (row-none (λ x. not (list_any (same x) ys)) 0 xs) in
        let rn = none-if (wants_right how) (row (λ y. not (list_any (λ x. same x y) xs)) (λ k. 0) 0 ys) (row-none (λ y. not (list_any (λ x. same x y) xs)) 0 ys) in
        omega (arith, s, l, r, g, ln, rn)
    all (LoneLeft a) =
        let s = sums (LoneLeft a) in
        let l = left-weighed same (wants_left how) (λ other. if same_item (LoneLeft a) other then 1 else 0) 0 xs ys in
        let r = right-weighed same (wants_right how) (λ other. if same_item (LoneLeft a) other then 1 else 0) xs ys in
        let g = grid-none same 0 0 xs ys in
        let ln = row-if (wants_left how) (row (λ x. not (list_any (same x) ys)) (λ k. if nat_eq a k then 1 else 0) 0 xs) (is_alone (λ x. list_any (same x) ys) (slice_get xs a)) (row-one (λ x. not (list_any (same x) ys)) a 0 a xs (omega arith) ∙ ap (λ t. if t then 1 else 0) (alone-passes (λ x. list_any (same x) ys) (slice_get xs a))) in
        let rn = none-if (wants_right how) (row (λ y. not (list_any (λ x. same x y) xs)) (λ k. 0) 0 ys) (row-none (λ y. not (list_any (λ x. same x y) xs)) 0 ys) in
        omega (arith, s, l, r, g, ln, rn)
    all (LoneRight b) =
        let s = sums (LoneRight b) in
        let l = left-weighed same (wants_left how) (λ other. if same_item (LoneRight b) other then 1 else 0) 0 xs ys in
        let r = right-weighed same (wants_right how) (λ other. if same_item (LoneRight b) other then 1 else 0) xs ys in
        let g = grid-none same 0 0 xs ys in
        let ln = none-if (wants_left how) (row (λ x. not (list_any (same x) ys)) (λ k. 0) 0 xs) (row-none (λ x. not (list_any (same x) ys)) 0 xs) in
        let rn = row-if (wants_right how) (row (λ y. not (list_any (λ x. same x y) xs)) (λ k. if nat_eq b k then 1 else 0) 0 ys) (is_alone (λ y. list_any (λ x. same x y) xs) (slice_get ys b)) (row-one (λ y. not (list_any (λ x. same x y) xs)) b 0 b ys (omega arith) ∙ ap (λ t. if t then 1 else 0) (alone-passes (λ y. list_any (λ x. same x y) xs) (slice_get ys b))) in
        omega (arith, s, l, r, g, ln, rn)
