-- The list of the items keeps the strongest order, and who keeps an order keeps the weaker ones.
use Rattle.std.proofs.Common.{◌++◌, ◌≡◌, ◌≤◌, ◌<◌, [], ◌∷◌, List, ℕ, suc, arith, refl, Bool, true, false, not, if◌then◌else◌, map, inl}
use Rattle.morsel_join.specs.declared.join_type.JoinType.{JoinType}
use Rattle.morsel_join.specs.declared.join_type.MaintainOrderJoin.TheVariants as orders
use Rattle.std.specs.List.{list_any}
use Rattle.morsel_meaning.specs.Sequences.{AllAfter, InOrder}
use Rattle.morsel_join.specs.Items.{JoinItem, Both, LoneLeft, LoneRight, places, left_items, right_items, join_items, wants_left, wants_right, Before, BeforeBoth, IsPromised, left_of, right_of}
use Rattle.morsel_join.proofs.InOrders.{Each, Each-weaker, AllEach-by, InOrder-append, places-rise, left-from, left-in_order}
use Rattle.morsel_join.specs.Laws.{mirrored}

abbrev LeftRight : JoinItem → JoinItem → Type 0
LeftRight a b = BeforeBoth left_of right_of a b

lone-after : (j : ℕ) (js : List ℕ) → Each (λ k. j ≤ k) js → AllAfter LeftRight (LoneRight j) (map LoneRight js)
lone-after j [] a = tt
lone-after j (k ∷ js) a = ((inl refl, λ e. let l : j ≤ k = a.0 in omega arith), lone-after j js a.1)

lone-step : (t : Bool) (j : ℕ) (js : List ℕ) → Each (λ k. j ≤ k) js → InOrder LeftRight (map LoneRight js) → InOrder LeftRight (map LoneRight (if t then j ∷ js else js))
lone-step true j js a o = (lone-after j js a, o)
lone-step false j js a o = o

lone-in_order : {Y : Type 0} (test : Y → Bool) (j : ℕ) (ys : List Y) → InOrder LeftRight (map LoneRight (places test j ys))
lone-in_order test j [] = tt
lone-in_order test j (y ∷ ys) = lone-step (test y) j (places test (suc j) ys) (Each-weaker (λ k. suc j ≤ k) (λ k. j ≤ k) (λ k l. omega arith) (places test (suc j) ys) (places-rise test (suc j) ys)) (lone-in_order test (suc j) ys)

all-lone : (js : List ℕ) → Each (λ b. left_of b ≡ 0) (map LoneRight js)
all-lone [] = tt
all-lone (j ∷ js) = (refl, all-lone js)

right-in_order : {X Y : Type 0} (same : X → Y → Bool) (wanted : Bool) (xs : List X) (ys : List Y) → InOrder LeftRight (right_items same wanted xs ys)
right-in_order same true xs ys = lone-in_order (λ y. not (list_any (λ x. same x y) xs)) 0 ys
right-in_order same false xs ys = tt

right-lone : {X Y : Type 0} (same : X → Y → Bool) (wanted : Bool) (xs : List X) (ys : List Y) → Each (λ b. left_of b ≡ 0) (right_items same wanted xs ys)
right-lone same true xs ys = all-lone (places (λ y. not (list_any (λ x. same x y) xs)) 0 ys)
right-lone same false xs ys = tt

-- the list of the items keeps the strongest order, whichever lone rows are wanted
pub halves-promised : {X Y : Type 0} (l r : Bool) (same : X → Y → Bool) (xs : List X) (ys : List Y) → IsPromised orders.LeftRight (left_items same l 0 xs ys ++ right_items same r xs ys)
halves-promised l r same xs ys = InOrder-append LeftRight (left_items same l 0 xs ys) (right_items same r xs ys)
    (left-in_order same l 0 xs ys)
    (right-in_order same r xs ys)
    (AllEach-by LeftRight (λ a. 0 < left_of a) (λ b. left_of b ≡ 0) (λ a b l e. (inl e, λ f. absurd (omega arith))) (left_items same l 0 xs ys) (right_items same r xs ys) (left-from same l 0 xs ys) (right-lone same r xs ys))

pub items-promised : {X Y : Type 0} (how : JoinType) (same : X → Y → Bool) (xs : List X) (ys : List Y) → IsPromised orders.LeftRight (join_items how same xs ys)
items-promised how same xs ys = halves-promised (wants_left how) (wants_right how) same xs ys

after-map : (R S : JoinItem → JoinItem → Type 0) (g : JoinItem → JoinItem) → ((a b : JoinItem) → R a b → S (g a) (g b)) → (a : JoinItem) (bs : List JoinItem) → AllAfter R a bs → AllAfter S (g a) (map g bs)
after-map R S g f a [] h = tt
after-map R S g f a (b ∷ bs) h = (f a b h.0, after-map R S g f a bs h.1)

pub in_order-map : (R S : JoinItem → JoinItem → Type 0) (g : JoinItem → JoinItem) → ((a b : JoinItem) → R a b → S (g a) (g b)) → (list : List JoinItem) → InOrder R list → InOrder S (map g list)
in_order-map R S g f [] h = tt
in_order-map R S g f (a ∷ more) h = (after-map R S g f a more h.0, in_order-map R S g f more h.1)

left-of-mirrored : (a : JoinItem) → left_of (mirrored a) ≡ right_of a
left-of-mirrored (Both i j) = refl
left-of-mirrored (LoneLeft i) = refl
left-of-mirrored (LoneRight j) = refl

right-of-mirrored : (a : JoinItem) → right_of (mirrored a) ≡ left_of a
right-of-mirrored (Both i j) = refl
right-of-mirrored (LoneLeft i) = refl
right-of-mirrored (LoneRight j) = refl

pub promised-mirrored : (list : List JoinItem) → IsPromised orders.LeftRight list → IsPromised orders.RightLeft (map mirrored list)
promised-mirrored list h = in_order-map LeftRight (λ a b. BeforeBoth right_of left_of a b) mirrored
    (λ a b r. rw (left-of-mirrored a, left-of-mirrored b, right-of-mirrored a, right-of-mirrored b) r) list h

-- a weaker promise of a stronger one
after-weaker : (first second : JoinItem → ℕ) (a : JoinItem) (bs : List JoinItem) → AllAfter (λ c d. BeforeBoth first second c d) a bs → AllAfter (λ c d. Before first c d) a bs
after-weaker first second a [] h = tt
after-weaker first second a (b ∷ bs) h = (h.0.0, after-weaker first second a bs h.1)

weaker : (first second : JoinItem → ℕ) (list : List JoinItem) → InOrder (λ c d. BeforeBoth first second c d) list → InOrder (λ c d. Before first c d) list
weaker first second [] h = tt
weaker first second (a ∷ more) h = (after-weaker first second a more h.0, weaker first second more h.1)

pub left-promised : (list : List JoinItem) → IsPromised orders.LeftRight list → IsPromised orders.Left list
left-promised list h = weaker left_of right_of list h

pub right-promised : (list : List JoinItem) → IsPromised orders.RightLeft list → IsPromised orders.Right list
right-promised list h = weaker right_of left_of list h

after-any : (a : JoinItem) (bs : List JoinItem) → AllAfter (λ c d. Unit {0}) a bs
after-any a [] = tt
after-any a (b ∷ bs) = (tt, after-any a bs)

-- any order is promised where none is
pub any-promised : (list : List JoinItem) → IsPromised orders.None list
any-promised [] = tt
any-promised (a ∷ more) = (after-any a more, any-promised more)
