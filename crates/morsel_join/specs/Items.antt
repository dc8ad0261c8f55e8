-- What a join pairs, and which orders are promised. Rows are told by their places from 0, and `same x y` says whether a left and a right row pair.
use Rattle.std.specs.Prelude.{◌≡◌, ◌≤◌, ◌<◌, ◌++◌, ◌⊎◌, ◌&&◌, ℕ, zero, suc, nat_eq, Option, Some, None, List, [], ◌∷◌, Bool, true, false, not, if◌then◌else◌, map, slice_get}
use Rattle.std.specs.List.{list_any, sum_by}
use Rattle.morsel_meaning.specs.Often.{AsOften}
use Rattle.morsel_meaning.specs.Sequences.{InOrder}
use Rattle.morsel_join.specs.declared.join_type.JoinType.{JoinType}
use Rattle.morsel_join.specs.declared.join_type.JoinType.TheVariants as kinds
use Rattle.morsel_join.specs.declared.join_type.MaintainOrderJoin.{MaintainOrderJoin}
use Rattle.morsel_join.specs.declared.join_type.MaintainOrderJoin.TheVariants as orders

-- a row of a join: of a left and a right row, of a lone left row, of a lone right row
pub data JoinItem : Type 0 where
  Both : ℕ → ℕ → JoinItem
  LoneLeft : ℕ → JoinItem
  LoneRight : ℕ → JoinItem

-- whether a kind has the left rows that are in no pair
abbrev pub wants_left : JoinType → Bool
wants_left kinds.Inner = false
wants_left kinds.Left = true
wants_left kinds.Right = false
wants_left kinds.Full = true

-- whether a kind has the right rows that are in no pair
abbrev pub wants_right : JoinType → Bool
wants_right kinds.Inner = false
wants_right kinds.Left = false
wants_right kinds.Right = true
wants_right kinds.Full = true

-- the places, from one on, of what passes
abbrev pub places : {X : Type 0} → (X → Bool) → ℕ → List X → List ℕ
places test at [] = []
places test at (x ∷ xs) = if test x then at ∷ places test (suc at) xs else places test (suc at) xs

-- the pairs of a left row with right rows at these places; where there are none, the lone row if it is wanted
abbrev pub or_lone : Bool → ℕ → List ℕ → List JoinItem
or_lone wanted i [] = if wanted then LoneLeft i ∷ [] else []
or_lone wanted i (j ∷ js) = map (Both i) (j ∷ js)

-- the items with a left row, by the left rows from one place on
abbrev pub left_items : {X Y : Type 0} → (X → Y → Bool) → Bool → ℕ → List X → List Y → List JoinItem
left_items same wanted i [] ys = []
left_items same wanted i (x ∷ xs) ys = or_lone wanted i (places (same x) 0 ys) ++ left_items same wanted (suc i) xs ys

-- the right rows that are in no pair, where they are wanted
abbrev pub right_items : {X Y : Type 0} → (X → Y → Bool) → Bool → List X → List Y → List JoinItem
right_items same false xs ys = []
right_items same true xs ys = map LoneRight (places (λ y. not (list_any (λ x. same x y) xs)) 0 ys)

-- the items of a join, by the left row and then the right one, lone right rows last
abbrev pub join_items : {X Y : Type 0} → JoinType → (X → Y → Bool) → List X → List Y → List JoinItem
join_items how same xs ys = left_items same (wants_left how) 0 xs ys ++ right_items same (wants_right how) xs ys

-- a list has the items of a join, in any order
abbrev pub JoinItems : {X Y : Type 0} → JoinType → (X → Y → Bool) → List X → List Y → List JoinItem → Type 0
JoinItems how same xs ys list = AsOften (join_items how same xs ys) list

-- the place of the left row and 1, and 0 where there is none
abbrev pub left_of : JoinItem → ℕ
left_of (Both i j) = suc i
left_of (LoneLeft i) = suc i
left_of (LoneRight j) = zero

-- the place of the right row and 1, and 0 where there is none
abbrev pub right_of : JoinItem → ℕ
right_of (Both i j) = suc j
right_of (LoneLeft i) = zero
right_of (LoneRight j) = suc j

-- places do not fall, and those without a place come last
abbrev pub Before : (JoinItem → ℕ) → JoinItem → JoinItem → Type 0
Before place a b = (place b ≡ 0) ⊎ ((0 < place a) × (place a ≤ place b))

-- the same, and where the places are the same, the other places do not fall
abbrev pub BeforeBoth : (JoinItem → ℕ) → (JoinItem → ℕ) → JoinItem → JoinItem → Type 0
BeforeBoth first second a b = Before first a b × (first a ≡ first b → second a ≤ second b)

-- one item may come before another
abbrev pub MayPrecede : MaintainOrderJoin → JoinItem → JoinItem → Type 0
MayPrecede orders.None a b = Unit {0}
MayPrecede orders.Left a b = Before left_of a b
MayPrecede orders.Right a b = Before right_of a b
MayPrecede orders.LeftRight a b = BeforeBoth left_of right_of a b
MayPrecede orders.RightLeft a b = BeforeBoth right_of left_of a b

-- the items come in a promised order
abbrev pub IsPromised : MaintainOrderJoin → List JoinItem → Type 0
IsPromised order list = InOrder (MayPrecede order) list

-- whether rows are there and pair
abbrev pub are_paired : {X Y : Type 0} → (X → Y → Bool) → Option X → Option Y → Bool
are_paired same None y = false
are_paired same (Some x) None = false
are_paired same (Some x) (Some y) = same x y

-- whether a row is there and matches nothing
abbrev pub is_alone : {X : Type 0} → (X → Bool) → Option X → Bool
is_alone matched None = false
is_alone matched (Some x) = not (matched x)

-- whether this is an item of a join: a left and a right row that pair, or a row of a side whose lone rows the kind has, which pairs with none
abbrev pub is_item : {X Y : Type 0} → JoinType → (X → Y → Bool) → List X → List Y → JoinItem → Bool
is_item how same xs ys (Both i j) = are_paired same (slice_get xs i) (slice_get ys j)
is_item how same xs ys (LoneLeft i) = wants_left how && is_alone (λ x. list_any (same x) ys) (slice_get xs i)
is_item how same xs ys (LoneRight j) = wants_right how && is_alone (λ y. list_any (λ x. same x y) xs) (slice_get ys j)

-- whether two items are the same
abbrev pub same_item : JoinItem → JoinItem → Bool
same_item (Both i j) (Both k l) = nat_eq i k && nat_eq j l
same_item (LoneLeft i) (LoneLeft k) = nat_eq i k
same_item (LoneRight j) (LoneRight l) = nat_eq j l
same_item (Both i j) (LoneLeft k) = false
same_item (Both i j) (LoneRight l) = false
same_item (LoneLeft i) (Both k l) = false
same_item (LoneLeft i) (LoneRight l) = false
same_item (LoneRight j) (Both k l) = false
same_item (LoneRight j) (LoneLeft k) = false

-- how often an item stands in a list
abbrev pub count_of : JoinItem → List JoinItem → ℕ
count_of item list = sum_by (λ other. if same_item item other then 1 else 0) list
