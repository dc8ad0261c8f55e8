-- What holds of the items of joins, and of their orders.
use Rattle.std.specs.Prelude.{◌≡◌, ◌++◌, List, if◌then◌else◌, map}
use Rattle.morsel_join.specs.declared.join_type.JoinType.{JoinType}
use Rattle.morsel_join.specs.declared.join_type.JoinType.TheVariants as kinds
use Rattle.morsel_join.specs.declared.join_type.MaintainOrderJoin.TheVariants as orders
use Rattle.morsel_join.specs.Items.{JoinItem, Both, LoneLeft, LoneRight, join_items, JoinItems, IsPromised, is_item, count_of}
use Rattle.std.specs.Prelude.{Bool}
use Rattle.morsel_meaning.specs.Often.{AsOften}
use Rattle.morsel_meaning.specs.Values.{Row, Table}
use Rattle.morsel_join.specs.Rows.{IsJoin}
use Rattle.morsel_join.specs.Sides.{KeptSide, IsRightSide, is_asked_for, rows_alone, rows_found, rows_on_left, rows_on_right}

-- the items of a join stand once each in its lists, and nothing else stands there
abbrev pub HasItemsOnce : Type 0 → Type 0 → Type 0
HasItemsOnce X Y = (how : JoinType) (same : X → Y → Bool) (xs : List X) (ys : List Y) (list : List JoinItem) → JoinItems how same xs ys list
    → (item : JoinItem) → count_of item list ≡ (if is_item how same xs ys item then 1 else 0)

-- in the list of the items, they come by the left row and then by the right one
abbrev pub ComesByLeftRight : Type 0 → Type 0 → Type 0
ComesByLeftRight X Y = (how : JoinType) (same : X → Y → Bool) (xs : List X) (ys : List Y) → IsPromised orders.LeftRight (join_items how same xs ys)

-- an item with its sides exchanged
abbrev pub mirrored : JoinItem → JoinItem
mirrored (Both i j) = Both j i
mirrored (LoneLeft i) = LoneRight i
mirrored (LoneRight j) = LoneLeft j

-- the kind with its sides exchanged
abbrev pub mirrored_kind : JoinType → JoinType
mirrored_kind kinds.Inner = kinds.Inner
mirrored_kind kinds.Left = kinds.Right
mirrored_kind kinds.Right = kinds.Left
mirrored_kind kinds.Full = kinds.Full

-- the items of the exchanged sides, exchanged, are the items
abbrev pub IsMirrored : Type 0 → Type 0 → Type 0
IsMirrored X Y = (how : JoinType) (same : X → Y → Bool) (xs : List X) (ys : List Y) → JoinItems how same xs ys (map mirrored (join_items (mirrored_kind how) (λ y x. same x y) ys xs))

-- and they come by the right row and then by the left one
abbrev pub MirrorsOrder : Type 0
MirrorsOrder = (list : List JoinItem) → IsPromised orders.LeftRight list → IsPromised orders.RightLeft (map mirrored list)

-- who keeps the stronger order keeps the weaker one of the same side, and any order is promised where none is asked
abbrev pub KeepsWeaker : Type 0
KeepsWeaker = (list : List JoinItem) → (IsPromised orders.LeftRight list → IsPromised orders.Left list) × (IsPromised orders.RightLeft list → IsPromised orders.Right list) × IsPromised orders.None list

-- what rows find is what the first of them find, and then the others
abbrev pub AreFoundInParts : Type 0
AreFoundInParts = (side : KeptSide) (asked more : List Row) → rows_found side (asked ++ more) ≡ rows_found side asked ++ rows_found side more

-- what rows find, and then the kept rows that they do not find, are the rows of the join in the promised order
abbrev pub GiveTheJoin : Type 0
GiveTheJoin = (side : KeptSide) (asked : List Row) (left right out : Table) → IsRightSide side → left.rows ≡ rows_on_left side asked → right.rows ≡ rows_on_right side asked
    → out.schema ≡ side.rules.output → out.rows ≡ rows_found side asked ++ rows_alone side asked → IsJoin side.rules left right out

-- which kept rows are alone depends on nothing but which of them are found
abbrev pub AreAloneAlike : Type 0
AreAloneAlike = (side : KeptSide) (asked others : List Row) → ((kept : Row) → is_asked_for side asked kept ≡ is_asked_for side others kept) → rows_alone side asked ≡ rows_alone side others

-- and so they are the same in whatever order the rows are looked up
abbrev pub AreAloneInAnyOrder : Type 0
AreAloneInAnyOrder = (side : KeptSide) (asked others : List Row) → AsOften asked others → rows_alone side asked ≡ rows_alone side others
