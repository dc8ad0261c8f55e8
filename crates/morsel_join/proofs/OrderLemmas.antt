-- Items whose sides were exchanged, and the orders that they keep.
use Rattle.std.proofs.Common.{◌≡◌, ◌++◌, [], ◌∷◌, List, ℕ, suc, refl, ap, ◌∙◌, sym, Bool, true, false, not, ◌||◌, map}
use Rattle.std.specs.List.{list_any, sum_by}
use Rattle.morsel_meaning.specs.Values.{Row}
use Rattle.morsel_frame.specs.Tables.{cells_at}
use Rattle.morsel_join.specs.declared.join_type.JoinType.{JoinType}
use Rattle.morsel_join.specs.declared.join_type.MaintainOrderJoin.{MaintainOrderJoin}
use Rattle.morsel_join.specs.declared.join_type.MaintainOrderJoin.TheVariants as orders
use Rattle.morsel_join.specs.Items.{JoinItem, Both, LoneLeft, LoneRight, places, or_lone, left_items, right_items, join_items, wants_left, wants_right, IsPromised, JoinItems}
use Rattle.morsel_join.specs.Laws.{mirrored}
use Rattle.morsel_join.specs.Chains.{left_mark, right_mark}
use Rattle.morsel_join.specs.Probes.{PutsItems}
use Rattle.morsel_join.specs.declared.rules.JoinRules.{JoinRules}
use Rattle.morsel_join.specs.Rows.{rows_match, keeps_left, HasItems}
use Rattle.morsel_join.proofs.Grid.{items-mirrored}
use Rattle.morsel_join.proofs.MatchLemmas.{keys-mirrored}
use Rattle.morsel_join.proofs.AgreeLemmas.{places-test}
use Rattle.morsel_join.proofs.Promises.{halves-promised, items-promised, promised-mirrored, left-promised, right-promised, any-promised}

any-test : {X : Type 0} (test other : X → Bool) (xs : List X) → ((x : X) → test x ≡ other x) → list_any test xs ≡ list_any other xs
any-test test other [] h = refl
any-test test other (x ∷ xs) h = ap (λ t. t || list_any test xs) (h x) ∙ ap (λ t. other x || t) (any-test test other xs h)

left-test : {X Y : Type 0} (same other : X → Y → Bool) (wanted : Bool) (at : ℕ) (xs : List X) (ys : List Y) → ((x : X) (y : Y) → same x y ≡ other x y) → left_items same wanted at xs ys ≡ left_items other wanted at xs ys
left-test same other wanted at [] ys h = refl
left-test same other wanted at (x ∷ xs) ys h =
    ap (λ js. or_lone wanted at js ++ left_items same wanted (suc at) xs ys) (places-test (same x) (other x) 0 ys (h x))
    ∙ ap (λ items. or_lone wanted at (places (other x) 0 ys) ++ items) (left-test same other wanted (suc at) xs ys h)

right-test : {X Y : Type 0} (same other : X → Y → Bool) (wanted : Bool) (xs : List X) (ys : List Y) → ((x : X) (y : Y) → same x y ≡ other x y) → right_items same wanted xs ys ≡ right_items other wanted xs ys
right-test same other false xs ys h = refl
right-test same other true xs ys h = ap (map LoneRight) (places-test (λ y. not (list_any (λ x. same x y) xs)) (λ y. not (list_any (λ x. other x y) xs)) 0 ys (λ y. ap not (any-test (λ x. same x y) (λ x. other x y) xs (λ x. h x y))))

pub left-mirrored : (list : List JoinItem) → map left_mark (map mirrored list) ≡ map right_mark list
left-mirrored [] = refl
left-mirrored (Both i j ∷ list) = ap (λ ns. j ∷ ns) (left-mirrored list)
left-mirrored (LoneLeft i ∷ list) = ap (λ ns. right_mark (LoneLeft i) ∷ ns) (left-mirrored list)
left-mirrored (LoneRight j ∷ list) = ap (λ ns. j ∷ ns) (left-mirrored list)

pub right-mirrored : (list : List JoinItem) → map right_mark (map mirrored list) ≡ map left_mark list
right-mirrored [] = refl
right-mirrored (Both i j ∷ list) = ap (λ ns. i ∷ ns) (right-mirrored list)
right-mirrored (LoneLeft i ∷ list) = ap (λ ns. i ∷ ns) (right-mirrored list)
right-mirrored (LoneRight j ∷ list) = ap (λ ns. left_mark (LoneRight j) ∷ ns) (right-mirrored list)

-- the orders that are kept where the right rows are kept by their keys
order-straight : (how : JoinType) (order : MaintainOrderJoin) (list : List JoinItem) → keeps_left how order ≡ false → IsPromised orders.LeftRight list → IsPromised order list
order-straight how orders.None list keeps held = any-promised list
order-straight how orders.Left list keeps held = left-promised list held
order-straight how orders.LeftRight list keeps held = held
order-straight how orders.Right list keeps held = absurd (cc)
order-straight how orders.RightLeft list keeps held = absurd (cc)

-- and where the left rows are
order-mirrored : (how : JoinType) (order : MaintainOrderJoin) (list : List JoinItem) → keeps_left how order ≡ true → IsPromised orders.RightLeft list → IsPromised order list
order-mirrored how orders.None list keeps held = any-promised list
order-mirrored how orders.Left list keeps held = absurd (cc)
order-mirrored how orders.LeftRight list keeps held = absurd (cc)
order-mirrored how orders.Right list keeps held = right-promised list held
order-mirrored how orders.RightLeft list keeps held = held

-- the items of left rows, and then the lone right rows, are those of a join in the promised order
pub straight-promised : (rules : JoinRules) (lefts rights : List Row) → keeps_left rules.how rules.maintain_order ≡ false
    → IsPromised rules.maintain_order (left_items (rows_match rules.join_nulls rules.left_keys.items rules.right_keys.items) (wants_left rules.how) 0 lefts rights ++ right_items (rows_match rules.join_nulls rules.left_keys.items rules.right_keys.items) (wants_right rules.how) lefts rights)
straight-promised rules lefts rights keeps =
    order-straight rules.how rules.maintain_order (join_items rules.how (rows_match rules.join_nulls rules.left_keys.items rules.right_keys.items) lefts rights) keeps
    (items-promised rules.how (rows_match rules.join_nulls rules.left_keys.items rules.right_keys.items) lefts rights)

-- left rows that were looked up give the items of a join
pub items-straight : (rules : JoinRules) (lefts rights : List Row) (left_marks right_marks : List ℕ) → keeps_left rules.how rules.maintain_order ≡ false
    → PutsItems (left_items (rows_match rules.join_nulls rules.left_keys.items rules.right_keys.items) (wants_left rules.how) 0 lefts rights ++ right_items (rows_match rules.join_nulls rules.left_keys.items rules.right_keys.items) (wants_right rules.how) lefts rights) [] [] left_marks right_marks
    → HasItems rules lefts rights left_marks right_marks
items-straight rules lefts rights left_marks right_marks keeps put = record {
  items = join_items rules.how (rows_match rules.join_nulls rules.left_keys.items rules.right_keys.items) lefts rights;
  once = λ weight. refl;
  promised = straight-promised rules lefts rights keeps;
  left_side = put.left_side;
  right_side = put.right_side;
}

-- the items of right rows, and then the lone left rows, with the sides exchanged
abbrev pub exchanged_items : JoinRules → List Row → List Row → List JoinItem
exchanged_items rules lefts rights = left_items (rows_match rules.join_nulls rules.right_keys.items rules.left_keys.items) (wants_right rules.how) 0 rights lefts ++ right_items (rows_match rules.join_nulls rules.right_keys.items rules.left_keys.items) (wants_left rules.how) rights lefts

-- they are the items of a join
pub exchanged-once : (rules : JoinRules) (lefts rights : List Row) → JoinItems rules.how (rows_match rules.join_nulls rules.left_keys.items rules.right_keys.items) lefts rights (map mirrored (exchanged_items rules lefts rights))
exchanged-once rules lefts rights =
    let same : Row → Row → Bool = λ x y. rows_match rules.join_nulls rules.left_keys.items rules.right_keys.items x y in
    let flipped : Row → Row → Bool = λ y x. rows_match rules.join_nulls rules.right_keys.items rules.left_keys.items y x in
    let turned : (y x : Row) → flipped y x ≡ same x y = λ (y x : Row). keys-mirrored rules.join_nulls (cells_at rules.right_keys.items y) (cells_at rules.left_keys.items x) in
    let alike : left_items (λ y x. same x y) (wants_right rules.how) 0 rights lefts ++ right_items (λ y x. same x y) (wants_left rules.how) rights lefts ≡ exchanged_items rules lefts rights =
    ap (λ items. items ++ right_items (λ y x. same x y) (wants_left rules.how) rights lefts) (left-test (λ y x. same x y) flipped (wants_right rules.how) 0 rights lefts (λ (y x : Row). sym (turned y x)))
    ∙ ap (λ items. left_items flipped (wants_right rules.how) 0 rights lefts ++ items) (right-test (λ y x. same x y) flipped (wants_left rules.how) rights lefts (λ (y x : Row). sym (turned y x))) in
    λ weight. items-mirrored same (wants_left rules.how) (wants_right rules.how) lefts rights weight ∙ ap (λ items. sum_by weight (map mirrored items)) alike

-- in the promised order
pub exchanged-promised : (rules : JoinRules) (lefts rights : List Row) → keeps_left rules.how rules.maintain_order ≡ true → IsPromised rules.maintain_order (map mirrored (exchanged_items rules lefts rights))
exchanged-promised rules lefts rights keeps =
    order-mirrored rules.how rules.maintain_order (map mirrored (exchanged_items rules lefts rights)) keeps
    (promised-mirrored (exchanged_items rules lefts rights) (halves-promised (wants_right rules.how) (wants_left rules.how) (rows_match rules.join_nulls rules.right_keys.items rules.left_keys.items) rights lefts))

-- and so do right rows, with the sides exchanged
pub items-exchanged : (rules : JoinRules) (lefts rights : List Row) (left_marks right_marks : List ℕ) → keeps_left rules.how rules.maintain_order ≡ true
    → PutsItems (left_items (rows_match rules.join_nulls rules.right_keys.items rules.left_keys.items) (wants_right rules.how) 0 rights lefts ++ right_items (rows_match rules.join_nulls rules.right_keys.items rules.left_keys.items) (wants_left rules.how) rights lefts) [] [] right_marks left_marks
    → HasItems rules lefts rights left_marks right_marks
items-exchanged rules lefts rights left_marks right_marks keeps put = record {
  items = map mirrored (exchanged_items rules lefts rights);
  once = exchanged-once rules lefts rights;
  promised = exchanged-promised rules lefts rights keeps;
  left_side = put.right_side ∙ sym (left-mirrored (exchanged_items rules lefts rights));
  right_side = put.left_side ∙ sym (right-mirrored (exchanged_items rules lefts rights));
}
