-- What rows find, and then the kept rows that are alone, are the rows of a join.
use Rattle.std.proofs.Common.{◌≡◌, ◌<◌, ◌++◌, [], ◌∷◌, List, ℕ, ◌+◌, arith, refl, ap, ◌∙◌, sym, subst, Bool, true, false, ◌||◌, if◌then◌else◌, map, nat_lt}
use Rattle.std.specs.List.{list_any}
use Rattle.morsel_meaning.specs.Often.{AsOften}
use Rattle.morsel_meaning.specs.Values.{Row, Table}
use Rattle.morsel_join.specs.declared.rules.JoinRules.{JoinRules}
use Rattle.morsel_join.specs.Items.{JoinItem, Both, LoneLeft, LoneRight, left_items, right_items, wants_left, wants_right, JoinItems}
use Rattle.morsel_join.specs.Laws.{mirrored}
use Rattle.morsel_join.specs.Rows.{IsJoin, item_row, keeps_left, left_row, right_row, column_value, rows_match}
use Rattle.morsel_join.specs.Sides.{KeptSide, IsRightSide, row_finds, rows_alone, rows_found, rows_on_left, rows_on_right, side_row, wants_asked, wants_kept}
use Rattle.morsel_join.proofs.OrderLemmas.{exchanged_items, exchanged-once, exchanged-promised, straight-promised}
use Rattle.morsel_join.proofs.SideLemmas.{alone-alike, rows-of-join}
use Rattle.morsel_join.proofs.Weights.{weigh, weighed}

left-of-mirrored : (rows : List Row) (item : JoinItem) → left_row rows (mirrored item) ≡ right_row rows item
left-of-mirrored rows (Both i j) = refl
left-of-mirrored rows (LoneLeft i) = refl
left-of-mirrored rows (LoneRight j) = refl

right-of-mirrored : (rows : List Row) (item : JoinItem) → right_row rows (mirrored item) ≡ left_row rows item
right-of-mirrored rows (Both i j) = refl
right-of-mirrored rows (LoneLeft i) = refl
right-of-mirrored rows (LoneRight j) = refl

-- the rows of exchanged items, with the left rows kept
pub mirrored-rows : (rules : JoinRules) (kept asked : List Row) (items : List JoinItem) → map (item_row rules.columns.items kept asked) (map mirrored items) ≡ map (side_row (record { rules = rules; is_left = true; rows = kept }) asked) items
mirrored-rows rules kept asked [] = refl
mirrored-rows rules kept asked (item ∷ items) =
    ap (λ (row : Row). row ∷ map (item_row rules.columns.items kept asked) (map mirrored items))
    (ap (λ (l : Row). map (column_value l (right_row asked (mirrored item))) rules.columns.items) (left-of-mirrored kept item)
    ∙ ap (λ (r : Row). map (column_value (right_row kept item) r) rules.columns.items) (right-of-mirrored asked item))
    ∙ ap (λ (rows : List Row). side_row (record { rules = rules; is_left = true; rows = kept }) asked item ∷ rows) (mirrored-rows rules kept asked items)

-- the rows of items, with the right rows kept
pub straight-rows : (rules : JoinRules) (kept asked : List Row) (items : List JoinItem) → map (item_row rules.columns.items asked kept) items ≡ map (side_row (record { rules = rules; is_left = false; rows = kept }) asked) items
straight-rows rules kept asked [] = refl
straight-rows rules kept asked (item ∷ items) = ap (λ (rows : List Row). side_row (record { rules = rules; is_left = false; rows = kept }) asked item ∷ rows) (straight-rows rules kept asked items)

by-side : (rules : JoinRules) (kept asked : List Row) (is_left : Bool) (out : Table) → is_left ≡ keeps_left rules.how rules.maintain_order → out.schema ≡ rules.output
    → out.rows ≡ map (side_row (record { rules = rules; is_left = is_left; rows = kept }) asked) (left_items (row_finds (record { rules = rules; is_left = is_left; rows = kept })) (wants_asked (record { rules = rules; is_left = is_left; rows = kept })) 0 asked kept ++ right_items (row_finds (record { rules = rules; is_left = is_left; rows = kept })) (wants_kept (record { rules = rules; is_left = is_left; rows = kept })) asked kept)
    → (left right : Table) → left.rows ≡ (if is_left then kept else asked) → right.rows ≡ (if is_left then asked else kept) → IsJoin rules left right out
by-side rules kept asked true out keeps schema rows left right on_left on_right =
    let same : Row → Row → Bool = rows_match rules.join_nulls rules.left_keys.items rules.right_keys.items in
    let list : List JoinItem = exchanged_items rules kept asked in
    record {
      schema = schema;
      items = map mirrored list;
      once = subst (λ (xs : List Row). JoinItems rules.how same xs right.rows (map mirrored list)) (sym on_left)
          (subst (λ (ys : List Row). JoinItems rules.how same kept ys (map mirrored list)) (sym on_right) (exchanged-once rules kept asked));
      promised = exchanged-promised rules kept asked (sym keeps);
      rows = rows ∙ sym (mirrored-rows rules kept asked list) ∙ ap (λ (xs : List Row). map (item_row rules.columns.items xs asked) (map mirrored list)) (sym on_left)
          ∙ ap (λ (ys : List Row). map (item_row rules.columns.items left.rows ys) (map mirrored list)) (sym on_right);
    }
by-side rules kept asked false out keeps schema rows left right on_left on_right =
    let same : Row → Row → Bool = rows_match rules.join_nulls rules.left_keys.items rules.right_keys.items in
    let list : List JoinItem = left_items same (wants_left rules.how) 0 asked kept ++ right_items same (wants_right rules.how) asked kept in
    let once : JoinItems rules.how same asked kept list = λ weight. refl in
    record {
      schema = schema;
      items = list;
      once = subst (λ (xs : List Row). JoinItems rules.how same xs right.rows list) (sym on_left) (subst (λ (ys : List Row). JoinItems rules.how same asked ys list) (sym on_right) once);
      promised = straight-promised rules asked kept (sym keeps);
      rows = rows ∙ sym (straight-rows rules kept asked list) ∙ ap (λ (xs : List Row). map (item_row rules.columns.items xs kept) list) (sym on_left)
          ∙ ap (λ (ys : List Row). map (item_row rules.columns.items left.rows ys) list) (sym on_right);
    }

-- what rows find, and then the kept rows that are alone, are the rows of the join in the promised order
pub joined-by-side : (side : KeptSide) (asked : List Row) (left right out : Table) → IsRightSide side → left.rows ≡ rows_on_left side asked → right.rows ≡ rows_on_right side asked
    → out.schema ≡ side.rules.output → out.rows ≡ rows_found side asked ++ rows_alone side asked → IsJoin side.rules left right out
joined-by-side side asked left right out keeps on_left on_right schema rows =
    by-side side.rules side.rows asked side.is_left out keeps schema (rows ∙ sym (rows-of-join side asked)) left right on_left on_right

count-any : (test : Row → Bool) (rows : List Row) → list_any test rows ≡ nat_lt 0 (weigh (λ row. if test row then 1 else 0) rows)
count-any test [] = refl
count-any test (row ∷ rows) = step (test row) (list_any test rows) (weigh (λ r. if test r then 1 else 0) rows) (count-any test rows)
  where
    step : (t u : Bool) (n : ℕ) → u ≡ nat_lt 0 n → (t || u) ≡ nat_lt 0 ((if t then 1 else 0) + n)
    step true u n e = let some : 0 < 1 + n = omega arith in sym (grind (arith, some))
    step false u n e = e ∙ ap (λ k. nat_lt 0 k) (omega arith)

-- they are the same for the same rows in any order
pub alone-any-order : (side : KeptSide) (asked others : List Row) → AsOften asked others → rows_alone side asked ≡ rows_alone side others
alone-any-order side asked others often = alone-alike side asked others (λ kept.
    let one : Row → ℕ = λ row. if row_finds side row kept then 1 else 0 in
    count-any (λ row. row_finds side row kept) asked
    ∙ ap (λ n. nat_lt 0 n) (sym (weighed one asked) ∙ often one ∙ weighed one others)
    ∙ sym (count-any (λ row. row_finds side row kept) others))
