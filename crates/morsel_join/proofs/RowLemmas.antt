-- The rows of items, column by column.
use Rattle.std.proofs.Common.{◌≡◌, ◌≤◌, [], ◌∷◌, List, ℕ, zero, suc, length, map, get_or, replicate, refl, arith, ap, ◌∙◌, sym, Bool, true, false, if◌then◌else◌, nat_lt}
use Rattle.std.proofs.lemmas.List.{length-map}
use Rattle.std.proofs.Math.ListN.{get_or-map}
use Rattle.morsel_meaning.specs.declared.value.Value.{Value}
use Rattle.morsel_meaning.specs.declared.value.Value.TheVariants.{Null}
use Rattle.morsel_meaning.specs.declared.value.Field.{Field}
use Rattle.morsel_meaning.specs.Values.{Row, Table, kinds_of}
use Rattle.morsel_frame.specs.Columns.{value_at, value_or_null, no_row}
use Rattle.morsel_frame.specs.Frames.{rows_of, with_column, Fit}
use Rattle.morsel_frame.specs.Tables.{cell_at}
use Rattle.morsel_join.specs.declared.rules.JoinColumn.{JoinColumn}
use Rattle.morsel_join.specs.declared.rules.JoinColumn.TheVariants as columns
use Rattle.morsel_join.specs.Items.{JoinItem, Both, LoneLeft, LoneRight}
use Rattle.morsel_join.specs.Chains.{left_mark, right_mark}
use Rattle.morsel_join.specs.Rows.{left_row, right_row, first_value, first_values, column_value, column_kind, marked_values, marked_column, item_row}

no-rows : (rows : List Row) (i : ℕ) → length rows ≤ i → ◌≡◌ {A = Row} (get_or rows i []) []
no-rows [] i past = refl
no-rows (row ∷ rows) zero past = absurd (omega (arith, past))
no-rows (row ∷ rows) (suc i) past = no-rows rows i (omega (arith, past))

-- the value of a row, and null past the last
mark-value : (at : ℕ) (rows : List Row) (i : ℕ) → length rows ≤ no_row → value_or_null (map (cell_at at) rows) i ≡ cell_at at (get_or rows i [])
mark-value at rows i few = by (nat_lt i no_row) refl
  where
    by : (t : Bool) → nat_lt i no_row ≡ t → (if t then value_at (map (cell_at at) rows) i else Null) ≡ cell_at at (get_or rows i [])
    by true q = get_or-map (cell_at at) rows i []
    by false q = let past : no_row ≤ i = grind (arith, q) in ap (cell_at at) (sym (no-rows rows i (omega (arith, few, past))))

left-value : (at : ℕ) (rows : List Row) (item : JoinItem) → length rows ≤ no_row → value_or_null (map (cell_at at) rows) (left_mark item) ≡ cell_at at (left_row rows item)
left-value at rows (Both i j) few = mark-value at rows i few
left-value at rows (LoneLeft i) few = mark-value at rows i few
left-value at rows (LoneRight j) few = refl

right-value : (at : ℕ) (rows : List Row) (item : JoinItem) → length rows ≤ no_row → value_or_null (map (cell_at at) rows) (right_mark item) ≡ cell_at at (right_row rows item)
right-value at rows (Both i j) few = mark-value at rows j few
right-value at rows (LoneLeft i) few = refl
right-value at rows (LoneRight j) few = mark-value at rows j few

left-values : (at : ℕ) (rows : List Row) (items : List JoinItem) → length rows ≤ no_row → map (value_or_null (map (cell_at at) rows)) (map left_mark items) ≡ map (λ item. cell_at at (left_row rows item)) items
left-values at rows [] few = refl
left-values at rows (item ∷ items) few = ap (λ v. v ∷ map (value_or_null (map (cell_at at) rows)) (map left_mark items)) (left-value at rows item few) ∙ ap (λ vs. cell_at at (left_row rows item) ∷ vs) (left-values at rows items few)

right-values : (at : ℕ) (rows : List Row) (items : List JoinItem) → length rows ≤ no_row → map (value_or_null (map (cell_at at) rows)) (map right_mark items) ≡ map (λ item. cell_at at (right_row rows item)) items
right-values at rows [] few = refl
right-values at rows (item ∷ items) few = ap (λ v. v ∷ map (value_or_null (map (cell_at at) rows)) (map right_mark items)) (right-value at rows item few) ∙ ap (λ vs. cell_at at (right_row rows item) ∷ vs) (right-values at rows items few)

firsts : (f g : JoinItem → Value) (items : List JoinItem) → first_values (map f items) (map g items) ≡ map (λ item. first_value (f item) (g item)) items
firsts f g [] = refl
firsts f g (item ∷ items) = ap (λ vs. first_value (f item) (g item) ∷ vs) (firsts f g items)

-- the values of a column in the rows of items
values-marked : (left right : Table) (items : List JoinItem) (column : JoinColumn) → length left.rows ≤ no_row → length right.rows ≤ no_row → marked_values left right (map left_mark items) (map right_mark items) column ≡ map (λ item. column_value (left_row left.rows item) (right_row right.rows item) column) items
values-marked left right items (columns.Left at) few fewer = left-values at left.rows items few
values-marked left right items (columns.Right at) few fewer = right-values at right.rows items fewer
values-marked left right items (columns.Either l r) few fewer =
    ap (λ vs. first_values vs (map (value_or_null (map (cell_at r) right.rows)) (map right_mark items))) (left-values l left.rows items few)
    ∙ ap (λ vs. first_values (map (λ item. cell_at l (left_row left.rows item)) items) vs) (right-values r right.rows items fewer)
    ∙ firsts (λ item. cell_at l (left_row left.rows item)) (λ item. cell_at r (right_row right.rows item)) items

blank-rows : (lefts rights : List Row) (items : List JoinItem) → ◌≡◌ {A = List Row} (replicate (length items) []) (map (item_row [] lefts rights) items)
blank-rows lefts rights [] = refl
blank-rows lefts rights (item ∷ items) = ap (λ (rows : List Row). [] ∷ rows) (blank-rows lefts rights items)

put-beside : (f : JoinItem → Value) (g : JoinItem → Row) (items : List JoinItem) → with_column (map f items) (map g items) ≡ map (λ item. f item ∷ g item) items
put-beside f g [] = refl
put-beside f g (item ∷ items) = ap (λ rows. (f item ∷ g item) ∷ rows) (put-beside f g items)

-- the rows of gathered columns are those of the items
pub rows-gathered : (left right : Table) (items : List JoinItem) (cs : List JoinColumn) → length left.rows ≤ no_row → length right.rows ≤ no_row → rows_of (length items) (map (marked_column left right (map left_mark items) (map right_mark items)) cs) ≡ map (item_row cs left.rows right.rows) items
rows-gathered left right items [] few fewer = blank-rows left.rows right.rows items
rows-gathered left right items (c ∷ cs) few fewer =
    ap (λ vs. with_column vs (rows_of (length items) (map (marked_column left right (map left_mark items) (map right_mark items)) cs))) (values-marked left right items c few fewer)
    ∙ ap (λ rows. with_column (map (λ item. column_value (left_row left.rows item) (right_row right.rows item) c) items) rows) (rows-gathered left right items cs few fewer)
    ∙ put-beside (λ item. column_value (left_row left.rows item) (right_row right.rows item) c) (item_row cs left.rows right.rows) items

firsts-len : (as_ bs : List Value) → length bs ≡ length as_ → length (first_values as_ bs) ≡ length as_
firsts-len [] bs same = refl
firsts-len (a ∷ as_) [] same = absurd (omega (arith, same))
firsts-len (a ∷ as_) (b ∷ bs) same = ap suc (firsts-len as_ bs (omega (arith, same)))

values-len : (left right : Table) (lefts rights : List ℕ) (column : JoinColumn) → length rights ≡ length lefts → length (marked_values left right lefts rights column) ≡ length lefts
values-len left right lefts rights (columns.Left at) same = length-map lefts (value_or_null (map (cell_at at) left.rows))
values-len left right lefts rights (columns.Right at) same = length-map rights (value_or_null (map (cell_at at) right.rows)) ∙ same
values-len left right lefts rights (columns.Either l r) same =
    let a = length-map lefts (value_or_null (map (cell_at l) left.rows)) in
    let b = length-map rights (value_or_null (map (cell_at r) right.rows)) in
    firsts-len (map (value_or_null (map (cell_at l) left.rows)) lefts) (map (value_or_null (map (cell_at r) right.rows)) rights) (b ∙ same ∙ sym a) ∙ a

-- gathered columns fit
pub gathered-fit : (left right : Table) (lefts rights : List ℕ) (fields : List Field) (cs : List JoinColumn) → length rights ≡ length lefts → kinds_of fields ≡ map (column_kind left.schema right.schema) cs → Fit fields (length lefts) (map (marked_column left right lefts rights) cs)
gathered-fit left right lefts rights [] [] same kinds = tt
gathered-fit left right lefts rights [] (c ∷ cs) same kinds = absurd (cc)
gathered-fit left right lefts rights (f ∷ fields) [] same kinds = absurd (cc)
gathered-fit left right lefts rights (f ∷ fields) (c ∷ cs) same kinds = (cc, values-len left right lefts rights c same, gathered-fit left right lefts rights fields cs same (cc))
