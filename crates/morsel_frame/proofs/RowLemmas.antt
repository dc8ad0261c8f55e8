-- Rows of ranges of columns, and of columns one below the other.
use Rattle.std.proofs.Common.{◌≡◌, ◌⊎◌, ℕ, zero, suc, ◌+◌, ◌-◌, ◌<◌, ◌≤◌, List, [], ◌∷◌, ◌++◌, length, take, drop, map, min, refl, ap, sym, subst, inl, inr, ◌∙◌, arith}
use Rattle.std.proofs.lemmas.List.{take-replicate, drop-replicate, replicate-append-replicate, take_min, drop_min, nil_from_length, length-append, length-drop}
use Rattle.morsel_meaning.specs.declared.value.ColType.{ColType}
use Rattle.morsel_meaning.specs.declared.value.Value.{Value}
use Rattle.morsel_meaning.specs.declared.value.Field.{Field}
use Rattle.morsel_meaning.specs.Values.{Row}
use Rattle.morsel_frame.specs.Columns.{Values, AreOfType}
use Rattle.morsel_frame.specs.Frames.{with_column, rows_of, Fit, AreTyped, IsFramed}
use Rattle.morsel_frame.specs.Stacks.{column_range, AreTall, AreLevel, AreAlike, stacked}
use Rattle.morsel_frame.proofs.RangeLemmas.{length-range}
use Rattle.morsel_frame.proofs.StackLemmas.{range-whole}
use Rattle.morsel_frame.proofs.FrameLemmas.{length-rows, length-framed}

no_rows : (vs : List Value) → with_column vs [] ≡ []
no_rows [] = refl
no_rows (v ∷ vs) = refl

with_column-take : (n : ℕ) (vs : List Value) (rows : List Row) → with_column (take n vs) (take n rows) ≡ take n (with_column vs rows)
with_column-take zero vs rows = refl
with_column-take (suc n) [] rows = refl
with_column-take (suc n) (v ∷ vs) [] = refl
with_column-take (suc n) (v ∷ vs) (row ∷ rows) = ap (λ rs. (v ∷ row) ∷ rs) (with_column-take n vs rows)

with_column-drop : (n : ℕ) (vs : List Value) (rows : List Row) → with_column (drop n vs) (drop n rows) ≡ drop n (with_column vs rows)
with_column-drop zero vs rows = refl
with_column-drop (suc n) [] rows = refl
with_column-drop (suc n) (v ∷ vs) [] = no_rows (drop n vs)
with_column-drop (suc n) (v ∷ vs) (row ∷ rows) = with_column-drop n vs rows

-- rows of a range of each column
pub rows-range : (height from n to : ℕ) (columns : List Values) → to ≡ from + n → from + n ≤ height → rows_of n (map (column_range from to) columns) ≡ take n (drop from (rows_of height columns))
rows-range height from n to [] at within =
    sym (ap (take n) (drop-replicate from height []) ∙ take-replicate n (height - from) [] (omega arith))
rows-range height from n to (column ∷ columns) at within =
    let len : to - from ≡ n = omega arith in
    ap (λ m. with_column (take m (drop from column.values)) (rows_of n (map (column_range from to) columns))) len
    ∙ ap (with_column (take n (drop from column.values))) (rows-range height from n to columns at within)
    ∙ with_column-take n (drop from column.values) (drop from (rows_of height columns))
    ∙ ap (take n) (with_column-drop from column.values (rows_of height columns))

of_type-take : (kind : ColType) (n : ℕ) (vs : List Value) → AreOfType kind vs → AreOfType kind (take n vs)
of_type-take kind zero vs typed = tt
of_type-take kind (suc n) [] typed = tt
of_type-take kind (suc n) (v ∷ vs) typed = (typed.0, of_type-take kind n vs typed.1)

of_type-drop : (kind : ColType) (n : ℕ) (vs : List Value) → AreOfType kind vs → AreOfType kind (drop n vs)
of_type-drop kind zero vs typed = typed
of_type-drop kind (suc n) [] typed = tt
of_type-drop kind (suc n) (v ∷ vs) typed = of_type-drop kind n vs typed.1

pub of_type-append : (kind : ColType) (vs ws : List Value) → AreOfType kind vs → AreOfType kind ws → AreOfType kind (vs ++ ws)
of_type-append kind [] ws typed typed_more = typed_more
of_type-append kind (v ∷ vs) ws typed typed_more = (typed.0, of_type-append kind vs ws typed.1 typed_more)

typed-range : (from to : ℕ) (columns : List Values) → AreTyped columns → AreTyped (map (column_range from to) columns)
typed-range from to [] typed = tt
typed-range from to (column ∷ columns) typed =
    (of_type-take column.kind (to - from) (drop from column.values) (of_type-drop column.kind from column.values typed.0), typed-range from to columns typed.1)

fit-range : (fields : List Field) (height from n to : ℕ) (columns : List Values) → to ≡ from + n → from + n ≤ height → Fit fields height columns → Fit fields n (map (column_range from to) columns)
fit-range [] height from n to [] at within fit = tt
fit-range [] height from n to (column ∷ columns) at within fit = absurd fit
fit-range (field ∷ fields) height from n to [] at within fit = absurd fit
fit-range (field ∷ fields) height from n to (column ∷ columns) at within fit =
    (fit.0, length-range column.values from to (omega (arith, fit.1)) ∙ omega arith, fit-range fields height from n to columns at within fit.2)

-- a range of each column is framed
pub framed-range : (fields : List Field) (height from n to : ℕ) (columns : List Values) → to ≡ from + n → from + n ≤ height → IsFramed fields height columns → IsFramed fields n (map (column_range from to) columns)
framed-range fields height from n to columns at within framed = record {
  fit = elim framed.fit as (λ _. Fit fields n (map (column_range from to) columns) ⊎ ((n ≡ 0) × (map (column_range from to) columns ≡ []))) [
    | inl fit ↦ inl (fit-range fields height from n to columns at within fit)
    | inr absent ↦ inr (omega (arith, absent.0), ap (map (column_range from to)) absent.1)
  ];
  typed = typed-range from to columns framed.typed;
}

-- framed columns are level, and tall
pub fit-level : (fields : List Field) (height : ℕ) (columns : List Values) → Fit fields height columns → AreLevel height columns
fit-level [] height [] fit = tt
fit-level [] height (column ∷ columns) fit = absurd fit
fit-level (field ∷ fields) height [] fit = absurd fit
fit-level (field ∷ fields) height (column ∷ columns) fit = (fit.1, fit-level fields height columns fit.2)

pub framed-level : (fields : List Field) (height : ℕ) (columns : List Values) → IsFramed fields height columns → AreLevel height columns
framed-level fields height columns framed = elim framed.fit as (λ _. AreLevel height columns) [
  | inl fit ↦ fit-level fields height columns fit
  | inr absent ↦ let P : List Values → Type 0 = AreLevel height in subst P (sym absent.1) tt
]

pub level-tall : (height to : ℕ) (columns : List Values) → to ≤ height → AreLevel height columns → AreTall to columns
level-tall height to [] within level = tt
level-tall height to (column ∷ columns) within level = (omega (arith, level.0), level-tall height to columns within level.1)

-- a range of rows that is cut where the rows end
pub clamped : (rows : List Row) (offset len height from n : ℕ) → length rows ≡ height → from ≡ min offset height → n ≡ min len (height - from) → take n (drop from rows) ≡ take len (drop offset rows)
clamped rows offset len height from n lens begins ends =
    let at : from ≡ min offset (length rows) = omega arith in
    let rest : n ≡ min len (length (drop offset rows)) = omega (arith, length-drop offset rows) in
    ap (λ m. take n (drop m rows)) at ∙ ap (take n) (drop_min offset rows)
    ∙ ap (λ m. take m (drop offset rows)) rest ∙ take_min len (drop offset rows)

-- the whole range of each column
range_of_all : (n : ℕ) (columns : List Values) → AreLevel n columns → map (column_range 0 n) columns ≡ columns
range_of_all n [] level = refl
range_of_all n (column ∷ columns) level =
    ap (λ vs. record { kind = column.kind; values = vs } ∷ map (column_range 0 n) columns) (range-whole column.values n (sym level.0))
    ∙ ap (λ cs. column ∷ cs) (range_of_all n columns level.1)

pub range-framed : (fields : List Field) (n : ℕ) (columns : List Values) → IsFramed fields n columns → map (column_range 0 n) columns ≡ columns
range-framed fields n columns framed = range_of_all n columns (framed-level fields n columns framed)

with_column-append : (vs ws : List Value) (rows more : List Row) → length vs ≡ length rows → with_column (vs ++ ws) (rows ++ more) ≡ with_column vs rows ++ with_column ws more
with_column-append [] ws [] more same = refl
with_column-append [] ws (row ∷ rows) more same = absurd (omega arith)
with_column-append (v ∷ vs) ws [] more same = absurd (omega arith)
with_column-append (v ∷ vs) ws (row ∷ rows) more same = ap (λ rs. (v ∷ row) ∷ rs) (with_column-append vs ws rows more (omega arith))

-- columns of one schema, one below the other: they are of the same types, they fit, and their rows follow each other
below-fit : (fields : List Field) (height more : ℕ) (columns others : List Values) → Fit fields height columns → Fit fields more others → AreAlike columns others × Fit fields (height + more) (stacked columns others) × (rows_of (height + more) (stacked columns others) ≡ rows_of height columns ++ rows_of more others)
below-fit [] height more [] [] fit fit_others = (tt, tt, sym (replicate-append-replicate height more []))
below-fit [] height more (column ∷ columns) others fit fit_others = absurd fit
below-fit [] height more [] (other ∷ others) fit fit_others = absurd fit_others
below-fit (field ∷ fields) height more [] others fit fit_others = absurd fit
below-fit (field ∷ fields) height more (column ∷ columns) [] fit fit_others = absurd fit_others
below-fit (field ∷ fields) height more (column ∷ columns) (other ∷ others) fit fit_others =
    let below = below-fit fields height more columns others fit.2 fit_others.2 in (
      (fit_others.0 ∙ sym fit.0, below.0),
      (fit.0, omega (arith, length-append column.values other.values, fit.1, fit_others.1), below.1),
      ap (with_column (column.values ++ other.values)) below.2
          ∙ with_column-append column.values other.values (rows_of height columns) (rows_of more others) (fit.1 ∙ sym (length-rows fields height columns fit.2)),
    )

typed-stacked : (columns others : List Values) → AreAlike columns others → AreTyped columns → AreTyped others → AreTyped (stacked columns others)
typed-stacked [] [] alike typed typed_others = tt
typed-stacked [] (other ∷ others) alike typed typed_others = absurd alike
typed-stacked (column ∷ columns) [] alike typed typed_others = absurd alike
typed-stacked (column ∷ columns) (other ∷ others) alike typed typed_others =
    let P : ColType → Type 0 = λ kind. AreOfType kind other.values in
    (of_type-append column.kind column.values other.values typed.0 (subst P alike.0 typed_others.0), typed-stacked columns others alike.1 typed.1 typed_others.1)

-- where there are rows the columns fit
pub framed_rows-fit : (fields : List Field) (height : ℕ) (columns : List Values) → 0 < height → IsFramed fields height columns → Fit fields height columns
framed_rows-fit fields height columns some framed = elim framed.fit as (λ _. Fit fields height columns) [
  | inl fit ↦ fit
  | inr absent ↦ absurd (omega (arith, absent.0))
]

-- and where there are none they make no rows
pub framed-nothing : (fields : List Field) (height : ℕ) (columns : List Values) → height ≡ 0 → IsFramed fields height columns → rows_of height columns ≡ []
framed-nothing fields height columns none framed = nil_from_length (rows_of height columns) (length-framed fields height columns framed ∙ none)

-- framed columns that have rows, one below the other
pub framed-below : (fields : List Field) (height more : ℕ) (columns others : List Values) → 0 < height → 0 < more → IsFramed fields height columns → IsFramed fields more others → AreAlike columns others × IsFramed fields (height + more) (stacked columns others) × (rows_of (height + more) (stacked columns others) ≡ rows_of height columns ++ rows_of more others)
framed-below fields height more columns others some some_more framed framed_others =
    let below = below-fit fields height more columns others (framed_rows-fit fields height columns some framed) (framed_rows-fit fields more others some_more framed_others) in
    (below.0, record { fit = inl below.1; typed = typed-stacked columns others below.0 framed.typed framed_others.typed }, below.2)
