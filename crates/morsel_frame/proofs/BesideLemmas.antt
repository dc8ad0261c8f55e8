-- Rows of columns side by side, of gathered columns, and of columns that are put first or last.
use Rattle.std.proofs.Common.{◌≡◌, ◌⊎◌, ℕ, zero, suc, ◌+◌, ◌-◌, ◌<◌, ◌≤◌, List, [], ◌∷◌, ◌++◌, length, take, get_or, map, replicate, refl, ap, sym, subst, inl, inr, ◌∙◌, arith, add-one, Bool, true, false, ◌&&◌, if◌then◌else◌, nat_lt, Some, None}
use Rattle.std.specs.Prelude.{ℤ, pos}
use Rattle.std.specs.List.{All}
use Rattle.std.proofs.lemmas.Bool.{le-ltb, lt-ltb}
use Rattle.std.proofs.lemmas.List.{length-map, length-replicate, nil_from_length}
use Rattle.morsel_meaning.specs.declared.value.ColType.{ColType}
use Rattle.morsel_meaning.specs.declared.value.ColType.TheVariants as types
use Rattle.morsel_meaning.specs.declared.value.Value.{Value}
use Rattle.morsel_meaning.specs.declared.value.Value.TheVariants as values
use Rattle.morsel_meaning.specs.declared.value.Field.{Field}
use Rattle.morsel_meaning.specs.Values.{Row}
use Rattle.morsel_meaning.specs.declared.fault.Fault.TheVariants.{ComputeError}
use Rattle.morsel_meaning.specs.declared.fault.ComputeKind.TheVariants.{IndexTooLarge}
use Rattle.morsel_frame.specs.Columns.{Values, AreOfType, masked, value_at}
use Rattle.morsel_frame.specs.Frames.{with_column, rows_of, Fit, AreTyped, IsFramed}
use Rattle.morsel_frame.specs.Made.{counted, column_picks}
use Rattle.morsel_frame.specs.Refusals.{index_fault}
use Rattle.morsel_frame.specs.Stacks.{column_range, column_front}
use Rattle.morsel_frame.specs.Tables.{beside, rows_at, numbered, with_text}
use Rattle.morsel_frame.proofs.ColumnLemmas.{of_type-at}
use Rattle.morsel_frame.proofs.FrameLemmas.{length-rows, length-framed}
use Rattle.morsel_frame.proofs.RowLemmas.{framed-range, rows-range, framed_rows-fit}

-- the front of each column is its range from the first row on
pub front-range : (n : ℕ) (columns : List Values) → map (column_front n) columns ≡ map (column_range 0 n) columns
front-range n [] = refl
front-range n (column ∷ columns) =
    let same : n ≡ n - 0 = omega arith in
    ap (λ m. record { kind = column.kind; values = take m column.values } ∷ map (column_front n) columns) same
    ∙ ap (λ cs. column_range 0 n column ∷ cs) (front-range n columns)

pub rows-front : (height n : ℕ) (columns : List Values) → n ≤ height → rows_of n (map (column_front n) columns) ≡ take n (rows_of height columns)
rows-front height n columns within = ap (rows_of n) (front-range n columns) ∙ rows-range height 0 n n columns (omega arith) (omega arith)

pub framed-front : (fields : List Field) (height n : ℕ) (columns : List Values) → n ≤ height → IsFramed fields height columns → IsFramed fields n (map (column_front n) columns)
framed-front fields height n columns within framed =
    let P : List Values → Type 0 = λ cs. IsFramed fields n cs in
    subst P (sym (front-range n columns)) (framed-range fields height 0 n n columns (omega arith) (omega arith) framed)

beside-nothing : (height : ℕ) (rows : List Row) → length rows ≡ height → rows ≡ beside (replicate height []) rows
beside-nothing zero rows same = nil_from_length rows same
beside-nothing (suc height) [] same = refl
beside-nothing (suc height) (row ∷ rows) same = ap (λ rs. row ∷ rs) (beside-nothing height rows (omega arith))

beside-with_column : (vs : List Value) (rows others : List Row) → with_column vs (beside rows others) ≡ beside (with_column vs rows) others
beside-with_column [] rows others = refl
beside-with_column (v ∷ vs) [] others = refl
beside-with_column (v ∷ vs) (row ∷ rows) [] = refl
beside-with_column (v ∷ vs) (row ∷ rows) (other ∷ others) = ap (λ rs. (v ∷ row ++ other) ∷ rs) (beside-with_column vs rows others)

-- columns after others are rows beside others
pub rows-beside : (fields : List Field) (height : ℕ) (columns others : List Values) → Fit fields height others → rows_of height (columns ++ others) ≡ beside (rows_of height columns) (rows_of height others)
rows-beside fields height [] others fit = beside-nothing height (rows_of height others) (length-rows fields height others fit)
rows-beside fields height (column ∷ columns) others fit =
    ap (with_column column.values) (rows-beside fields height columns others fit)
    ∙ beside-with_column column.values (rows_of height columns) (rows_of height others)

fit-beside : (fields more : List Field) (height : ℕ) (columns others : List Values) → Fit fields height columns → Fit more height others → Fit (fields ++ more) height (columns ++ others)
fit-beside [] more height [] others fit fit_more = fit_more
fit-beside [] more height (column ∷ columns) others fit fit_more = absurd fit
fit-beside (field ∷ fields) more height [] others fit fit_more = absurd fit
fit-beside (field ∷ fields) more height (column ∷ columns) others fit fit_more = (fit.0, fit.1, fit-beside fields more height columns others fit.2 fit_more)

typed-beside : (columns others : List Values) → AreTyped columns → AreTyped others → AreTyped (columns ++ others)
typed-beside [] others typed typed_more = typed_more
typed-beside (column ∷ columns) others typed typed_more = (typed.0, typed-beside columns others typed.1 typed_more)

pub framed-beside : (fields more : List Field) (height : ℕ) (columns others : List Values) → Fit fields height columns → Fit more height others → AreTyped columns → AreTyped others → IsFramed (fields ++ more) height (columns ++ others)
framed-beside fields more height columns others fit fit_more typed typed_more = record {
  fit = inl (fit-beside fields more height columns others fit fit_more);
  typed = typed-beside columns others typed typed_more;
}

-- the value of a row, and the rest of it
row-with_column : (vs : List Value) (rows : List Row) (at : ℕ) → length vs ≡ length rows → at < length rows → value_at vs at ∷ get_or rows at [] ≡ get_or (with_column vs rows) at []
row-with_column [] rows at same within = absurd (omega arith)
row-with_column (v ∷ vs) [] at same within = absurd (omega arith)
row-with_column (v ∷ vs) (row ∷ rows) zero same within = refl
row-with_column (v ∷ vs) (row ∷ rows) (suc at) same within = row-with_column vs rows at (omega arith) (omega arith)

picks-with_column : (vs : List Value) (rows : List Row) (places : List ℕ) (height : ℕ) → length vs ≡ length rows → height ≡ length rows → All (λ at. at < height) places → with_column (map (value_at vs) places) (rows_at rows places) ≡ rows_at (with_column vs rows) places
picks-with_column vs rows [] height same lens within = refl
picks-with_column vs rows (at ∷ places) height same lens within =
    let here : at < length rows = omega (arith, within 0 0 (omega arith)) in
    ap (λ r. r ∷ with_column (map (value_at vs) places) (rows_at rows places)) (row-with_column vs rows at same here)
    ∙ ap (λ rs. get_or (with_column vs rows) at [] ∷ rs) (picks-with_column vs rows places height same lens (λ k d h. within (suc k) d (omega arith)))

no_cells : (height at : ℕ) → [] ≡ get_or {A = Row} (replicate height []) at []
no_cells zero at = refl
no_cells (suc height) zero = refl
no_cells (suc height) (suc at) = no_cells height at

picks-nothing : (height : ℕ) (places : List ℕ) → replicate (length places) [] ≡ rows_at (replicate height []) places
picks-nothing height [] = refl
picks-nothing height (at ∷ places) = ap (λ (r : Row). r ∷ replicate (length places) []) (no_cells height at) ∙ ap (λ rs. get_or (replicate height []) at [] ∷ rs) (picks-nothing height places)

-- rows of gathered columns
pub rows-picks : (fields : List Field) (height : ℕ) (columns : List Values) (places : List ℕ) → Fit fields height columns → All (λ at. at < height) places → rows_of (length places) (map (column_picks places) columns) ≡ rows_at (rows_of height columns) places
rows-picks [] height [] places fit within = picks-nothing height places
rows-picks [] height (column ∷ columns) places fit within = absurd fit
rows-picks (field ∷ fields) height [] places fit within = absurd fit
rows-picks (field ∷ fields) height (column ∷ columns) places fit within =
    let lens = length-rows fields height columns fit.2 in
    ap (with_column (map (value_at column.values) places)) (rows-picks fields height columns places fit.2 within)
    ∙ picks-with_column column.values (rows_of height columns) places height (fit.1 ∙ sym lens) (sym lens) within

picks_of_type : (kind : ColType) (vs : List Value) (places : List ℕ) → AreOfType kind vs → AreOfType kind (map (value_at vs) places)
picks_of_type kind vs [] typed = tt
picks_of_type kind vs (at ∷ places) typed = (of_type-at kind vs at typed, picks_of_type kind vs places typed)

typed-picks : (columns : List Values) (places : List ℕ) → AreTyped columns → AreTyped (map (column_picks places) columns)
typed-picks [] places typed = tt
typed-picks (column ∷ columns) places typed = (picks_of_type column.kind column.values places typed.0, typed-picks columns places typed.1)

fit-picks : (fields : List Field) (height : ℕ) (columns : List Values) (places : List ℕ) → Fit fields height columns → Fit fields (length places) (map (column_picks places) columns)
fit-picks [] height [] places fit = tt
fit-picks [] height (column ∷ columns) places fit = absurd fit
fit-picks (field ∷ fields) height [] places fit = absurd fit
fit-picks (field ∷ fields) height (column ∷ columns) places fit = (fit.0, length-map places (value_at column.values), fit-picks fields height columns places fit.2)

-- no place is within nothing
pub none_within : (height : ℕ) (places : List ℕ) → height ≡ 0 → All (λ at. at < height) places → length places ≡ 0
none_within height [] none within = refl
none_within height (at ∷ places) none within = absurd (omega (arith, within 0 0 (omega arith)))

pub framed-picks : (fields : List Field) (height : ℕ) (columns : List Values) (places : List ℕ) → All (λ at. at < height) places → IsFramed fields height columns → IsFramed fields (length places) (map (column_picks places) columns)
framed-picks fields height columns places within framed = record {
  fit = elim framed.fit as (λ _. Fit fields (length places) (map (column_picks places) columns) ⊎ ((length places ≡ 0) × (map (column_picks places) columns ≡ []))) [
    | inl fit ↦ inl (fit-picks fields height columns places fit)
    | inr absent ↦ inr (none_within height places absent.0 within, ap (map (column_picks places)) absent.1)
  ];
  typed = typed-picks columns places framed.typed;
}

nothing : (f : Values → Values) (columns : List Values) → columns ≡ [] → length (rows_of 0 (map f columns)) ≡ 0
nothing f columns none = ap (λ cs. length (rows_of 0 (map f cs))) none

pub rows-framed_picks : (fields : List Field) (height : ℕ) (columns : List Values) (places : List ℕ) → All (λ at. at < height) places → IsFramed fields height columns → rows_of (length places) (map (column_picks places) columns) ≡ rows_at (rows_of height columns) places
rows-framed_picks fields height columns places within framed = elim framed.fit as (λ _. rows_of (length places) (map (column_picks places) columns) ≡ rows_at (rows_of height columns) places) [
  | inl fit ↦ rows-picks fields height columns places fit within
  | inr absent ↦
      let none = nil_from_length places (none_within height places absent.0 within) in
      let P : List ℕ → Type 0 = λ ps. rows_of (length ps) (map (column_picks ps) columns) ≡ rows_at (rows_of height columns) ps in
      subst P (sym none) (nil_from_length (rows_of 0 (map (column_picks []) columns)) (nothing (column_picks []) columns absent.1))
]

-- every value is valid
pub masked-all : (n : ℕ) (vs : List Value) → length vs ≡ n → masked (replicate n true) vs ≡ vs
masked-all zero [] same = refl
masked-all zero (v ∷ vs) same = absurd (omega arith)
masked-all (suc n) [] same = absurd (omega arith)
masked-all (suc n) (v ∷ vs) same = ap (λ us. v ∷ us) (masked-all n vs (omega arith))

pub length-counted : (first n : ℕ) → length (counted first n) ≡ n
length-counted first zero = refl
length-counted first (suc n) = ap suc (length-counted (first + 1) n)

counted-suc : (first n : ℕ) → counted first n ++ pos (first + n) ∷ [] ≡ counted first (suc n)
counted-suc first zero = let same : first + 0 ≡ first = omega arith in ap (λ m. pos m ∷ []) same
counted-suc first (suc n) =
    let same : first + suc n ≡ (first + 1) + n = omega arith in
    ap (λ m. pos first ∷ counted (first + 1) n ++ pos m ∷ []) same ∙ ap (λ ns. pos first ∷ ns) (counted-suc (first + 1) n)

-- one number more
pub counted_push : (first n : ℕ) → counted first n ++ pos (first + n) ∷ [] ≡ counted first (n + 1)
counted_push first n = counted-suc first n ∙ ap (counted first) (sym (add-one n))

-- a column of numbers before the rows
pub numbered-rows : (first : ℕ) (rows : List Row) (n : ℕ) → length rows ≡ n → with_column (map values.Int (counted first n)) rows ≡ numbered first rows
numbered-rows first [] zero same = refl
numbered-rows first [] (suc n) same = refl
numbered-rows first (row ∷ rows) zero same = absurd (omega arith)
numbered-rows first (row ∷ rows) (suc n) same = ap (λ rs. (values.Int (pos first) ∷ row) ∷ rs) (numbered-rows (first + 1) rows n (omega arith))

pub ints_of_type : (kind : ColType) (ns : List ℤ) → kind ≡ types.Int → AreOfType kind (map values.Int ns)
ints_of_type kind [] is = tt
ints_of_type kind (n ∷ ns) is = (is, ints_of_type kind ns is)

pub text_of_type : (kind : ColType) (n : ℕ) (text : List ℕ) → kind ≡ types.Text → AreOfType kind (replicate n (values.Text text))
text_of_type kind zero text is = tt
text_of_type kind (suc n) text is = (is, text_of_type kind n text is)

-- rows beside one text each
pub text-rows : (text : List ℕ) (rows : List Row) (n : ℕ) → length rows ≡ n → beside rows (with_column (replicate n (values.Text text)) (replicate n [])) ≡ with_text text rows
text-rows text [] zero same = refl
text-rows text [] (suc n) same = refl
text-rows text (row ∷ rows) zero same = absurd (omega arith)
text-rows text (row ∷ rows) (suc n) same = ap (λ rs. (row ++ values.Text text ∷ []) ∷ rs) (text-rows text rows n (omega arith))

-- frames side by side
pub framed-hstack : (a b : List Field) (h k : ℕ) (columns others : List Values) → k ≡ h → 0 < h → IsFramed a h columns → IsFramed b k others → IsFramed (a ++ b) h (columns ++ others)
framed-hstack a b h k columns others same some framed framed_others =
    let P : ℕ → Type 0 = λ n. Fit b n others in
    framed-beside a b h columns others (framed_rows-fit a h columns some framed) (subst P same (framed_rows-fit b k others (omega arith) framed_others)) framed.typed framed_others.typed

pub rows-hstack : (b : List Field) (h k : ℕ) (columns others : List Values) → k ≡ h → 0 < h → IsFramed b k others → rows_of h (columns ++ others) ≡ beside (rows_of h columns) (rows_of k others)
rows-hstack b h k columns others same some framed_others =
    let P : ℕ → Type 0 = λ n. Fit b n others in
    rows-beside b h columns others (subst P same (framed_rows-fit b k others (omega arith) framed_others))
    ∙ ap (λ n. beside (rows_of h columns) (rows_of n others)) (sym same)

-- the column of one text, and its field
abbrev pub text_column : ℕ → List ℕ → Values
text_column n text = record { kind = types.Text; values = replicate n (values.Text text) }

abbrev pub field_of : List ℕ → ColType → Field
field_of name kind = record { name = name; kind = kind }

-- a frame with one text in each row
pub framed-with_text : (fields : List Field) (name text : List ℕ) (h : ℕ) (columns : List Values) → 0 < h → IsFramed fields h columns → IsFramed (fields ++ field_of name types.Text ∷ []) h (columns ++ text_column h text ∷ [])
framed-with_text fields name text h columns some framed =
    framed-beside fields (field_of name types.Text ∷ []) h columns (text_column h text ∷ []) (framed_rows-fit fields h columns some framed)
    (refl, length-replicate h (values.Text text), tt) framed.typed (text_of_type types.Text h text refl, tt)

pub rows-with_text : (fields : List Field) (name text : List ℕ) (h : ℕ) (columns : List Values) → IsFramed fields h columns → rows_of h (columns ++ text_column h text ∷ []) ≡ with_text text (rows_of h columns)
rows-with_text fields name text h columns framed =
    rows-beside (field_of name types.Text ∷ []) h columns (text_column h text ∷ []) (refl, length-replicate h (values.Text text), tt)
    ∙ text-rows text (rows_of h columns) h (length-framed fields h columns framed)

-- the column of numbers from the first on
abbrev pub index_column : ℕ → ℕ → Values
index_column n first = record { kind = types.Int; values = map values.Int (counted first n) }

-- a frame with a number in each row
pub framed-with_index : (fields : List Field) (name : List ℕ) (first h : ℕ) (columns : List Values) → 0 < h → IsFramed fields h columns → IsFramed (field_of name types.Int ∷ fields) h (index_column h first ∷ columns)
framed-with_index fields name first h columns some framed = record {
  fit = inl (refl, length-map (counted first h) values.Int ∙ length-counted first h, framed_rows-fit fields h columns some framed);
  typed = (ints_of_type types.Int (counted first h) refl, framed.typed);
}

pub rows-with_index : (fields : List Field) (first h : ℕ) (columns : List Values) → IsFramed fields h columns → rows_of h (index_column h first ∷ columns) ≡ numbered first (rows_of h columns)
rows-with_index fields first h columns framed = numbered-rows first (rows_of h columns) h (length-framed fields h columns framed)

-- when an index would be too large
pub no_index_fault : (offset h : ℕ) → h ≡ 0 → index_fault offset h ≡ None
no_index_fault offset h none = ap (λ b. if b && nat_lt 4294967295 (offset + h) then Some (ComputeError IndexTooLarge 4294967295 0) else None) (le-ltb 0 h (omega arith))

never : (b : Bool) → (if b && false then Some (ComputeError IndexTooLarge 4294967295 0) else None) ≡ None
never true = refl
never false = refl

pub index_fits : (offset h : ℕ) → offset + h ≤ 4294967295 → index_fault offset h ≡ None
index_fits offset h fits = ap (λ b. if nat_lt 0 h && b then Some (ComputeError IndexTooLarge 4294967295 0) else None) (le-ltb 4294967295 (offset + h) fits) ∙ never (nat_lt 0 h)

pub index_too_large : (offset h : ℕ) → 0 < h → 4294967295 < offset + h → index_fault offset h ≡ Some (ComputeError IndexTooLarge 4294967295 0)
index_too_large offset h some above =
    ap (λ b. if b && nat_lt 4294967295 (offset + h) then Some (ComputeError IndexTooLarge 4294967295 0) else None) (lt-ltb 0 h some)
    ∙ ap (λ b. if b then Some (ComputeError IndexTooLarge 4294967295 0) else None) (lt-ltb 4294967295 (offset + h) above)
