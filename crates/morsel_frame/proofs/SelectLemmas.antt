-- Columns and fields at distinct places.
use Rattle.std.proofs.Common.{◌≡◌, ℕ, zero, suc, ◌+◌, ◌<◌, ◌≤◌, false, List, [], ◌∷◌, ◌++◌, length, take, drop, get_or, map, set, replicate, nat_eq, refl, ap, sym, subst, inl, inr, ◌∙◌, arith}
use Rattle.std.specs.List.{All, IsDistinct}
use Rattle.std.specs.Str.{bytes_eq}
use Rattle.std.proofs.lemmas.Bool.{cases_lt, cases_Bool, false≢true, eq-eqb}
use Rattle.std.proofs.lemmas.List.{get_or-set_other, get_or-map, get_or_read, map_more, take_more, length-map, append_assoc, append-nil}
use Rattle.std.proofs.lemmas.Map.Keys.{apart_from_distinct, IsDistinct-from_apart}
use Rattle.std.proofs.lemmas.Slice.Eq.{bytes_eq-Decides}
use Rattle.morsel_meaning.specs.declared.value.Field.{Field}
use Rattle.morsel_meaning.specs.Values.{Row, names_of}
use Rattle.morsel_frame.specs.Columns.{Values, AreOfType}
use Rattle.morsel_frame.specs.Frames.{with_column, rows_of, Fit, AreTyped, IsFramed}
use Rattle.morsel_frame.specs.Names.{AreDistinct, AreDistinctPlaces}
use Rattle.morsel_frame.specs.Selects.{no_column, columns_at}
use Rattle.morsel_frame.specs.Tables.{cell_at, cells_at, fields_at}
use Rattle.morsel_frame.proofs.FrameLemmas.{length-rows, length-fit, column-of_rows}

-- where none of the first places is, the columns are as they were
abbrev pub Untouched : List ℕ → ℕ → List Values → List Values → Type 0
Untouched places i old new = (j : ℕ) → ((k : ℕ) → k < i → get_or places k 0 ≡ j → ⊥) → get_or new j no_column ≡ get_or old j no_column

pub untouched-set : (places : List ℕ) (i at : ℕ) (old new : List Values) (y : Values) → at ≡ get_or places i 0 → Untouched places i old new → Untouched places (i + 1) old (set new at y)
untouched-set places i at old new y is untouched = λ j away.
    get_or-set_other new at j y no_column (λ same. away i (omega arith) (sym (same ∙ is)))
    ∙ untouched j (λ k before. away k (omega arith))

-- a place occurs once
pub place-apart : (places : List ℕ) (k i : ℕ) → AreDistinctPlaces places → k < i → i < length places → get_or places k 0 ≡ get_or places i 0 → ⊥
place-apart places k i distinct before within same =
    false≢true (sym (apart_from_distinct nat_eq places k i 0 distinct before within) ∙ eq-eqb (get_or places k 0) (get_or places i 0) same)

-- so the column at the next place is as it was
pub taken-next : (places : List ℕ) (i at : ℕ) (old new : List Values) (column : Values) → AreDistinctPlaces places → i < length places → at ≡ get_or places i 0 → at < length new → column ≡ get_or new at column → Untouched places i old new → column ≡ get_or old at no_column
taken-next places i at old new column distinct within is inside read untouched =
    get_or_read new at column inside read no_column
    ∙ untouched at (λ k before same. place-apart places k i distinct before within (same ∙ is))

pub columns_at-more : (columns : List Values) (places : List ℕ) (i : ℕ) → i < length places → columns_at columns (take (i + 1) places) ≡ columns_at columns (take i places) ++ get_or columns (get_or places i 0) no_column ∷ []
columns_at-more columns places i within = map_more (λ at. get_or columns at no_column) places i 0 within

-- the field at a place within
pub field-at : (fields : List Field) (at : ℕ) (d : Field) → at < length fields → take 1 (drop at fields) ≡ get_or fields at d ∷ []
field-at [] at d within = absurd (omega arith)
field-at (field ∷ fields) zero d within = refl
field-at (field ∷ fields) (suc at) d within = field-at fields at d (omega arith)

fields_at-append : (fields : List Field) (ps qs : List ℕ) → fields_at fields (ps ++ qs) ≡ fields_at fields ps ++ fields_at fields qs
fields_at-append fields [] qs = refl
fields_at-append fields (at ∷ ps) qs = ap (λ fs. take 1 (drop at fields) ++ fs) (fields_at-append fields ps qs) ∙ sym (append_assoc (take 1 (drop at fields)) (fields_at fields ps) (fields_at fields qs))

pub fields_at-more : (fields : List Field) (places : List ℕ) (i at : ℕ) (field : Field) → i < length places → at ≡ get_or places i 0 → at < length fields → field ≡ get_or fields at field → fields_at fields (take (i + 1) places) ≡ fields_at fields (take i places) ++ field ∷ []
fields_at-more fields places i at field within is inside read =
    ap (fields_at fields) (take_more places i 0 within)
    ∙ fields_at-append fields (take i places) (get_or places i 0 ∷ [])
    ∙ ap (λ fs. fields_at fields (take i places) ++ fs)
    (append-nil (take 1 (drop (get_or places i 0) fields)) ∙ ap (λ p. take 1 (drop p fields)) (sym is)
    ∙ field-at fields at field inside ∙ ap (λ f. f ∷ []) (sym read))

names-of_place : (fields : List Field) (at : ℕ) → at < length fields → names_of (take 1 (drop at fields)) ≡ get_or (names_of fields) at [] ∷ []
names-of_place [] at within = absurd (omega arith)
names-of_place (field ∷ fields) zero within = refl
names-of_place (field ∷ fields) (suc at) within = names-of_place fields at (omega arith)

names-append : (fs gs : List Field) → names_of (fs ++ gs) ≡ names_of fs ++ names_of gs
names-append [] gs = refl
names-append (f ∷ fs) gs = ap (λ ns. f.name ∷ ns) (names-append fs gs)

names-at : (fields : List Field) (places : List ℕ) → All (λ at. at < length fields) places → names_of (fields_at fields places) ≡ map (λ at. get_or (names_of fields) at []) places
names-at fields [] within = refl
names-at fields (at ∷ places) within =
    names-append (take 1 (drop at fields)) (fields_at fields places)
    ∙ ap (λ ns. ns ++ names_of (fields_at fields places)) (names-of_place fields at (within 0 0 (omega arith)))
    ∙ ap (λ ns. get_or (names_of fields) at [] ∷ ns) (names-at fields places (λ k d h. within (suc k) d (omega arith)))

flipped : (a b : List ℕ) → bytes_eq b a ≡ false → bytes_eq a b ≡ false
flipped a b apart = elim (cases_Bool (bytes_eq a b)) as (λ _. bytes_eq a b ≡ false) [
  | inl same ↦ absurd (false≢true (sym apart ∙ (bytes_eq-Decides b a).1 (sym ((bytes_eq-Decides a b).0 same))))
  | inr differ ↦ differ
]

lt_of_other : (m n : ℕ) → m ≤ n → (n ≡ m → ⊥) → m < n
lt_of_other m n behind differ = elim (cases_lt m n) as (λ _. m < n) [
  | inl above ↦ above
  | inr level ↦ absurd (differ (omega arith))
]

names-apart : (names : List (List ℕ)) (n m : ℕ) → AreDistinct names → n < length names → m < length names → (n ≡ m → ⊥) → bytes_eq (get_or names n []) (get_or names m []) ≡ false
names-apart names n m distinct inside inside_other differ = elim (cases_lt n m) as (λ _. bytes_eq (get_or names n []) (get_or names m []) ≡ false) [
  | inl before ↦ apart_from_distinct bytes_eq names n m [] distinct before inside_other
  | inr behind ↦
      let above : m < n = lt_of_other m n behind differ in
      flipped (get_or names n []) (get_or names m []) (apart_from_distinct bytes_eq names m n [] distinct above inside)
]

-- names at distinct places are distinct
pub names_at-distinct : (fields : List Field) (places : List ℕ) → AreDistinct (names_of fields) → AreDistinctPlaces places → All (λ at. at < length fields) places → AreDistinct (names_of (fields_at fields places))
names_at-distinct fields places distinct once within =
    let P : List (List ℕ) → Type 0 = λ names. IsDistinct bytes_eq names in
    subst P (sym (names-at fields places within))
    (IsDistinct-from_apart bytes_eq (map (λ at. get_or (names_of fields) at []) places) (λ i j d before inside.
    let lens : length (map (λ at. get_or (names_of fields) at []) places) ≡ length places = length-map places (λ at. get_or (names_of fields) at []) in
    let i_within : i < length places = omega (arith, lens) in
    let j_within : j < length places = omega (arith, lens) in
    let names : length (names_of fields) ≡ length fields = length-map fields (λ f. f.name) in
    ap (λ a. bytes_eq a (get_or (map (λ at. get_or (names_of fields) at []) places) j d)) (get_or-map (λ at. get_or (names_of fields) at []) places i 0 d i_within)
    ∙ ap (λ b. bytes_eq (get_or (names_of fields) (get_or places i 0) []) b) (get_or-map (λ at. get_or (names_of fields) at []) places j 0 d j_within)
    ∙ names-apart (names_of fields) (get_or places i 0) (get_or places j 0) distinct (omega (arith, names, within i 0 i_within)) (omega (arith, names, within j 0 j_within))
    (λ same. place-apart places i j once before j_within same)))

cells-with_column : (at : ℕ) (places : List ℕ) (rows : List Row) → with_column (map (cell_at at) rows) (map (cells_at places) rows) ≡ map (cells_at (at ∷ places)) rows
cells-with_column at places [] = refl
cells-with_column at places (row ∷ rows) = ap (λ rs. (cell_at at row ∷ cells_at places row) ∷ rs) (cells-with_column at places rows)

no_cells : (rows : List Row) (h : ℕ) → length rows ≡ h → replicate h [] ≡ map (cells_at []) rows
no_cells [] zero same = refl
no_cells [] (suc h) same = absurd (omega arith)
no_cells (row ∷ rows) zero same = absurd (omega arith)
no_cells (row ∷ rows) (suc h) same = ap (λ (rs : List Row). [] ∷ rs) (no_cells rows h (omega arith))

-- a column that is read at any default
read-within : (columns : List Values) (at : ℕ) → at < length columns → get_or columns at no_column ≡ get_or columns at (get_or columns at no_column)
read-within [] at within = absurd (omega arith)
read-within (column ∷ columns) zero within = refl
read-within (column ∷ columns) (suc at) within = read-within columns at (omega arith)

-- rows of columns at places
pub rows-at_places : (fields : List Field) (h : ℕ) (columns : List Values) (places : List ℕ) → Fit fields h columns → All (λ at. at < length fields) places → rows_of h (columns_at columns places) ≡ map (cells_at places) (rows_of h columns)
rows-at_places fields h columns [] fit within = no_cells (rows_of h columns) h (length-rows fields h columns fit)
rows-at_places fields h columns (at ∷ places) fit within =
    let inside : at < length columns = omega (arith, length-fit fields h columns fit, within 0 0 (omega arith)) in
    ap (with_column (get_or columns at no_column).values) (rows-at_places fields h columns places fit (λ k d b. within (suc k) d (omega arith)))
    ∙ ap (λ vs. with_column vs (map (cells_at places) (rows_of h columns))) (column-of_rows fields h columns at (get_or columns at no_column) fit inside (read-within columns at inside))
    ∙ cells-with_column at places (rows_of h columns)

fit-place : (fields more : List Field) (h : ℕ) (columns others : List Values) (at : ℕ) → Fit fields h columns → at < length fields → Fit more h others → Fit (take 1 (drop at fields) ++ more) h (get_or columns at no_column ∷ others)
fit-place [] more h columns others at fit within fit_more = absurd (omega arith)
fit-place (field ∷ fields) more h [] others at fit within fit_more = absurd fit
fit-place (field ∷ fields) more h (column ∷ columns) others zero fit within fit_more = (fit.0, fit.1, fit_more)
fit-place (field ∷ fields) more h (column ∷ columns) others (suc at) fit within fit_more = fit-place fields more h columns others at fit.2 (omega arith) fit_more

fit-places : (fields : List Field) (h : ℕ) (columns : List Values) (places : List ℕ) → Fit fields h columns → All (λ at. at < length fields) places → Fit (fields_at fields places) h (columns_at columns places)
fit-places fields h columns [] fit within = tt
fit-places fields h columns (at ∷ places) fit within =
    fit-place fields (fields_at fields places) h columns (columns_at columns places) at fit (within 0 0 (omega arith)) (fit-places fields h columns places fit (λ k d b. within (suc k) d (omega arith)))

typed-place : (columns : List Values) (at : ℕ) → AreTyped columns → AreOfType (get_or columns at no_column).kind (get_or columns at no_column).values
typed-place [] at typed = tt
typed-place (column ∷ columns) zero typed = typed.0
typed-place (column ∷ columns) (suc at) typed = typed-place columns at typed.1

typed-places : (columns : List Values) (places : List ℕ) → AreTyped columns → AreTyped (columns_at columns places)
typed-places columns [] typed = tt
typed-places columns (at ∷ places) typed = (typed-place columns at typed, typed-places columns places typed)

pub framed-places : (fields : List Field) (h : ℕ) (columns : List Values) (places : List ℕ) → Fit fields h columns → AreTyped columns → All (λ at. at < length fields) places → IsFramed (fields_at fields places) h (columns_at columns places)
framed-places fields h columns places fit typed within = record { fit = inl (fit-places fields h columns places fit within); typed = typed-places columns places typed }
