-- Columns side by side as rows: their number, their types, and the column that they give back.
use Rattle.std.proofs.Common.{◌≡◌, ℕ, zero, suc, ◌<◌, List, [], ◌∷◌, Some, length, take, get_or, map, replicate, refl, ap, sym, subst, inl, inr, ◌∙◌, arith, slice_get}
use Rattle.std.proofs.lemmas.List.{length-replicate}
use Rattle.std.specs.Option.{option_map}
use Rattle.morsel_meaning.specs.declared.value.ColType.{ColType}
use Rattle.morsel_meaning.specs.declared.value.Value.{Value}
use Rattle.morsel_meaning.specs.declared.value.Field.{Field}
use Rattle.morsel_meaning.specs.Values.{Row, FitsRows, kinds_of}
use Rattle.morsel_frame.specs.Columns.{Values, AreOfType}
use Rattle.morsel_frame.specs.Frames.{with_column, rows_of, Fit, AreTyped, IsFramed}
use Rattle.morsel_frame.specs.Tables.{cell_at}

-- one column more is typed
pub typed-more : (columns : List Values) (i : ℕ) (d : Values) → i < length columns → d ≡ get_or columns i d → AreOfType d.kind d.values → AreTyped (take i columns) → AreTyped (take (suc i) columns)
typed-more [] i d within read typed before = absurd (omega arith)
typed-more (column ∷ columns) zero d within read typed before =
    let P : Values → Type 0 = λ v. AreOfType v.kind v.values in (subst P read typed, tt)
typed-more (column ∷ columns) (suc i) d within read typed before =
    (before.0, typed-more columns i d (omega arith) read typed before.1)

-- as many rows as the column has values
pub length-with_column : (vs : List Value) (rows : List Row) → length vs ≡ length rows → length (with_column vs rows) ≡ length rows
length-with_column [] [] same = refl
length-with_column [] (row ∷ rows) same = absurd (omega arith)
length-with_column (v ∷ vs) [] same = refl
length-with_column (v ∷ vs) (row ∷ rows) same = ap suc (length-with_column vs rows (omega arith))

-- as many rows as the height says
pub length-rows : (fields : List Field) (height : ℕ) (columns : List Values) → Fit fields height columns → length (rows_of height columns) ≡ height
length-rows [] height [] fit = length-replicate height []
length-rows [] height (column ∷ columns) fit = absurd fit
length-rows (field ∷ fields) height [] fit = absurd fit
length-rows (field ∷ fields) height (column ∷ columns) fit =
    let others = length-rows fields height columns fit.2 in
    length-with_column column.values (rows_of height columns) (fit.1 ∙ sym others) ∙ others

pub length-framed : (fields : List Field) (height : ℕ) (columns : List Values) → IsFramed fields height columns → length (rows_of height columns) ≡ height
length-framed fields height columns framed = elim framed.fit as (λ _. length (rows_of height columns) ≡ height) [
  | inl fit ↦ length-rows fields height columns fit
  | inr absent ↦ ap (λ cs. length (rows_of height cs)) absent.1 ∙ length-replicate height []
]

empty_rows_fit : (height : ℕ) → FitsRows [] (replicate height [])
empty_rows_fit zero = tt
empty_rows_fit (suc height) = (tt, empty_rows_fit height)

fits-with_column : (kind : ColType) (kinds : List ColType) (vs : List Value) (rows : List Row) → AreOfType kind vs → FitsRows kinds rows → FitsRows (kind ∷ kinds) (with_column vs rows)
fits-with_column kind kinds [] rows typed fits = tt
fits-with_column kind kinds (v ∷ vs) [] typed fits = tt
fits-with_column kind kinds (v ∷ vs) (row ∷ rows) typed fits =
    ((typed.0, fits.0), fits-with_column kind kinds vs rows typed.1 fits.1)

-- rows of typed columns fit the types
pub rows_fit : (fields : List Field) (height : ℕ) (columns : List Values) → Fit fields height columns → AreTyped columns → FitsRows (kinds_of fields) (rows_of height columns)
rows_fit [] height [] fit typed = empty_rows_fit height
rows_fit [] height (column ∷ columns) fit typed = absurd fit
rows_fit (field ∷ fields) height [] fit typed = absurd fit
rows_fit (field ∷ fields) height (column ∷ columns) fit typed =
    let P : ColType → Type 0 = λ kind. AreOfType kind column.values in
    fits-with_column field.kind (kinds_of fields) column.values (rows_of height columns) (subst P fit.0 typed.0) (rows_fit fields height columns fit.2 typed.1)

no_row_fits : (kinds : List ColType) (height : ℕ) → height ≡ 0 → FitsRows kinds (replicate height [])
no_row_fits kinds zero none = tt
no_row_fits kinds (suc height) none = absurd (omega arith)

pub framed_rows_fit : (fields : List Field) (height : ℕ) (columns : List Values) → IsFramed fields height columns → FitsRows (kinds_of fields) (rows_of height columns)
framed_rows_fit fields height columns framed = elim framed.fit as (λ _. FitsRows (kinds_of fields) (rows_of height columns)) [
  | inl fit ↦ rows_fit fields height columns fit framed.typed
  | inr absent ↦
      let P : List Values → Type 0 = λ cs. FitsRows (kinds_of fields) (rows_of height cs) in
      subst P (sym absent.1) (no_row_fits (kinds_of fields) height absent.0)
]

-- the first column, and those after it
pub first-of_rows : (vs : List Value) (rows : List Row) → length vs ≡ length rows → map (cell_at 0) (with_column vs rows) ≡ vs
first-of_rows [] rows same = refl
first-of_rows (v ∷ vs) [] same = absurd (omega arith)
first-of_rows (v ∷ vs) (row ∷ rows) same = ap (λ us. v ∷ us) (first-of_rows vs rows (omega arith))

pub next-of_rows : (at : ℕ) (vs : List Value) (rows : List Row) → length vs ≡ length rows → map (cell_at (suc at)) (with_column vs rows) ≡ map (cell_at at) rows
next-of_rows at [] [] same = refl
next-of_rows at [] (row ∷ rows) same = absurd (omega arith)
next-of_rows at (v ∷ vs) [] same = refl
next-of_rows at (v ∷ vs) (row ∷ rows) same = ap (λ us. cell_at at row ∷ us) (next-of_rows at vs rows (omega arith))

-- a column is what the rows have at its place
pub column-of_rows : (fields : List Field) (height : ℕ) (columns : List Values) (at : ℕ) (d : Values) → Fit fields height columns → at < length columns → d ≡ get_or columns at d → d.values ≡ map (cell_at at) (rows_of height columns)
column-of_rows fields height [] at d fit within read = absurd (omega arith)
column-of_rows [] height (column ∷ columns) at d fit within read = absurd fit
column-of_rows (field ∷ fields) height (column ∷ columns) zero d fit within read =
    ap (λ (v : Values). v.values) read
    ∙ sym (first-of_rows column.values (rows_of height columns) (fit.1 ∙ sym (length-rows fields height columns fit.2)))
column-of_rows (field ∷ fields) height (column ∷ columns) (suc at) d fit within read =
    column-of_rows fields height columns at d fit.2 (omega arith) read
    ∙ sym (next-of_rows at column.values (rows_of height columns) (fit.1 ∙ sym (length-rows fields height columns fit.2)))

-- and of the type that the schema has there
kind-of_column : (fields : List Field) (height : ℕ) (columns : List Values) (at : ℕ) (d : Values) → Fit fields height columns → at < length columns → d ≡ get_or columns at d → slice_get (kinds_of fields) at ≡ Some d.kind
kind-of_column fields height [] at d fit within read = absurd (omega arith)
kind-of_column [] height (column ∷ columns) at d fit within read = absurd fit
kind-of_column (field ∷ fields) height (column ∷ columns) zero d fit within read = ap (λ kind. Some kind) (sym fit.0 ∙ ap (λ (v : Values). v.kind) (sym read))
kind-of_column (field ∷ fields) height (column ∷ columns) (suc at) d fit within read = kind-of_column fields height columns at d fit.2 (omega arith) read

-- there is a column for each field
pub length-fit : (fields : List Field) (height : ℕ) (columns : List Values) → Fit fields height columns → length columns ≡ length fields
length-fit [] height [] fit = refl
length-fit [] height (column ∷ columns) fit = absurd fit
length-fit (field ∷ fields) height [] fit = absurd fit
length-fit (field ∷ fields) height (column ∷ columns) fit = ap suc (length-fit fields height columns fit.2)

-- the type of a field
pub kind-of_field : (fields : List Field) (at : ℕ) (field : Field) → slice_get fields at ≡ Some field → slice_get (kinds_of fields) at ≡ Some field.kind
kind-of_field [] at field found = cc
kind-of_field (other ∷ fields) zero field found = ap (option_map (λ (f : Field). f.kind)) found
kind-of_field (other ∷ fields) (suc at) field found = kind-of_field fields at field found

-- where a column is not kept there is no row
pub absent_rows : (fields : List Field) (height : ℕ) (columns : List Values) → IsFramed fields height columns → length columns < length fields → rows_of height columns ≡ []
absent_rows fields height columns framed absent = elim framed.fit as (λ _. rows_of height columns ≡ []) [
  | inl fit ↦ absurd (omega (arith, length-fit fields height columns fit))
  | inr none ↦ ap (rows_of height) none.1 ∙ ap (λ n. replicate n []) none.0
]

-- where one is kept they fit
present_fit : (fields : List Field) (height : ℕ) (columns : List Values) → IsFramed fields height columns → 0 < length columns → Fit fields height columns
present_fit fields height columns framed some = elim framed.fit as (λ _. Fit fields height columns) [
  | inl fit ↦ fit
  | inr none ↦ absurd (omega (arith, ap length none.1))
]

-- a column that is kept, at its place
pub kept_column : (fields : List Field) (height : ℕ) (columns : List Values) (at : ℕ) (d : Values) → IsFramed fields height columns → at < length columns → d ≡ get_or columns at d → (slice_get (kinds_of fields) at ≡ Some d.kind) × (d.values ≡ map (cell_at at) (rows_of height columns))
kept_column fields height columns at d framed within read =
    let fit = present_fit fields height columns framed (omega arith) in
    (kind-of_column fields height columns at d fit within read, column-of_rows fields height columns at d fit within read)
