-- What records are to the rows, and what passing one leaves to be read.
use Rattle.std.proofs.Common.{◌≡◌, ℕ, suc, ◌+◌, ◌-◌, ◌<◌, ◌∙◌, sym, ap, refl, arith, Bool, true, false, List, [], ◌∷◌, length, take}
use Rattle.std.specs.Prelude.{Option, Some, None}
use Rattle.std.specs.Str.{is_utf8}
use Rattle.morsel_meaning.specs.declared.value.ColType.{ColType}
use Rattle.morsel_meaning.specs.declared.value.Value.TheVariants as values
use Rattle.morsel_grammar.specs.Dialect.{Dialect}
use Rattle.morsel_grammar.specs.Grammar.{CsvField, CsvRecord, Fields}
use Rattle.morsel_grammar.specs.Cells.{CsvCell, Good, cell_of}
use Rattle.morsel_grammar.specs.Rows.{RowOf, IsRow, is_empty, cells_of, row_or_misfit, row_of_nothing, row_of}
use Rattle.morsel_grammar.specs.Split.{record_at}
use Rattle.morsel_grammar.specs.Reading.{Reading, with_cells, row_then, reading_up_to, row_place}
use Rattle.morsel_text.specs.RowPlaces.{IsKind}
use Rattle.morsel_text.specs.declared.place.RowKind.TheVariants as kinds
use Rattle.morsel_text.proofs.StepLemmas.{row_reading}

nothing_row : (ks : List ColType) → length ks ≡ 1 → (cells : List CsvCell) × (row_of_nothing ks ≡ IsRow cells)
nothing_row [] one = absurd (omega arith)
nothing_row (k ∷ []) one = (Good values.Null ∷ [], refl)
nothing_row (k ∷ l ∷ ks) one = absurd (omega arith)

some_cells : (o : Dialect) (ks : List ColType) (fields : List CsvField) → length fields ≡ length ks → (cells : List CsvCell) × (cells_of o ks fields ≡ Some cells)
some_cells o [] [] same = ([], refl)
some_cells o [] (f ∷ fields) same = absurd (omega arith)
some_cells o (k ∷ ks) [] same = absurd (omega arith)
some_cells o (k ∷ ks) (f ∷ fields) same = let later = some_cells o ks fields (omega arith) in (cell_of o k f ∷ later.0, rw later.1 refl)

no_cells : (o : Dialect) (ks : List ColType) (fields : List CsvField) → (length fields ≡ length ks → ⊥) → cells_of o ks fields ≡ None
no_cells o [] [] other = absurd (other refl)
no_cells o [] (f ∷ fields) other = refl
no_cells o (k ∷ ks) [] other = refl
no_cells o (k ∷ ks) (f ∷ fields) other = rw (no_cells o ks fields (λ same. other (ap suc same))) refl

row_of-empty : (o : Dialect) (ks : List ColType) (fields : List CsvField) → is_empty fields ≡ true → row_of o ks (Fields fields) ≡ row_of_nothing ks
row_of-empty o ks fields is = rw is

row_of-filled : (o : Dialect) (ks : List ColType) (fields : List CsvField) → is_empty fields ≡ false → row_of o ks (Fields fields) ≡ row_or_misfit (cells_of o ks fields)
row_of-filled o ks fields is = rw is

pub kind_null : (o : Dialect) (ks : List ColType) (fields : List CsvField) → is_empty fields ≡ true → length ks ≡ 1 → IsKind (row_of o ks (Fields fields)) kinds.Row
kind_null o ks fields is one = let row = nothing_row ks one in (row.0, row_of-empty o ks fields is ∙ row.1)

pub kind_row : (o : Dialect) (ks : List ColType) (fields : List CsvField) → is_empty fields ≡ false → length fields ≡ length ks → IsKind (row_of o ks (Fields fields)) kinds.Row
kind_row o ks fields is same = let all = some_cells o ks fields same in (all.0, row_of-filled o ks fields is ∙ ap row_or_misfit all.1)

pub kind_misfit : (o : Dialect) (ks : List ColType) (fields : List CsvField) → is_empty fields ≡ false → (length fields ≡ length ks → ⊥) → IsKind (row_of o ks (Fields fields)) kinds.Misfit
kind_misfit o ks fields is other = row_of-filled o ks fields is ∙ ap row_or_misfit (no_cells o ks fields other)

pub skip_row : (n : ℕ) (o : Dialect) (ks : List ColType) (head : Bool) (at : ℕ) (text rest : List ℕ) (r : CsvRecord) (found : RowOf) → 0 < length text → record_at o text ≡ Some (r, rest)
    → is_utf8 (take (length text - length rest) text) ≡ true → head ≡ false → row_of o ks r ≡ found
    → reading_up_to (suc n) o ks head at text ≡ row_then false at found (reading_up_to n o ks false (at + (length text - length rest)) rest)
skip_row n o ks head at text rest r found some is utf8 behind kind =
    ap (λ h. reading_up_to (suc n) o ks h at text) behind ∙ row_reading n o ks at text rest r some is utf8
    ∙ ap (λ k. row_then false at k (reading_up_to n o ks false (at + (length text - length rest)) rest)) kind

-- where a row is among what is read from here on
pub place_next : (total : Option ℕ) (row : ℕ) (before later : Reading) (at : ℕ) (cells : List CsvCell) → before ≡ with_cells at cells later → row_place before.rows (suc row) ≡ total
    → row_place later.rows row ≡ total
place_next total row before later at cells is so_far = sym (ap (λ (r : Reading). row_place r.rows (suc row)) is) ∙ so_far

pub place_here : (total : Option ℕ) (before later : Reading) (at : ℕ) (cells : List CsvCell) → before ≡ with_cells at cells later → row_place before.rows 0 ≡ total → Some at ≡ total
place_here total before later at cells is so_far = sym (ap (λ (r : Reading). row_place r.rows 0) is) ∙ so_far

pub place_over : (total : Option ℕ) (row : ℕ) (rows : List (ℕ × List CsvCell)) → rows ≡ [] → row_place rows row ≡ total → None ≡ total
place_over total row rows none so_far = sym (ap (λ rows. row_place rows row) none) ∙ so_far

-- the step of reading that passing one record is
pub next_fuel : (o : Dialect) (ks : List ColType) (head : Bool) (at n k row : ℕ) (rest : List ℕ) (total : Option ℕ) → k ≡ suc n
    → row_place (reading_up_to k o ks head at rest).rows row ≡ total → row_place (reading_up_to (suc n) o ks head at rest).rows row ≡ total
next_fuel o ks head at n k row rest total one_more so_far = sym (ap (λ m. row_place (reading_up_to m o ks head at rest).rows row) one_more) ∙ so_far

pub place_same : (total : Option ℕ) (row : ℕ) (before later : Reading) → before ≡ later → row_place before.rows row ≡ total → row_place later.rows row ≡ total
place_same total row before later is so_far = sym (ap (λ (r : Reading). row_place r.rows row) is) ∙ so_far
