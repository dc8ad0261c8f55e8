-- Rows that fit types, and what they have under some columns.
use Rattle.std.proofs.Common.{◌≡◌, ◌<◌, ◌++◌, [], ◌∷◌, List, ℕ, zero, suc, length, take, drop, get_or, slice_get, Some, sym, refl, arith, subst, ◌^◌}
use Rattle.std.specs.List.{All}
use Rattle.std.proofs.lemmas.Option.{get_or_from_slice_get, slice_get_within}
use Rattle.morsel_keys.specs.Slots.{no_number}
use Rattle.morsel_meaning.specs.declared.value.ColType.{ColType}
use Rattle.morsel_meaning.specs.declared.value.Field.{Field}
use Rattle.morsel_meaning.specs.Values.{Row, IsOfType, FitsRow, FitsRows, kinds_of}
use Rattle.morsel_frame.specs.Tables.{cell_at, cells_at, fields_at}

pub fits_last : (kinds : List ColType) (rows : List Row) (row : Row) → FitsRows kinds rows → FitsRow kinds row → FitsRows kinds (rows ++ row ∷ [])
fits_last kinds [] row all last = (last, tt)
fits_last kinds (r ∷ rows) row (here, all) last = (here, fits_last kinds rows row all last)

pub fits_at : (kinds : List ColType) (rows : List Row) (at : ℕ) → FitsRows kinds rows → at < length rows → FitsRow kinds (get_or rows at [])
fits_at kinds [] at all l = absurd (omega (arith, l))
fits_at kinds (r ∷ rows) zero (here, all) l = here
fits_at kinds (r ∷ rows) (suc at) (here, all) l = fits_at kinds rows at all (omega (arith, l))

-- the key at a place fits, however it is read
pub fits_held : (kinds : List ColType) (rows : List Row) (at : ℕ) (key : Row) → FitsRows kinds rows → slice_get rows at ≡ Some key → FitsRow kinds key
fits_held kinds rows at key all e = subst (FitsRow kinds) (get_or_from_slice_get rows at key [] e) (fits_at kinds rows at all (slice_get_within rows at key e))

-- the number of a key is below the most
pub number_within : (rows : List Row) (at : ℕ) (key : Row) → slice_get rows at ≡ Some key → length rows < 2 ^ 32 → at < no_number
number_within rows at key e short = let l = slice_get_within rows at key e in omega (arith, l, short)

-- the field at a place, whose type the value there has
field_fits : (fields : List Field) (row : Row) (at : ℕ) (P : Type 0) → FitsRow (kinds_of fields) row → at < length fields
    → ((field : Field) → take 1 (drop at fields) ≡ field ∷ [] → IsOfType field.kind (cell_at at row) → P) → P
field_fits [] row at P fit l go = absurd (omega (arith, l))
field_fits (field ∷ fields) [] at P fit l go = absurd fit
field_fits (field ∷ fields) (v ∷ row) zero P (here, more) l go = go field refl here
field_fits (field ∷ fields) (v ∷ row) (suc at) P (here, more) l go = field_fits fields row at P more (omega (arith, l)) go

pub fits_cells : (fields : List Field) (row : Row) (places : List ℕ) → FitsRow (kinds_of fields) row → All (λ at. at < length fields) places → FitsRow (kinds_of (fields_at fields places)) (cells_at places row)
fits_cells fields row [] fit within = tt
fits_cells fields row (at ∷ places) fit within =
    let later = fits_cells fields row places fit (λ k d l. within (suc k) d (omega (arith, l))) in
    field_fits fields row at (FitsRow (kinds_of (fields_at fields (at ∷ places))) (cells_at (at ∷ places) row)) fit (within 0 0 (omega arith))
    (λ field is of_type. subst (λ (fs : List Field). FitsRow (kinds_of (fs ++ fields_at fields places)) (cells_at (at ∷ places) row)) (sym is) (of_type, later))
