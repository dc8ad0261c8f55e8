-- The columns that are kept, by their places.
use Rattle.std.proofs.Common.{◌≡◌, ℕ, zero, suc, ◌+◌, ◌<◌, ◌≤◌, ap, sym, refl, ◌∙◌, arith, append_assoc, length-append}
use Rattle.std.specs.Prelude.{Bool, true, false, List, [], ◌∷◌, ◌++◌, length, take, drop, get_or, nat_eq}
use Rattle.std.specs.List.{All}
use Rattle.std.proofs.lemmas.List.{get_or-append-add}
use Rattle.std.proofs.lemmas.Bool.{ne_eqb}
use Rattle.std.proofs.lemmas.Map.Keys.{IsDistinct-from_apart}
use Rattle.morsel_meaning.specs.declared.value.Value.{Value}
use Rattle.morsel_meaning.specs.declared.value.Value.TheVariants as values
use Rattle.morsel_meaning.specs.declared.value.Field.{Field}
use Rattle.morsel_meaning.specs.Values.{Row}
use Rattle.morsel_frame.specs.Names.{AreDistinctPlaces}
use Rattle.morsel_frame.specs.Tables.{cell_at, cells_at, fields_at}
use Rattle.morsel_grammar.specs.Reading.{chosen}
use Rattle.morsel_scan.specs.Decoding.{true_places}

further : {A : Type 0} (front : List A) (x : A) → length front + 1 ≡ length (front ++ x ∷ [])
further front x = sym (length-append front (x ∷ []))

-- the values at the places of what is kept
pub cells_at-places : (mask : List Bool) (front row : Row) → length mask ≡ length row → cells_at (true_places (length front) mask) (front ++ row) ≡ chosen mask row
cells_at-places [] front row same = refl
cells_at-places (m ∷ mask) front [] same = absurd (omega arith)
cells_at-places (true ∷ mask) front (v ∷ row) same =
    let zero_more : length front + 0 ≡ length front = omega arith in
    let here : cell_at (length front) (front ++ v ∷ row) ≡ v = ap (λ n. get_or (front ++ v ∷ row) n values.Null) (sym zero_more) ∙ get_or-append-add front (v ∷ row) 0 values.Null in
    ap (λ (x : Value). x ∷ cells_at (true_places (length front + 1) mask) (front ++ v ∷ row)) here
    ∙ ap (λ (r : Row). v ∷ cells_at (true_places (length front + 1) mask) r) (sym (append_assoc front (v ∷ []) row))
    ∙ ap (λ n. v ∷ cells_at (true_places n mask) ((front ++ v ∷ []) ++ row)) (further front v)
    ∙ ap (λ (r : Row). v ∷ r) (cells_at-places mask (front ++ v ∷ []) row (omega arith))
cells_at-places (false ∷ mask) front (v ∷ row) same =
    ap (λ (r : Row). cells_at (true_places (length front + 1) mask) r) (sym (append_assoc front (v ∷ []) row))
    ∙ ap (λ n. cells_at (true_places n mask) ((front ++ v ∷ []) ++ row)) (further front v)
    ∙ cells_at-places mask (front ++ v ∷ []) row (omega arith)

drop-front : {A : Type 0} (front later : List A) → drop (length front) (front ++ later) ≡ later
drop-front [] later = refl
drop-front (x ∷ front) later = drop-front front later

pub fields_at-places : (mask : List Bool) (front fields : List Field) → length mask ≡ length fields → fields_at (front ++ fields) (true_places (length front) mask) ≡ chosen mask fields
fields_at-places [] front fields same = refl
fields_at-places (m ∷ mask) front [] same = absurd (omega arith)
fields_at-places (true ∷ mask) front (f ∷ fields) same =
    ap (λ (fs : List Field). take 1 fs ++ fields_at (front ++ f ∷ fields) (true_places (length front + 1) mask)) (drop-front front (f ∷ fields))
    ∙ ap (λ (fs : List Field). f ∷ fields_at fs (true_places (length front + 1) mask)) (sym (append_assoc front (f ∷ []) fields))
    ∙ ap (λ n. f ∷ fields_at ((front ++ f ∷ []) ++ fields) (true_places n mask)) (further front f)
    ∙ ap (λ (fs : List Field). f ∷ fs) (fields_at-places mask (front ++ f ∷ []) fields (omega arith))
fields_at-places (false ∷ mask) front (f ∷ fields) same =
    ap (λ (fs : List Field). fields_at fs (true_places (length front + 1) mask)) (sym (append_assoc front (f ∷ []) fields))
    ∙ ap (λ n. fields_at ((front ++ f ∷ []) ++ fields) (true_places n mask)) (further front f)
    ∙ fields_at-places mask (front ++ f ∷ []) fields (omega arith)

-- each place is one of the mask's
pub places-within : (mask : List Bool) (first k : ℕ) (d : ℕ) → k < length (true_places first mask) → (first ≤ get_or (true_places first mask) k d) × (get_or (true_places first mask) k d < first + length mask)
places-within [] first k d within = absurd (omega arith)
places-within (true ∷ mask) first zero d within = (omega arith, omega arith)
places-within (true ∷ mask) first (suc k) d within = let later = places-within mask (first + 1) k d (omega arith) in (let h = later.0 in omega arith, let h = later.1 in omega arith)
places-within (false ∷ mask) first k d within = let later = places-within mask (first + 1) k d within in (let h = later.0 in omega arith, let h = later.1 in omega arith)

-- the places rise
places-rise : (mask : List Bool) (first i j : ℕ) (d : ℕ) → i < j → j < length (true_places first mask) → get_or (true_places first mask) i d < get_or (true_places first mask) j d
places-rise [] first i j d before within = absurd (omega arith)
places-rise (true ∷ mask) first i zero d before within = absurd (omega arith)
places-rise (true ∷ mask) first zero (suc j) d before within = let later = places-within mask (first + 1) j d (omega arith) in let h = later.0 in omega arith
places-rise (true ∷ mask) first (suc i) (suc j) d before within = places-rise mask (first + 1) i j d (omega arith) (omega arith)
places-rise (false ∷ mask) first i j d before within = places-rise mask (first + 1) i j d before within

pub places-distinct : (mask : List Bool) → AreDistinctPlaces (true_places 0 mask)
places-distinct mask = IsDistinct-from_apart nat_eq (true_places 0 mask) (λ i j d before within.
    ne_eqb (get_or (true_places 0 mask) i d) (get_or (true_places 0 mask) j d) (λ same. let rise = places-rise mask 0 i j d before within in omega arith))

pub places-all : (mask : List Bool) (width : ℕ) → length mask ≡ width → All (λ at. at < width) (true_places 0 mask)
places-all mask width same = λ k d within. let all = places-within mask 0 k d within in let h = all.1 in omega arith
