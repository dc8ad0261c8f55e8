-- What rows find on a kept side: the rows of the items that pair them with kept rows.
use Rattle.std.proofs.Common.{◌≡◌, ◌++◌, [], ◌∷◌, List, ℕ, ◌+◌, suc, zero, drop, get_or, refl, ap, ◌∙◌, sym, Bool, true, false, not, ◌||◌, if◌then◌else◌, map, append_assoc}
use Rattle.std.specs.List.{filter}
use Rattle.std.proofs.lemmas.List.{map-append}
use Rattle.morsel_meaning.specs.Values.{Row}
use Rattle.morsel_join.specs.Items.{Both, LoneRight, places, or_lone, left_items, right_items}
use Rattle.morsel_join.specs.Sides.{KeptSide, joined_row, row_finds, with_each, wants_asked, wants_kept, found_by_row, rows_found, rows_alone, is_asked_for, side_row}

-- what is found of rows that are cut in two
pub found-append : (side : KeptSide) (asked more : List Row) → rows_found side (asked ++ more) ≡ rows_found side asked ++ rows_found side more
found-append side [] more = refl
found-append side (row ∷ asked) more =
    ap (λ (rows : List Row). found_by_row side row ++ rows) (found-append side asked more) ∙ sym (append_assoc (found_by_row side row) (rows_found side asked) (rows_found side more))

-- the first of what is left of a list
pub drop-first : {X : Type 0} (at : ℕ) (all : List X) (x d : X) (xs : List X) → x ∷ xs ≡ drop at all → (get_or all at d ≡ x) × (xs ≡ drop (suc at) all)
drop-first zero [] x d xs e = absurd (cc)
drop-first zero (y ∷ all) x d xs e = (cc, cc)
drop-first (suc at) [] x d xs e = absurd (cc)
drop-first (suc at) (y ∷ all) x d xs e = drop-first at all x d xs e

-- the rows at the places of what passes are those that pass
pub places-rows : (test : Row → Bool) (all : List Row) (at : ℕ) (rows : List Row) → rows ≡ drop at all → map (λ (j : ℕ). get_or all j []) (places test at rows) ≡ filter test rows
places-rows test all at [] e = refl
places-rows test all at (row ∷ rows) e =
    let h = drop-first at all row [] rows e in
    step (test row) (places test (suc at) rows) (filter test rows) h.0 (places-rows test all (suc at) rows h.1)
  where
    step : (t : Bool) (js : List ℕ) (found : List Row) → get_or all at [] ≡ row → map (λ (j : ℕ). get_or all j []) js ≡ found → map (λ (j : ℕ). get_or all j []) (if t then at ∷ js else js) ≡ (if t then row ∷ found else found)
    step true js found here rest = ap (λ (r : Row). r ∷ map (λ (j : ℕ). get_or all j []) js) here ∙ ap (λ (rs : List Row). row ∷ rs) rest
    step false js found here rest = rest

-- the rows of a row with each of some kept rows
pub rows-of-pairs : (side : KeptSide) (asked : List Row) (row : ℕ) (js : List ℕ) → map (side_row side asked) (map (Both row) js) ≡ map (λ (j : ℕ). joined_row side (get_or asked row []) (get_or side.rows j [])) js
rows-of-pairs side asked row [] = refl
rows-of-pairs side asked row (j ∷ js) = ap (λ (rs : List Row). joined_row side (get_or asked row []) (get_or side.rows j []) ∷ rs) (rows-of-pairs side asked row js)

pairs-joined : (side : KeptSide) (row : Row) (js : List ℕ) → map (λ (j : ℕ). joined_row side row (get_or side.rows j [])) js ≡ map (joined_row side row) (map (λ (j : ℕ). get_or side.rows j []) js)
pairs-joined side row [] = refl
pairs-joined side row (j ∷ js) = ap (λ (rs : List Row). joined_row side row (get_or side.rows j []) ∷ rs) (pairs-joined side row js)

-- the rows of the items of one row
row-of-items : (side : KeptSide) (asked : List Row) (wanted : Bool) (at : ℕ) (row : Row) (js : List ℕ) → get_or asked at [] ≡ row → map (side_row side asked) (or_lone wanted at js) ≡ with_each wanted (joined_row side row) (map (λ (j : ℕ). get_or side.rows j []) js)
row-of-items side asked true at row [] here = ap (λ (r : Row). joined_row side r [] ∷ []) here
row-of-items side asked false at row [] here = refl
row-of-items side asked wanted at row (j ∷ js) here =
    rows-of-pairs side asked at (j ∷ js) ∙ ap (λ (r : Row). map (λ (j : ℕ). joined_row side r (get_or side.rows j [])) (j ∷ js)) here ∙ pairs-joined side row (j ∷ js)

-- the rows of the items of rows from a place on are what these rows find
pub rows-of-items : (side : KeptSide) (asked : List Row) (at : ℕ) (rows : List Row) → rows ≡ drop at asked → map (side_row side asked) (left_items (row_finds side) (wants_asked side) at rows side.rows) ≡ rows_found side rows
rows-of-items side asked at [] e = refl
rows-of-items side asked at (row ∷ rows) e =
    let h = drop-first at asked row [] rows e in
    map-append (side_row side asked) (or_lone (wants_asked side) at (places (row_finds side row) 0 side.rows)) (left_items (row_finds side) (wants_asked side) (suc at) rows side.rows)
    ∙ ap (λ (rs : List Row). rs ++ map (side_row side asked) (left_items (row_finds side) (wants_asked side) (suc at) rows side.rows))
    (row-of-items side asked (wants_asked side) at row (places (row_finds side row) 0 side.rows) h.0
    ∙ ap (λ (rs : List Row). with_each (wants_asked side) (joined_row side row) rs) (places-rows (row_finds side row) side.rows 0 side.rows refl))
    ∙ ap (λ (rs : List Row). found_by_row side row ++ rs) (rows-of-items side asked (suc at) rows h.1)

-- the rows of lone items
pub rows-of-lone : (side : KeptSide) (asked : List Row) (js : List ℕ) → map (side_row side asked) (map LoneRight js) ≡ map (joined_row side []) (map (λ (j : ℕ). get_or side.rows j []) js)
rows-of-lone side asked [] = refl
rows-of-lone side asked (j ∷ js) = ap (λ (rs : List Row). joined_row side [] (get_or side.rows j []) ∷ rs) (rows-of-lone side asked js)

-- the rows of the lone items are the kept rows that are alone
pub rows-left-alone : (side : KeptSide) (asked : List Row) → map (side_row side asked) (right_items (row_finds side) (wants_kept side) asked side.rows) ≡ rows_alone side asked
rows-left-alone side asked = by (wants_kept side)
  where
    by : (t : Bool) → map (side_row side asked) (right_items (row_finds side) t asked side.rows) ≡ (if t then map (joined_row side []) (filter (λ kept. not (is_asked_for side asked kept)) side.rows) else [])
    by true = rows-of-lone side asked (places (λ kept. not (is_asked_for side asked kept)) 0 side.rows)
        ∙ ap (map (joined_row side [])) (places-rows (λ kept. not (is_asked_for side asked kept)) side.rows 0 side.rows refl)
    by false = refl

-- what is found, and then what is left alone, are the rows of the items of the join
pub rows-of-join : (side : KeptSide) (asked : List Row) → map (side_row side asked) (left_items (row_finds side) (wants_asked side) 0 asked side.rows ++ right_items (row_finds side) (wants_kept side) asked side.rows) ≡ rows_found side asked ++ rows_alone side asked
rows-of-join side asked =
    map-append (side_row side asked) (left_items (row_finds side) (wants_asked side) 0 asked side.rows) (right_items (row_finds side) (wants_kept side) asked side.rows)
    ∙ ap (λ (rs : List Row). rs ++ map (side_row side asked) (right_items (row_finds side) (wants_kept side) asked side.rows)) (rows-of-items side asked 0 asked refl)
    ∙ ap (λ (rs : List Row). rows_found side asked ++ rs) (rows-left-alone side asked)

-- one of the rows of two lists finds a kept row where one of either list does
pub asked-append : (side : KeptSide) (asked more : List Row) (kept : Row) → is_asked_for side (asked ++ more) kept ≡ (is_asked_for side asked kept || is_asked_for side more kept)
asked-append side [] more kept = refl
asked-append side (row ∷ asked) more kept =
    ap (λ t. row_finds side row kept || t) (asked-append side asked more kept) ∙ or-assoc (row_finds side row kept) (is_asked_for side asked kept) (is_asked_for side more kept)
  where
    or-assoc : (a b c : Bool) → (a || (b || c)) ≡ ((a || b) || c)
    or-assoc true b c = refl
    or-assoc false b c = refl

filter-test : (test other : Row → Bool) (rows : List Row) → ((row : Row) → test row ≡ other row) → filter test rows ≡ filter other rows
filter-test test other [] same = refl
filter-test test other (row ∷ rows) same =
    ap (λ t. if t then row ∷ filter test rows else filter test rows) (same row) ∙ ap (λ (rs : List Row). if other row then row ∷ rs else rs) (filter-test test other rows same)

-- the kept rows that are alone depend on nothing but which of them are found
pub alone-alike : (side : KeptSide) (asked others : List Row) → ((kept : Row) → is_asked_for side asked kept ≡ is_asked_for side others kept) → rows_alone side asked ≡ rows_alone side others
alone-alike side asked others same =
    ap (λ (rows : List Row). if wants_kept side then map (joined_row side []) rows else []) (filter-test (λ kept. not (is_asked_for side asked kept)) (λ kept. not (is_asked_for side others kept)) side.rows (λ kept. ap not (same kept)))
