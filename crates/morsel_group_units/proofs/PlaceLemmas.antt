-- The places of the rows of loads that were taken.
use Rattle.std.proofs.Common.{◌≡◌, ◌≤◌, ◌<◌, [], ◌∷◌, ◌++◌, ◌+◌, List, ℕ, length, map, refl, sym, ap, subst, ◌∙◌, arith, Bool, true, false, ◌==◌, ◌&&◌, if◌then◌else◌}
use Rattle.std.specs.List.{sum_by}
use Rattle.std.specs.Prelude.{IsPermutation}
use Rattle.std.proofs.lemmas.Bool.{false≢true}
use Rattle.std.proofs.lemmas.Bool.Decides.{nat_tests}
use Rattle.std.proofs.lemmas.List.{flat_map_more, length-map, map-append}
use Rattle.std.proofs.lemmas.List.Concat.{flat_map-append}
use Rattle.std.proofs.lemmas.List.Sorted.{sum_by-IsPermutation}
use Rattle.std.proofs.lemmas.List.Sums.{sum_by-append, sum_by-cons}
use Rattle.morsel_meaning.specs.Often.{AsOften}
use Rattle.morsel_meaning.specs.Sequences.{AllAfter, InOrder}
use Rattle.morsel_meaning.specs.Values.{Row}
use Rattle.morsel_meaning.specs.Order.{value_eq}
use Rattle.morsel_meaning.proofs.OrderLemmas.{value_eq-itself, value_eq-same}
use Rattle.morsel_keys.specs.Reductions.{input_place}
use Rattle.morsel_group.specs.Grouping.{RowAt, in_order, same_key}
use Rattle.morsel_group.specs.Takes.{placed_rows}
use Rattle.morsel_group_units.specs.TakenLoads.{PlacesRise, placed_load, placed_loads, rows_taken}
use Rattle.morsel_group_units.specs.declared.taken_load.TakenLoad.{TakenLoad}
use Rattle.morsel_group_units.proofs.RisingLemmas.{in_order_of_rising}

-- a test of whether two rows with their places are the same
both_true : (a b : Bool) → (a && b) ≡ true → (a ≡ true) × (b ≡ true)
both_true true b holds = (refl, holds)
both_true false b holds = absurd (false≢true holds)

key_itself : (k : Row) → same_key k k ≡ true
key_itself [] = refl
key_itself (v ∷ k) = ap (λ (t : Bool). t && same_key k k) (value_eq-itself v) ∙ key_itself k

key_only : (k l : Row) → same_key k l ≡ true → k ≡ l
key_only [] [] e = refl
key_only [] (w ∷ l) e = absurd (false≢true e)
key_only (v ∷ k) [] e = absurd (false≢true e)
key_only (v ∷ k) (w ∷ l) e =
    let both = both_true (value_eq v w) (same_key k l) e in
    ap (λ x. x ∷ k) (value_eq-same v w both.0) ∙ ap (λ x. w ∷ x) (key_only k l both.1)

abbrev row_at : ℕ → Row → RowAt
row_at at row = record { at = at; row = row }

abbrev same_row : RowAt → RowAt → Bool
same_row r s = if r.at == s.at then same_key r.row s.row else false

row_itself : (r : RowAt) → same_row r r ≡ true
row_itself r = let at : (r.at == r.at) ≡ true = grind (arith, nat_tests) in ap (λ (t : Bool). if t then same_key r.row r.row else false) at ∙ key_itself r.row

row_only : (r s : RowAt) → same_row r s ≡ true → r ≡ s
row_only r s e = by (r.at == s.at) refl e
  where
    by : (t : Bool) → (r.at == s.at) ≡ t → (if t then same_key r.row s.row else false) ≡ true → r ≡ s
    by true q e =
        let at : r.at ≡ s.at = grind (arith, nat_tests, q) in
        ap (λ (n : ℕ). row_at n r.row) at ∙ ap (row_at s.at) (key_only r.row s.row e)
    by false q e = absurd (false≢true e)

abbrev ats : List RowAt → List ℕ
ats rows = map (λ (r : RowAt). r.at) rows

below : (a b c : ℕ) → a < b → b ≤ c → a < c
below a b c less up = omega (arith, less, up)

below_more : (a b c d : ℕ) → a < b → b ≤ c → a < c + d
below_more a b c d less up = omega (arith, less, up)

-- a place before the first one is before all
below_rows : (n at : ℕ) (rows : List Row) (rest : List RowAt) → n < at → AllAfter (λ a b. a < b) n (ats rest) → AllAfter (λ a b. a < b) n (ats (placed_rows at rows ++ rest))
below_rows n at [] rest less after = after
below_rows n at (row ∷ rows) rest less after = (less, below_rows n (at + 1) rows rest (omega (arith, less)) after)

below_loads : (n at : ℕ) (loads : List TakenLoad) → n < at → PlacesRise at loads → AllAfter (λ a b. a < b) n (ats (placed_loads loads))
below_loads n at [] less rise = tt
below_loads n at (load ∷ loads) less (here, later) =
    let place = input_place load.seq load.arrival in
    let rows = load.frame.value.rows in
    below_rows n place rows (placed_loads loads) (below n at place less here) (below_loads n (place + length rows) loads (below_more n at place (length rows) less here) later)

-- the places of the rows of a load rise, and so do those of all where those of the loads do
rows_rise : (at : ℕ) (rows : List Row) (loads : List TakenLoad) → PlacesRise (at + length rows) loads → InOrder (λ a b. a < b) (ats (placed_loads loads)) → InOrder (λ a b. a < b) (ats (placed_rows at rows ++ placed_loads loads))
rows_rise at [] loads rise rest = rest
rows_rise at (row ∷ rows) loads rise rest =
    let next : at + length (row ∷ rows) ≡ (at + 1) + length rows = omega arith in
    let later = subst (λ (n : ℕ). PlacesRise n loads) next rise in
    (below_rows at (at + 1) rows (placed_loads loads) (omega arith) (below_loads at ((at + 1) + length rows) loads (omega arith) later), rows_rise (at + 1) rows loads later rest)

places_rise : (at : ℕ) (loads : List TakenLoad) → PlacesRise at loads → InOrder (λ a b. a < b) (ats (placed_loads loads))
places_rise at [] rise = tt
places_rise at (load ∷ loads) (here, later) =
    let place = input_place load.seq load.arrival in
    let rows = load.frame.value.rows in
    rows_rise place rows loads later (places_rise (place + length rows) loads later)

rows_of_placed : (at : ℕ) (rows : List Row) → map (λ (r : RowAt). r.row) (placed_rows at rows) ≡ rows
rows_of_placed at [] = refl
rows_of_placed at (row ∷ rows) = ap (λ (rs : List Row). row ∷ rs) (rows_of_placed (at + 1) rows)

-- the rows that were placed are those of the loads
pub rows_placed : (loads : List TakenLoad) → map (λ (r : RowAt). r.row) (placed_loads loads) ≡ rows_taken loads
rows_placed [] = refl
rows_placed (load ∷ loads) =
    map-append (λ (r : RowAt). r.row) (placed_load load) (placed_loads loads)
    ∙ ap (λ (rs : List Row). rs ++ map (λ (r : RowAt). r.row) (placed_loads loads)) (rows_of_placed (input_place load.seq load.arrival) load.frame.value.rows)
    ∙ ap (λ (rs : List Row). load.frame.value.rows ++ rs) (rows_placed loads)

pub many_placed : (loads : List TakenLoad) → length (placed_loads loads) ≡ length (rows_taken loads)
many_placed loads = sym (length-map (placed_loads loads) (λ (r : RowAt). r.row)) ∙ ap (λ (rs : List Row). length rs) (rows_placed loads)

pub length_placed : (at : ℕ) (rows : List Row) → length (placed_rows at rows) ≡ length rows
length_placed at [] = refl
length_placed at (row ∷ rows) = let later = length_placed (at + 1) rows in omega (arith, later)

-- rows in the order of the input are those of the loads, one after the other, where their places rise
pub in_order_taken : (all : List RowAt) (loads : List TakenLoad) → AsOften all (placed_loads loads) → PlacesRise 0 loads → in_order all ≡ rows_taken loads
in_order_taken all loads often rise =
    ap (map (λ (r : RowAt). r.row)) (in_order_of_rising (λ (r : RowAt). r.at) same_row row_only row_itself all (placed_loads loads) often (places_rise 0 loads rise)) ∙ rows_placed loads

-- one load more
pub placed_push : (loads : List TakenLoad) (load : TakenLoad) → placed_loads (loads ++ load ∷ []) ≡ placed_loads loads ++ placed_load load
placed_push loads load = sym (flat_map_more placed_load [] loads load)

-- those of some loads, and of others behind them
pub placed_append : (loads more : List TakenLoad) → placed_loads (loads ++ more) ≡ placed_loads loads ++ placed_loads more
placed_append loads more = flat_map-append placed_load loads more

weighed : (weight : RowAt → ℕ) (loads : List TakenLoad) → sum_by weight (placed_loads loads) ≡ sum_by (λ (load : TakenLoad). sum_by weight (placed_load load)) loads
weighed weight [] = refl
weighed weight (load ∷ loads) =
    sum_by-append weight (placed_load load) (placed_loads loads)
    ∙ ap (λ (n : ℕ). sum_by weight (placed_load load) + n) (weighed weight loads)
    ∙ sym (sum_by-cons (λ (l : TakenLoad). sum_by weight (placed_load l)) load loads)

-- loads in another order have the same rows
pub placed_along : (loads ordered : List TakenLoad) → IsPermutation loads ordered → AsOften (placed_loads loads) (placed_loads ordered)
placed_along loads ordered same weight = weighed weight loads ∙ sym (sum_by-IsPermutation (λ (load : TakenLoad). sum_by weight (placed_load load)) loads ordered same) ∙ sym (weighed weight ordered)

-- lists that are as often the same are as long
counted : {X : Type 0} (xs : List X) → sum_by (λ (x : X). 1) xs ≡ length xs
counted [] = refl
counted {X} (x ∷ xs) = let here : sum_by (λ (y : X). 1) (x ∷ xs) ≡ 1 + sum_by (λ (y : X). 1) xs = sum_by-cons (λ (y : X). 1) x xs in let later : sum_by (λ (y : X). 1) xs ≡ length xs = counted xs in omega (arith, here, later)

pub as_long : {X : Type 0} (xs ys : List X) → AsOften xs ys → length xs ≡ length ys
as_long {X} xs ys often = sym (counted xs) ∙ often (λ (x : X). 1) ∙ counted ys
