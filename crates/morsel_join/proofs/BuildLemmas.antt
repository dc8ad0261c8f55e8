-- Numbers of rows' keys, and those that are taken from rows with nulls.
use Rattle.std.proofs.Common.{◌≡◌, ◌<◌, ◌≤◌, ◌++◌, [], ◌∷◌, List, ℕ, ◌+◌, suc, zero, length, take, get_or, set, slice_get, Some, arith, refl, ap, ◌∙◌, sym, subst, Bool, true, false, ◌&&◌, ◌||◌, if◌then◌else◌, map, inl, inr}
use Rattle.std.proofs.lemmas.List.{get_or-set_other, get_or-set_same, get_or-map, map_more}
use Rattle.std.proofs.lemmas.Bool.{cases_eq}
use Rattle.std.proofs.lemmas.Option.{slice_get_within, get_or_from_slice_get}
use Rattle.morsel_meaning.specs.declared.value.Value.{Value}
use Rattle.morsel_meaning.specs.declared.value.Value.TheVariants.{Null}
use Rattle.morsel_meaning.specs.Values.{Row}
use Rattle.morsel_frame.specs.Cells.{not_null}
use Rattle.morsel_frame.specs.Columns.{value_at}
use Rattle.morsel_frame.specs.Tables.{cell_at, cells_at}
use Rattle.morsel_keys.specs.Slots.{GivesNumber, NumbersAll, no_number}
use Rattle.morsel_keys.proofs.NumberLemmas.{numbers_all_keep}
use Rattle.morsel_keys.proofs.HeldLemmas.{shown}
use Rattle.morsel_join.specs.Builds.{no_null, IsNumber}

last-got : {X : Type 0} (xs : List X) (x : X) → slice_get (xs ++ x ∷ []) (length xs) ≡ Some x
last-got [] x = refl
last-got (y ∷ xs) x = last-got xs x

given-got : {K : Type 0} (old : List K) (key : K) (at : ℕ) (new : List K) → GivesNumber old key at new → slice_get new at ≡ Some key
given-got {K} old key at new (inl (there, same)) = subst (λ (ks : List K). slice_get ks at ≡ Some key) (sym same) there
given-got {K} old key at new (inr (fresh, is, more)) = subst (λ (ks : List K). slice_get ks at ≡ Some key) (sym more) (subst (λ (n : ℕ). slice_get (old ++ key ∷ []) n ≡ Some key) (sym is) (last-got old key))

-- each key that was numbered is found by its number
pub numbers-held : {K : Type 0} (old vs : List K) (ats : List ℕ) (new : List K) (i : ℕ) (v : K) → NumbersAll old vs ats new → slice_get vs i ≡ Some v → slice_get new (get_or ats i 0) ≡ Some v
numbers-held old [] ats new i v all is = absurd (omega (arith, slice_get_within [] i v is))
numbers-held old (key ∷ vs) [] new i v all is = absurd all
numbers-held old (key ∷ vs) (at ∷ ats) new zero v (mid, given, all) is = numbers_all_keep mid vs ats new at v all (given-got old key at mid given ∙ is)
numbers-held old (key ∷ vs) (at ∷ ats) new (suc i) v (mid, given, all) is = numbers-held mid vs ats new i v all is

-- the number of one row more is masked
pub mask-done : (vs : List Value) (old now : List ℕ) (row new : ℕ) → row < length now → new ≡ (if not_null (value_at vs row) then get_or now row 0 else no_number) → get_or now row 0 ≡ get_or old row 0
    → ((j : ℕ) → j < row → get_or now j 0 ≡ (if not_null (value_at vs j) then get_or old j 0 else no_number))
    → (j : ℕ) → j < row + 1 → get_or (set now row new) j 0 ≡ (if not_null (value_at vs j) then get_or old j 0 else no_number)
mask-done vs old now row new l is same done j less = elim (cases_eq j row) as (λ _. get_or (set now row new) j 0 ≡ (if not_null (value_at vs j) then get_or old j 0 else no_number)) [
  | inl here ↦ rw (here, get_or-set_same now row new 0 l) (is ∙ ap (λ n. if not_null (value_at vs row) then n else no_number) same)
  | inr other ↦ get_or-set_other now row j new 0 other ∙ done j (omega (arith, less, other))
]

pub mask-rest : (old now : List ℕ) (row new : ℕ) → ((j : ℕ) → row ≤ j → get_or now j 0 ≡ get_or old j 0) → (j : ℕ) → row + 1 ≤ j → get_or (set now row new) j 0 ≡ get_or old j 0
mask-rest old now row new rest j past = get_or-set_other now row j new 0 (λ same. omega (arith, past, same)) ∙ rest j (omega (arith, past))

no_null-push : (key : Row) (v : Value) → no_null (key ++ v ∷ []) ≡ (no_null key && not_null v)
no_null-push [] v = one (not_null v)
  where
    one : (t : Bool) → (t && true) ≡ (true && t)
    one true = refl
    one false = refl
no_null-push (u ∷ key) v = ap (λ t. not_null u && t) (no_null-push key v) ∙ assoc (not_null u) (no_null key) (not_null v)
  where
    assoc : (a b d : Bool) → (a && (b && d)) ≡ ((a && b) && d)
    assoc true b d = refl
    assoc false b d = refl

both-masked : (s t : Bool) (n m : ℕ) → n ≡ (if s then m else no_number) → (if t then n else no_number) ≡ (if s && t then m else no_number)
both-masked true true n m is = is
both-masked true false n m is = refl
both-masked false true n m is = is
both-masked false false n m is = refl

-- the numbers are masked by one column more
pub masked-more : (rows : List Row) (places : List ℕ) (i at : ℕ) (vs : List Value) (old now new : List ℕ) → i < length places → at ≡ get_or places i 0 → vs ≡ map (cell_at at) rows
    → ((j : ℕ) → j < length rows → get_or now j 0 ≡ (if no_null (cells_at (take i places) (get_or rows j [])) then get_or old j 0 else no_number))
    → ((j : ℕ) → j < length vs → get_or new j 0 ≡ (if not_null (value_at vs j) then get_or now j 0 else no_number)) → length vs ≡ length rows
    → (j : ℕ) → j < length rows → get_or new j 0 ≡ (if no_null (cells_at (take (i + 1) places) (get_or rows j [])) then get_or old j 0 else no_number)
masked-more rows places i at vs old now new l is are done more len j less =
    let row = get_or rows j [] in
    let v : value_at vs j ≡ cell_at at row = ap (λ (xs : List Value). value_at xs j) are ∙ get_or-map (cell_at at) rows j [] Null less in
    let cells : cells_at (take (i + 1) places) row ≡ cells_at (take i places) row ++ cell_at at row ∷ [] = map_more (λ (p : ℕ). cell_at p row) places i 0 l ∙ ap (λ (p : ℕ). cells_at (take i places) row ++ cell_at p row ∷ []) (sym is) in
    more j (omega (arith, less, len))
    ∙ both-masked (no_null (cells_at (take i places) row)) (not_null (value_at vs j)) (get_or now j 0) (get_or old j 0) (done j less)
    ∙ ap (λ (t : Bool). if t then get_or old j 0 else no_number) (ap (λ (u : Value). no_null (cells_at (take i places) row) && not_null u) v ∙ sym (no_null-push (cells_at (take i places) row) (cell_at at row)) ∙ ap no_null (sym cells))

number-by : (nulls : Bool) (keys : List Row) (key : Row) (n old : ℕ) (t : Bool) → (nulls || no_null key) ≡ t → n ≡ (if t then old else no_number) → slice_get keys old ≡ Some key → IsNumber nulls keys key n
number-by nulls keys key n old true q is held = inl (q, subst (λ (m : ℕ). slice_get keys m ≡ Some key) (sym is) held)
number-by nulls keys key n old false q is held = inr (q, is)

-- rows have the numbers of their keys, once those with nulls have lost theirs
pub numbers-masked : (nulls : Bool) (rows : List Row) (columns : List ℕ) (old new : List ℕ) (keys : List Row) → NumbersAll [] (map (cells_at columns) rows) old keys
    → ((j : ℕ) → j < length rows → get_or new j 0 ≡ (if nulls || no_null (cells_at columns (get_or rows j [])) then get_or old j 0 else no_number))
    → (j : ℕ) (row : Row) → slice_get rows j ≡ Some row → IsNumber nulls keys (cells_at columns row) (get_or new j 0)
numbers-masked nulls rows columns old new keys all masked j row is =
    let less = slice_get_within rows j row is in
    let here : get_or rows j [] ≡ row = get_or_from_slice_get rows j row [] is in
    let held = numbers-held [] (map (cells_at columns) rows) old keys j (cells_at columns row) all (shown (cells_at columns) rows j row (cells_at columns row) is refl) in
    number-by nulls keys (cells_at columns row) (get_or new j 0) (get_or old j 0) (nulls || no_null (cells_at columns row)) refl
    (masked j less ∙ ap (λ (r : Row). if nulls || no_null (cells_at columns r) then get_or old j 0 else no_number) here) held
