-- The items of rows are those of the numbers of their keys.
use Rattle.std.proofs.Common.{◌≡◌, ◌≤◌, ◌++◌, [], ◌∷◌, List, ℕ, zero, suc, length, slice_get, get_or, Some, refl, arith, ap, ◌∙◌, sym, Bool, true, false, not, ◌||◌, if◌then◌else◌, map, replicate, take, drop}
use Rattle.std.specs.List.{list_any}
use Rattle.std.proofs.lemmas.List.{drop_all}
use Rattle.std.proofs.Math.Seq.{take-length}
use Rattle.morsel_meaning.specs.Values.{Row}
use Rattle.morsel_frame.specs.Tables.{cells_at}
use Rattle.morsel_keys.specs.Slots.{AreLookedUp, HasKeysEachOnce, no_number}
use Rattle.morsel_keys.proofs.HeldLemmas.{shown}
use Rattle.morsel_join.specs.Builds.{HaveNumbers}
use Rattle.morsel_join.specs.Rows.{rows_match}
use Rattle.morsel_join.proofs.MatchLemmas.{numbers-agree}
use Rattle.morsel_join.specs.Items.{LoneRight, places, or_lone, left_items, right_items}
use Rattle.morsel_join.specs.Chains.{same_number}

pub places-agree : {Y : Type 0} (test : Y → Bool) (other : ℕ → Bool) (at : ℕ) (ys : List Y) (ms : List ℕ) → length ms ≡ length ys → ((j : ℕ) (y : Y) → slice_get ys j ≡ Some y → test y ≡ other (get_or ms j 0)) → places test at ys ≡ places other at ms
places-agree test other at [] [] len h = refl
places-agree test other at [] (m ∷ ms) len h = absurd (omega (arith, len))
places-agree test other at (y ∷ ys) [] len h = absurd (omega (arith, len))
places-agree test other at (y ∷ ys) (m ∷ ms) len h =
    ap (λ t. if t then at ∷ places test (suc at) ys else places test (suc at) ys) (h 0 y refl)
    ∙ ap (λ js. if other m then at ∷ js else js) (places-agree test other (suc at) ys ms (omega (arith, len)) (λ j z e. h (suc j) z e))

pub any-agree : {X : Type 0} (test : X → Bool) (other : ℕ → Bool) (xs : List X) (ns : List ℕ) → length ns ≡ length xs → ((i : ℕ) (x : X) → slice_get xs i ≡ Some x → test x ≡ other (get_or ns i 0)) → list_any test xs ≡ list_any other ns
any-agree test other [] [] len h = refl
any-agree test other [] (n ∷ ns) len h = absurd (omega (arith, len))
any-agree test other (x ∷ xs) [] len h = absurd (omega (arith, len))
any-agree test other (x ∷ xs) (n ∷ ns) len h =
    ap (λ t. t || list_any test xs) (h 0 x refl) ∙ ap (λ t. other n || t) (any-agree test other xs ns (omega (arith, len)) (λ i z e. h (suc i) z e))

pub left-agree : {X Y : Type 0} (same : X → Y → Bool) (numbers : ℕ → ℕ → Bool) (wanted : Bool) (at : ℕ) (xs : List X) (ys : List Y) (ns ms : List ℕ) → length ns ≡ length xs → length ms ≡ length ys
    → ((i j : ℕ) (x : X) (y : Y) → slice_get xs i ≡ Some x → slice_get ys j ≡ Some y → same x y ≡ numbers (get_or ns i 0) (get_or ms j 0)) → left_items same wanted at xs ys ≡ left_items numbers wanted at ns ms
left-agree same numbers wanted at [] ys [] ms len lens h = refl
left-agree same numbers wanted at [] ys (n ∷ ns) ms len lens h = absurd (omega (arith, len))
left-agree same numbers wanted at (x ∷ xs) ys [] ms len lens h = absurd (omega (arith, len))
left-agree same numbers wanted at (x ∷ xs) ys (n ∷ ns) ms len lens h =
    ap (λ js. or_lone wanted at js ++ left_items same wanted (suc at) xs ys) (places-agree (same x) (numbers n) 0 ys ms lens (λ j y e. h 0 j x y refl e))
    ∙ ap (λ items. or_lone wanted at (places (numbers n) 0 ms) ++ items) (left-agree same numbers wanted (suc at) xs ys ns ms (omega (arith, len)) lens (λ i j z y e f. h (suc i) j z y e f))

pub right-agree : {X Y : Type 0} (same : X → Y → Bool) (numbers : ℕ → ℕ → Bool) (wanted : Bool) (xs : List X) (ys : List Y) (ns ms : List ℕ) → length ns ≡ length xs → length ms ≡ length ys
    → ((i j : ℕ) (x : X) (y : Y) → slice_get xs i ≡ Some x → slice_get ys j ≡ Some y → same x y ≡ numbers (get_or ns i 0) (get_or ms j 0)) → right_items same wanted xs ys ≡ right_items numbers wanted ns ms
right-agree same numbers false xs ys ns ms len lens h = refl
right-agree same numbers true xs ys ns ms len lens h =
    ap (map LoneRight) (places-agree (λ y. not (list_any (λ x. same x y) xs)) (λ m. not (list_any (λ n. numbers n m) ns)) 0 ys ms lens
    (λ j y e. ap not (any-agree (λ x. same x y) (λ n. numbers n (get_or ms j 0)) xs ns len (λ i x f. h i j x y f e))))

pub places-test : {X : Type 0} (test other : X → Bool) (at : ℕ) (xs : List X) → ((x : X) → test x ≡ other x) → places test at xs ≡ places other at xs
places-test test other at [] h = refl
places-test test other at (x ∷ xs) h =
    ap (λ t. if t then at ∷ places test (suc at) xs else places test (suc at) xs) (h x) ∙ ap (λ js. if other x then at ∷ js else js) (places-test test other (suc at) xs h)

-- nothing is marked at first
pub none-marked : (keys m : ℕ) → get_or (replicate keys false) m false ≡ false
none-marked zero m = refl
none-marked (suc keys) zero = refl
none-marked (suc keys) (suc m) = none-marked keys m

append-nil : {X : Type 0} (xs : List X) → xs ++ [] ≡ xs
append-nil [] = refl
append-nil (x ∷ xs) = ap (λ t. x ∷ t) (append-nil xs)

-- what was marked where nothing was before
pub seen-by : (keys count : ℕ) (seen old : List Bool) (ns : List ℕ) → count ≡ keys → old ≡ replicate keys false → ((m : ℕ) → get_or seen m false ≡ (get_or old m false || list_any (λ n. same_number count n m) ns)) → (m : ℕ) → get_or seen m false ≡ list_any (λ n. same_number keys n m) ns
seen-by keys count seen old ns same blank marked m =
    marked m ∙ ap (λ t. t || list_any (λ n. same_number count n m) ns) (ap (λ (xs : List Bool). get_or xs m false) blank ∙ none-marked keys m) ∙ ap (λ (k : ℕ). list_any (λ n. same_number k n m) ns) same

-- the rows whose keys are not marked are those in no pair
pub lone-unmarked : (keys : ℕ) (seen : List Bool) (ns ms : List ℕ) → ((m : ℕ) → get_or seen m false ≡ list_any (λ n. same_number keys n m) ns) → map LoneRight (places (λ m. not (get_or seen m false)) 0 ms) ≡ right_items (same_number keys) true ns ms
lone-unmarked keys seen ns ms marked =
    ap (map LoneRight) (places-test (λ m. not (get_or seen m false)) (λ m. not (list_any (λ n. same_number keys n m) ns)) 0 ms (λ m. ap not (marked m)))

-- rows that are looked up and rows that are kept agree with the numbers of their keys
pub keyed-agree : (nulls : Bool) (asked kept : List Row) (asked_keys kept_keys numbers kept_numbers : List ℕ) (keys : List Row) → HasKeysEachOnce keys → length keys ≤ no_number → AreLookedUp keys (map (cells_at asked_keys) asked) numbers → HaveNumbers nulls keys kept_keys kept kept_numbers
    → (i j : ℕ) (x y : Row) → slice_get asked i ≡ Some x → slice_get kept j ≡ Some y → rows_match nulls asked_keys kept_keys x y ≡ same_number (length keys) (get_or numbers i 0) (get_or kept_numbers j 0)
keyed-agree nulls asked kept asked_keys kept_keys numbers kept_numbers keys once few looked held i j x y a b =
    numbers-agree nulls keys (cells_at asked_keys x) (cells_at kept_keys y) (get_or numbers i 0) (get_or kept_numbers j 0) once few
    (looked.each i (cells_at asked_keys x) (shown (cells_at asked_keys) asked i x (cells_at asked_keys x) a refl)) (held j y b)

-- what is given back of a list that was written over
pub written_back : (n : ℕ) (new old : List Bool) → n ≡ length old → length new ≡ length old → take n (new ++ drop (length new) old) ≡ new
written_back n new old is same =
    ap (λ (xs : List Bool). take n (new ++ xs)) (drop_all (length new) old (omega (arith, same)))
    ∙ ap (take n) (append-nil new) ∙ ap (λ k. take k new) (is ∙ sym same) ∙ take-length new
