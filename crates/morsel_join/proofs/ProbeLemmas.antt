-- Items that are put one row after the other.
use Rattle.std.proofs.Common.{◌≡◌, ◌<◌, ◌≤◌, ◌++◌, [], ◌∷◌, List, ℕ, ◌+◌, suc, zero, length, take, get_or, arith, refl, ap, ◌∙◌, sym, subst, Bool, true, false, not, ◌==◌, if◌then◌else◌, map, nat_lt, append_assoc}
use Rattle.std.proofs.lemmas.List.{map-append, take_more, length-take-le}
use Rattle.morsel_frame.specs.Columns.{no_row}
use Rattle.morsel_join.specs.Items.{JoinItem, Both, LoneRight, places, or_lone, left_items}
use Rattle.morsel_join.specs.Chains.{Chain, AreRowChains, same_number, left_mark, right_mark}
use Rattle.morsel_join.specs.Probes.{PutsItems, PutsChain, PutsRow, PutsLookedUp, PutsLone}

append-nil : {X : Type 0} (xs : List X) → xs ++ [] ≡ xs
append-nil [] = refl
append-nil (x ∷ xs) = ap (λ t. x ∷ t) (append-nil xs)

-- nothing was put
pub puts-none : (lefts rights : List ℕ) → PutsItems [] lefts rights lefts rights
puts-none lefts rights = record { left_side = sym (append-nil lefts); right_side = sym (append-nil rights) }

-- items were put, and then others
pub puts-more : (items more : List JoinItem) (lefts rights mid_lefts mid_rights new_lefts new_rights : List ℕ) → PutsItems items lefts rights mid_lefts mid_rights → PutsItems more mid_lefts mid_rights new_lefts new_rights → PutsItems (items ++ more) lefts rights new_lefts new_rights
puts-more items more lefts rights mid_lefts mid_rights new_lefts new_rights a b = record {
  left_side = b.left_side ∙ ap (λ xs. xs ++ map left_mark more) a.left_side ∙ append_assoc lefts (map left_mark items) (map left_mark more) ∙ ap (λ xs. lefts ++ xs) (sym (map-append left_mark items more));
  right_side = b.right_side ∙ ap (λ xs. xs ++ map right_mark more) a.right_side ∙ append_assoc rights (map right_mark items) (map right_mark more) ∙ ap (λ xs. rights ++ xs) (sym (map-append right_mark items more));
}

pairs-left : (i : ℕ) (js : List ℕ) → map left_mark (map (Both i) js) ≡ map (λ (j : ℕ). i) js
pairs-left i [] = refl
pairs-left i (j ∷ js) = ap (λ xs. i ∷ xs) (pairs-left i js)

pairs-right : (i : ℕ) (js : List ℕ) → map right_mark (map (Both i) js) ≡ js
pairs-right i [] = refl
pairs-right i (j ∷ js) = ap (λ xs. j ∷ xs) (pairs-right i js)

-- a chain with a row
pub puts-chain : (next : List ℕ) (head row : ℕ) (wanted : Bool) (lefts rights new_lefts new_rights : List ℕ) → 0 < head → PutsChain next head row lefts rights new_lefts new_rights → PutsRow next head wanted row lefts rights new_lefts new_rights
puts-chain next head row wanted lefts rights new_lefts new_rights some put [] c = absurd (omega (arith, some, c))
puts-chain next head row wanted lefts rights new_lefts new_rights some put (j ∷ js) c =
    let p = put (j ∷ js) c in record {
      left_side = p.0 ∙ ap (λ xs. lefts ++ xs) (sym (pairs-left row (j ∷ js)));
      right_side = p.1 ∙ ap (λ xs. rights ++ xs) (sym (pairs-right row (j ∷ js)));
    }

-- a lone row
pub puts-alone : (next : List ℕ) (head row : ℕ) (lefts rights : List ℕ) → head ≡ 0 → PutsRow next head true row lefts rights (lefts ++ row ∷ []) (rights ++ no_row ∷ [])
puts-alone next head row lefts rights none [] c = record { left_side = refl; right_side = refl }
puts-alone next head row lefts rights none (j ∷ js) c = absurd (omega (arith, none, c.0))

pub puts-nothing : (next : List ℕ) (head row : ℕ) (lefts rights : List ℕ) → head ≡ 0 → PutsRow next head false row lefts rights lefts rights
puts-nothing next head row lefts rights none [] c = puts-none lefts rights
puts-nothing next head row lefts rights none (j ∷ js) c = absurd (omega (arith, none, c.0))

no-places : (keys n at : ℕ) (ms : List ℕ) → keys ≤ n → places (same_number keys n) at ms ≡ []
no-places keys n at [] past = refl
no-places keys n at (m ∷ ms) past =
    let away : same_number keys n m ≡ false = grind (arith, past) in
    ap (λ t. if t then at ∷ places (same_number keys n) (suc at) ms else places (same_number keys n) (suc at) ms) away ∙ no-places keys n (suc at) ms past

same-places : (keys n at : ℕ) (ms : List ℕ) → n < keys → places (same_number keys n) at ms ≡ places (λ m. m == n) at ms
same-places keys n at [] less = refl
same-places keys n at (m ∷ ms) less =
    let here : same_number keys n m ≡ (m == n) = grind (arith, less) in
    ap (λ t. if t then at ∷ places (same_number keys n) (suc at) ms else places (same_number keys n) (suc at) ms) here
    ∙ ap (λ js. if m == n then at ∷ js else js) (same-places keys n (suc at) ms less)

past-end : (first : List ℕ) (n : ℕ) → length first ≤ n → ◌≡◌ {A = ℕ} (get_or first n 0) 0
past-end [] n past = refl
past-end (x ∷ first) zero past = absurd (omega (arith, past))
past-end (x ∷ first) (suc n) past = past-end first n (omega (arith, past))

-- the rows of a key's number stand in the chain of its link
pub number-chain : (build first next : List ℕ) (n : ℕ) → AreRowChains build first next 0 → Chain next (get_or first n 0) (places (same_number (length first) n) 0 build)
number-chain build first next n h = by (nat_lt n (length first)) refl
  where
    by : (t : Bool) → nat_lt n (length first) ≡ t → Chain next (get_or first n 0) (places (same_number (length first) n) 0 build)
    by true q = let less : n < length first = grind (arith, q) in subst (λ (js : List ℕ). Chain next (get_or first n 0) js) (sym (same-places (length first) n 0 build less)) (h.chain n less)
    by false q = let past : length first ≤ n = grind (arith, q) in subst (λ (js : List ℕ). Chain next (get_or first n 0) js) (sym (no-places (length first) n 0 build past)) (past-end first n past)

-- the items of a list that is cut in two
pub left_items-append : {X Y : Type 0} (same : X → Y → Bool) (wanted : Bool) (i k : ℕ) (xs zs : List X) (ys : List Y) → k ≡ length xs + i → left_items same wanted i (xs ++ zs) ys ≡ left_items same wanted i xs ys ++ left_items same wanted k zs ys
left_items-append same wanted i k [] zs ys e = ap (λ n. left_items same wanted n zs ys) (omega (arith, e))
left_items-append same wanted i k (x ∷ xs) zs ys e =
    ap (λ t. or_lone wanted i (places (same x) 0 ys) ++ t) (left_items-append same wanted (suc i) k xs zs ys (omega (arith, e))) ∙ sym (append_assoc (or_lone wanted i (places (same x) 0 ys)) (left_items same wanted (suc i) xs ys) (left_items same wanted k zs ys))

-- the items of one row more
items-more : (keys : ℕ) (wanted : Bool) (numbers build : List ℕ) (row : ℕ) → row < length numbers
    → left_items (same_number keys) wanted 0 (take (row + 1) numbers) build ≡ left_items (same_number keys) wanted 0 (take row numbers) build ++ or_lone wanted row (places (same_number keys (get_or numbers row 0)) 0 build)
items-more keys wanted numbers build row l =
    let n = get_or numbers row 0 in
    ap (λ ns. left_items (same_number keys) wanted 0 ns build) (take_more numbers row 0 l)
    ∙ left_items-append (same_number keys) wanted 0 row (take row numbers) (n ∷ []) build (omega (arith, length-take-le row numbers (omega (arith, l))))
    ∙ ap (λ t. left_items (same_number keys) wanted 0 (take row numbers) build ++ t) (append-nil (or_lone wanted row (places (same_number keys n) 0 build)))

-- one row more is looked up
pub rows-more : (build first next numbers : List ℕ) (wanted : Bool) (row head : ℕ) (lefts rights mid_lefts mid_rights new_lefts new_rights : List ℕ) → row < length numbers → head ≡ get_or first (get_or numbers row 0) 0 → AreRowChains build first next 0
    → PutsLookedUp (length first) build (take row numbers) wanted lefts rights mid_lefts mid_rights → PutsRow next head wanted row mid_lefts mid_rights new_lefts new_rights → PutsLookedUp (length first) build (take (row + 1) numbers) wanted lefts rights new_lefts new_rights
rows-more build first next numbers wanted row head lefts rights mid_lefts mid_rights new_lefts new_rights l is h a b =
    let js = places (same_number (length first) (get_or numbers row 0)) 0 build in
    let c : Chain next head js = subst (λ (n : ℕ). Chain next n js) (sym is) (number-chain build first next (get_or numbers row 0) h) in
    subst (λ (items : List JoinItem). PutsItems items lefts rights new_lefts new_rights) (sym (items-more (length first) wanted numbers build row l))
    (puts-more (left_items (same_number (length first)) wanted 0 (take row numbers) build) (or_lone wanted row js) lefts rights mid_lefts mid_rights new_lefts new_rights a (b js c))

places-append : {X : Type 0} (test : X → Bool) (at k : ℕ) (xs ys : List X) → k ≡ length xs + at → places test at (xs ++ ys) ≡ places test at xs ++ places test k ys
places-append test at k [] ys e = ap (λ n. places test n ys) (omega (arith, e))
places-append test at k (x ∷ xs) ys e = step (test x) (places-append test (suc at) k xs ys (omega (arith, e)))
  where
    step : (t : Bool) → places test (suc at) (xs ++ ys) ≡ places test (suc at) xs ++ places test k ys → (if t then at ∷ places test (suc at) (xs ++ ys) else places test (suc at) (xs ++ ys)) ≡ (if t then at ∷ places test (suc at) xs else places test (suc at) xs) ++ places test k ys
    step true h = ap (λ js. at ∷ js) h
    step false h = h

-- one row more is put alone, or not
pub lone-more : (seen : List Bool) (numbers : List ℕ) (row number : ℕ) (lefts rights mid_lefts mid_rights new_lefts new_rights : List ℕ) → row < length numbers → number ≡ get_or numbers row 0
    → PutsLone seen 0 (take row numbers) lefts rights mid_lefts mid_rights → PutsLone seen row (number ∷ []) mid_lefts mid_rights new_lefts new_rights → PutsLone seen 0 (take (row + 1) numbers) lefts rights new_lefts new_rights
lone-more seen numbers row number lefts rights mid_lefts mid_rights new_lefts new_rights l is a b =
    let test : ℕ → Bool = λ m. not (get_or seen m false) in
    let front : List JoinItem = map LoneRight (places test 0 (take row numbers)) in
    let back : List JoinItem = map LoneRight (places test row (number ∷ [])) in
    let all : map LoneRight (places test 0 (take (row + 1) numbers)) ≡ front ++ back =
    ap (λ ms. map LoneRight (places test 0 ms)) (take_more numbers row 0 l ∙ ap (λ n. take row numbers ++ n ∷ []) (sym is))
    ∙ ap (map LoneRight) (places-append test 0 row (take row numbers) (number ∷ []) (omega (arith, length-take-le row numbers (omega (arith, l)))))
    ∙ map-append LoneRight (places test 0 (take row numbers)) (places test row (number ∷ [])) in
    subst (λ (items : List JoinItem). PutsItems items lefts rights new_lefts new_rights) (sym all) (puts-more front back lefts rights mid_lefts mid_rights new_lefts new_rights a b)
