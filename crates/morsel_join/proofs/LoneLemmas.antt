-- Kept rows that no row finds, so many at a time.
use Rattle.std.proofs.Common.{◌≡◌, ◌<◌, ◌≤◌, ◌++◌, ◌⊎◌, inl, inr, [], ◌∷◌, List, ℕ, ◌+◌, ◌-◌, suc, zero, length, drop, get_or, arith, refl, ap, ◌∙◌, sym, Bool, true, false, not, if◌then◌else◌, map, nat_lt}
use Rattle.std.proofs.lemmas.List.{append-nil, length-append, drop_all, drop_more}
use Rattle.morsel_join.specs.Items.{LoneRight, places}
use Rattle.morsel_join.specs.Chains.{left_mark}
use Rattle.morsel_join.specs.Probes.{PutsItems, PutsLoneRow}
use Rattle.morsel_join.specs.Cuts.{AreMarkedUp, PutsUnmarked, unmarked_items}
use Rattle.morsel_join.proofs.CutLemmas.{first-none, first-more}

-- the lone items from a row on are that of the row, and those of the rows behind it
items-of-row : (marks : List Bool) (numbers : List ℕ) (at number : ℕ) → at < length numbers → number ≡ get_or numbers at 0
    → unmarked_items marks numbers at ≡ map LoneRight (places (λ m. not (get_or marks m false)) at (number ∷ [])) ++ unmarked_items marks numbers (at + 1)
items-of-row marks numbers at number less is =
    let next : suc at ≡ at + 1 = omega arith in
    ap (λ (ns : List ℕ). map LoneRight (places (λ m. not (get_or marks m false)) at ns)) (drop_more numbers at 0 less ∙ ap (λ (n : ℕ). n ∷ drop (at + 1) numbers) (sym is))
    ∙ step (not (get_or marks number false)) (places (λ m. not (get_or marks m false)) (suc at) (drop (at + 1) numbers))
    ∙ ap (λ (n : ℕ). map LoneRight (places (λ m. not (get_or marks m false)) at (number ∷ [])) ++ map LoneRight (places (λ m. not (get_or marks m false)) n (drop (at + 1) numbers))) next
  where
    step : (t : Bool) (js : List ℕ) → map LoneRight (if t then at ∷ js else js) ≡ map LoneRight (if t then at ∷ [] else []) ++ map LoneRight js
    step true js = refl
    step false js = refl

-- one row more was looked at
pub unmarked-more : (marks : List Bool) (numbers : List ℕ) (from at number : ℕ) (lefts rights now_lefts now_rights new_lefts new_rights : List ℕ) → at < length numbers → number ≡ get_or numbers at 0
    → PutsUnmarked marks numbers from lefts rights now_lefts now_rights at → PutsLoneRow marks number at now_lefts now_rights new_lefts new_rights → PutsUnmarked marks numbers from lefts rights new_lefts new_rights (at + 1)
unmarked-more marks numbers from at number lefts rights now_lefts now_rights new_lefts new_rights less is so_far put = record {
  after = omega (arith, so_far.after);
  put = first-more (unmarked_items marks numbers from) (unmarked_items marks numbers at) (unmarked_items marks numbers (at + 1)) lefts rights now_lefts now_rights new_lefts new_rights so_far.put
      (record { done = map LoneRight (places (λ m. not (get_or marks m false)) at (number ∷ [])); same = items-of-row marks numbers at number less is; put = put });
}

-- at most one item was put, on both sides
pub lone-lengths : (marks : List Bool) (number row : ℕ) (lefts rights new_lefts new_rights : List ℕ) → PutsLoneRow marks number row lefts rights new_lefts new_rights → length rights ≡ length lefts → (length new_lefts ≤ length lefts + 1) × (length new_rights ≡ length new_lefts)
lone-lengths marks number row lefts rights new_lefts new_rights put same = by (not (get_or marks number false)) put
  where
    by : (t : Bool) → PutsItems (map LoneRight (if t then row ∷ [] else [])) lefts rights new_lefts new_rights → (length new_lefts ≤ length lefts + 1) × (length new_rights ≡ length new_lefts)
    by true p =
        let a : length new_lefts ≡ length lefts + 1 = ap (λ (xs : List ℕ). length xs) p.left_side ∙ length-append lefts (left_mark (LoneRight row) ∷ []) in
        let b : length new_rights ≡ length rights + 1 = ap (λ (xs : List ℕ). length xs) p.right_side ∙ length-append rights (row ∷ []) in
        (omega (arith, a), omega (arith, a, b, same))
    by false p =
        let a : length new_lefts ≡ length lefts = ap (λ (xs : List ℕ). length xs) (p.left_side ∙ append-nil lefts) in
        let b : length new_rights ≡ length rights = ap (λ (xs : List ℕ). length xs) (p.right_side ∙ append-nil rights) in
        (omega (arith, a), omega (arith, a, b, same))

pub unmarked-begun : (marks : List Bool) (numbers : List ℕ) (from : ℕ) (lefts rights : List ℕ) → PutsUnmarked marks numbers from lefts rights lefts rights from
unmarked-begun marks numbers from lefts rights = record { after = omega arith; put = first-none (unmarked_items marks numbers from) lefts rights }

marked-row : (marks : List Bool) (numbers : List ℕ) (at : ℕ) → get_or marks (get_or numbers at 0) false ≡ true → unmarked_items marks numbers at ≡ unmarked_items marks numbers (at + 1)
marked-row marks numbers at marked = by (nat_lt at (length numbers)) refl
  where
    by : (t : Bool) → nat_lt at (length numbers) ≡ t → unmarked_items marks numbers at ≡ unmarked_items marks numbers (at + 1)
    by true q =
        let less : at < length numbers = grind (arith, q) in
        items-of-row marks numbers at (get_or numbers at 0) less refl
        ∙ ap (λ t. map LoneRight (if t then at ∷ [] else []) ++ unmarked_items marks numbers (at + 1)) (ap not marked)
    by false q =
        let past : length numbers ≤ at = grind (arith, q) in
        ap (λ (ns : List ℕ). map LoneRight (places (λ m. not (get_or marks m false)) at ns)) (drop_all at numbers past)
        ∙ sym (ap (λ (ns : List ℕ). map LoneRight (places (λ m. not (get_or marks m false)) (at + 1) ns)) (drop_all (at + 1) numbers (omega (arith, past))))

-- past rows that are marked the lone items are the same
pub marked-past : (marks : List Bool) (numbers : List ℕ) (from many to : ℕ) → from + many ≡ to → ((k : ℕ) → from ≤ k → k < to → get_or marks (get_or numbers k 0) false ≡ true) → unmarked_items marks numbers from ≡ unmarked_items marks numbers to
marked-past marks numbers from zero to sum marked = let same : from ≡ to = omega (arith, sum) in ap (unmarked_items marks numbers) same
marked-past marks numbers from (suc many) to sum marked =
    marked-row marks numbers from (marked from (omega arith) (omega (arith, sum)))
    ∙ marked-past marks numbers (from + 1) many to (omega (arith, sum)) (λ k after before. marked k (omega (arith, after)) before)

-- behind the last row there is none
pub unmarked-end : (marks : List Bool) (numbers : List ℕ) (at : ℕ) → length numbers ≤ at → unmarked_items marks numbers at ≡ []
unmarked-end marks numbers at past = ap (λ (ns : List ℕ). map LoneRight (places (λ m. not (get_or marks m false)) at ns)) (drop_all at numbers past)

-- where none is left past the rows that are marked, the last row is passed
pub unmarked-none : (marks : List Bool) (numbers : List ℕ) (from at : ℕ) → AreMarkedUp marks numbers from at → unmarked_items marks numbers at ≡ [] → length numbers ≤ at
unmarked-none marks numbers from at past none = by (nat_lt at (length numbers)) refl
  where
    by : (t : Bool) → nat_lt at (length numbers) ≡ t → length numbers ≤ at
    by true q =
        let less : at < length numbers = grind (arith, q) in
        let some : LoneRight at ∷ unmarked_items marks numbers (at + 1) ≡ [] =
        sym (items-of-row marks numbers at (get_or numbers at 0) less refl ∙ ap (λ t. map LoneRight (if t then at ∷ [] else []) ++ unmarked_items marks numbers (at + 1)) (ap not (past.unmarked less))) ∙ none in
        absurd (cc)
    by false q = grind (arith, q)

-- the same past rows that are marked
pub unmarked-past : (marks : List Bool) (numbers : List ℕ) (from at : ℕ) → AreMarkedUp marks numbers from at → unmarked_items marks numbers from ≡ unmarked_items marks numbers at
unmarked-past marks numbers from at past = marked-past marks numbers from (at - from) at (omega (arith, past.after)) past.marked

pub lone-full : (from at many len limit : ℕ) → from ≤ at → (len ≤ from) ⊎ (many ≡ limit) → (len ≤ at) ⊎ (many ≡ limit)
lone-full from at many len limit after (inl past) = inl (omega (arith, after, past))
lone-full from at many len limit after (inr full) = inr full
