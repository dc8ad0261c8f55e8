-- How many values several lanes hold.
use Rattle.std.proofs.Common.{◌≡◌, ◌<◌, ◌+◌, ℕ, List, [], ◌∷◌, ◌++◌, length, set, get_or, sum, take, sym, subst, inl, inr, arith, get_or-set_same, get_or-set_other}
use Rattle.std.proofs.lemmas.Bool.{cases_eq}
use Rattle.std.proofs.lemmas.List.Sums.{sum_by_more, sum_by_push}
use Rattle.std.proofs.lemmas.List.{get_or_append_left, get_or_push}

pub sum-push : (xs : List ℕ) (y : ℕ) → sum (xs ++ y ∷ []) ≡ sum xs + y
sum-push xs y = sum_by_push (λ x. x) xs y

-- the first of these numbers, and one more of them
pub sum-take_more : (xs : List ℕ) (k : ℕ) → k < length xs → sum (take (k + 1) xs) ≡ sum (take k xs) + get_or xs k 0
sum-take_more xs k within = sum_by_more (λ x. x) xs k 0 within

-- one lane more was found to hold so many values
pub held-push : {S : Type 0} (held : S → S → ℕ → Type 0) (olds news : List S) (counts : List ℕ) (k : ℕ) (new : S) (count : ℕ) → length counts ≡ k → k < length news → ((d : S) → held (get_or olds k d) new count)
    → ((i : ℕ) (d : S) → i < k → held (get_or olds i d) (get_or news i d) (get_or counts i 0)) → (i : ℕ) (d : S) → i < k + 1 → held (get_or olds i d) (get_or (set news k new) i d) (get_or (counts ++ count ∷ []) i 0)
held-push held olds news counts k new count long within one before i d below = elim (cases_eq i k) [
  | inl same ↦ subst (λ j. held (get_or olds j d) (get_or (set news k new) j d) (get_or (counts ++ count ∷ []) j 0)) (sym same)
      (subst (λ end. held (get_or olds k d) end (get_or (counts ++ count ∷ []) k 0)) (sym (get_or-set_same news k new d within)) (subst (λ n. held (get_or olds k d) new n) (sym (get_or_push counts count 0 k long)) (one d)))
  | inr other ↦ let first : i < k = omega (arith, below, other) in
      subst (λ end. held (get_or olds i d) end (get_or (counts ++ count ∷ []) i 0)) (sym (get_or-set_other news k i new d other)) (subst (λ n. held (get_or olds i d) (get_or news i d) n) (sym (get_or_append_left counts (count ∷ []) 0 i (omega (arith, first, long)))) (before i d first))
]
