-- Keys that get numbers, one after the other.
use Rattle.std.proofs.Common.{◌≡◌, ◌≢◌, ◌<◌, ◌++◌, [], ◌∷◌, List, ℕ, zero, suc, ◌+◌, length, take, slice_get, get_or, set, Some, refl, arith, ap, ◌∙◌, sym, subst, inl, inr}
use Rattle.std.proofs.lemmas.Grind.{common_steps}
use Rattle.std.proofs.lemmas.Option.{slice_get_within, get_or_from_slice_get}
use Rattle.std.proofs.lemmas.List.{take_more}
use Rattle.morsel_keys.specs.Slots.{IsFound, AreLookedUp, GivesNumber, NumbersAll, no_number}

append_keeps : {K : Type 0} (keys : List K) (key v : K) (k : ℕ) → slice_get keys k ≡ Some v → slice_get (keys ++ key ∷ []) k ≡ Some v
append_keeps [] key v k e = cc
append_keeps (x ∷ keys) key v zero e = e
append_keeps (x ∷ keys) key v (suc k) e = append_keeps keys key v k e

pub numbers_keep : {K : Type 0} (old : List K) (key : K) (at : ℕ) (new : List K) (k : ℕ) (v : K) → GivesNumber old key at new → slice_get old k ≡ Some v → slice_get new k ≡ Some v
numbers_keep old key at new k v (inl (held, same)) e = subst (λ keys. slice_get keys k ≡ Some v) (sym same) e
numbers_keep old key at new k v (inr (absent, next, last)) e = subst (λ keys. slice_get keys k ≡ Some v) (sym last) (append_keeps old key v k e)

pub numbers_all_keep : {K : Type 0} (old vs : List K) (ats : List ℕ) (new : List K) (k : ℕ) (v : K) → NumbersAll old vs ats new → slice_get old k ≡ Some v → slice_get new k ≡ Some v
numbers_all_keep old [] [] new k v all e = subst (λ keys. slice_get keys k ≡ Some v) (sym all) e
numbers_all_keep old [] (at ∷ ats) new k v all e = absurd all
numbers_all_keep old (key ∷ vs) [] new k v all e = absurd all
numbers_all_keep old (key ∷ vs) (at ∷ ats) new k v (mid, first, later) e = numbers_all_keep mid vs ats new k v later (numbers_keep old key at mid k v first e)

pub numbers_one_more : {K : Type 0} (old vs : List K) (ats : List ℕ) (mid : List K) (key : K) (at : ℕ) (new : List K) → NumbersAll old vs ats mid → GivesNumber mid key at new → NumbersAll old (vs ++ key ∷ []) (ats ++ at ∷ []) new
numbers_one_more old [] [] mid key at new all more = (new, subst (λ keys. GivesNumber keys key at new) all more, refl)
numbers_one_more old [] (a ∷ ats) mid key at new all more = absurd all
numbers_one_more old (v ∷ vs) [] mid key at new all more = absurd all
numbers_one_more old (v ∷ vs) (a ∷ ats) mid key at new (next, first, later) more = (next, first, numbers_one_more next vs ats mid key at new later more)

take_set : (xs : List ℕ) (i x : ℕ) → i < length xs → take (i + 1) (set xs i x) ≡ take i xs ++ x ∷ []
take_set xs i x l = grind (arith, common_steps)

pub numbers_step : {K : Type 0} (old vs : List K) (out : List ℕ) (i : ℕ) (mid : List K) (key : K) (at : ℕ) (new : List K) → i < length out → slice_get vs i ≡ Some key → NumbersAll old (take i vs) (take i out) mid → GivesNumber mid key at new
    → NumbersAll old (take (i + 1) vs) (take (i + 1) (set out i at)) new
numbers_step old vs out i mid key at new l e all more =
    let within = slice_get_within vs i key e in
    let vs_is = take_more vs i key within ∙ ap (λ x. take i vs ++ x ∷ []) (get_or_from_slice_get vs i key key e) in
    rw (vs_is, take_set out i at l) (numbers_one_more old (take i vs) (take i out) mid key at new all more)

-- a row that was found before is among the keys still
pub found_still : {K : Type 0} (old vs : List K) (ats : List ℕ) (new : List K) (v : K) (at : ℕ) → NumbersAll old vs ats new → IsFound old v at → at ≢ no_number → slice_get new at ≡ Some v
found_still old vs ats new v at all (inl (none, absent)) other = absurd (other none)
found_still old vs ats new v at all (inr held) other = numbers_all_keep old vs ats new at v all held

-- keys that are all there get the numbers that they have
numbers_there : {K : Type 0} (old vs : List K) (ats : List ℕ) → length ats ≡ length vs → ((i : ℕ) (v : K) → slice_get vs i ≡ Some v → slice_get old (get_or ats i 0) ≡ Some v) → NumbersAll old vs ats old
numbers_there old [] [] len there = refl
numbers_there old [] (at ∷ ats) len there = cc
numbers_there old (v ∷ vs) [] len there = cc
numbers_there old (v ∷ vs) (at ∷ ats) len there = (old, inl (there zero v refl, refl), numbers_there old vs ats (omega (arith, len)) (λ i w e. there (suc i) w e))

pub numbers_found : {K : Type 0} (old vs : List K) (ats : List ℕ) → AreLookedUp old vs ats → ((i : ℕ) → i < length ats → get_or ats i 0 ≢ no_number) → NumbersAll old vs ats old
numbers_found {K = K} old vs ats found all = numbers_there old vs ats found.len there
  where
    is_there : (v : K) (at : ℕ) → IsFound old v at → at ≢ no_number → slice_get old at ≡ Some v
    is_there v at (inl (none, absent)) other = absurd (other none)
    is_there v at (inr held) other = held

    there : (i : ℕ) (v : K) → slice_get vs i ≡ Some v → slice_get old (get_or ats i 0) ≡ Some v
    there i v e = let l = slice_get_within vs i v e in let len = found.len in is_there v (get_or ats i 0) (found.each i v e) (all i (omega (arith, l, len)))
