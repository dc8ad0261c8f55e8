-- Chains: one row more, and a walk along one.
use Rattle.std.proofs.Common.{◌≡◌, ◌≢◌, map, subst, ◌≤◌, ◌<◌, ◌++◌, [], ◌∷◌, List, ℕ, ◌+◌, zero, suc, length, get_or, set, drop, replicate, arith, refl, ap, ◌∙◌, sym, Bool, true, false, if◌then◌else◌, ◌==◌, ◌⊎◌, inl, inr, append_assoc}
use Rattle.std.proofs.lemmas.List.{get_or-set_other, get_or-set_same, length-set, length-replicate, drop_all}
use Rattle.std.proofs.Math.Seq.{drop-cons}
use Rattle.std.proofs.lemmas.Bool.{cases_eq}
use Rattle.morsel_join.proofs.InOrders.{Each, places-rise}
use Rattle.morsel_join.specs.Chains.{Chain, LinksRise, AreRowChains}
use Rattle.morsel_join.specs.Items.{places}

-- a walk from a head has come to a place
pub record Followed (next : List ℕ) (head at row : ℕ) (lefts rights now_lefts now_rights : List ℕ) : Type 0 where
  pub within : at ≤ length next
  pub so_far : (js : List ℕ) → Chain next head js → (rest : List ℕ) × Chain next at rest × (now_lefts ++ map (λ (j : ℕ). row) rest ≡ lefts ++ map (λ (j : ℕ). row) js) × (now_rights ++ rest ≡ rights ++ js)

one_more : (next : List ℕ) (at j row : ℕ) (lefts rights now_lefts now_rights js rest : List ℕ) → at ≡ j + 1 → Chain next at rest → now_lefts ++ map (λ (j : ℕ). row) rest ≡ lefts ++ map (λ (j : ℕ). row) js → now_rights ++ rest ≡ rights ++ js
    → (more : List ℕ) × Chain next (get_or next j 0) more × ((now_lefts ++ row ∷ []) ++ map (λ (j : ℕ). row) more ≡ lefts ++ map (λ (j : ℕ). row) js) × ((now_rights ++ j ∷ []) ++ more ≡ rights ++ js)
one_more next at j row lefts rights now_lefts now_rights js [] e c one same = absurd (omega (arith, e, c))
one_more next at j row lefts rights now_lefts now_rights js (k ∷ rest) e c one same =
    let k_is : k ≡ j = omega (arith, e, c.0) in
    (rest, rw (← k_is) c.1, append_assoc now_lefts (row ∷ []) (map (λ (j : ℕ). row) rest) ∙ one, rw (← k_is, append_assoc now_rights (k ∷ []) rest) same)

pub follow_more : (next : List ℕ) (head at j row : ℕ) (lefts rights now_lefts now_rights : List ℕ) → at ≡ j + 1 → LinksRise next → Followed next head at row lefts rights now_lefts now_rights
    → Followed next head (get_or next j 0) row lefts rights (now_lefts ++ row ∷ []) (now_rights ++ j ∷ [])
follow_more next head at j row lefts rights now_lefts now_rights e r f = record {
  within = (r j).0;
  so_far = λ js c. let h = f.so_far js c in one_more next at j row lefts rights now_lefts now_rights js h.0 e h.1 h.2 h.3;
}

append-nil : {X : Type 0} (xs : List X) → xs ++ [] ≡ xs
append-nil [] = refl
append-nil (x ∷ xs) = ap (λ t. x ∷ t) (append-nil xs)

ended : (next : List ℕ) (row : ℕ) (lefts rights now_lefts now_rights js rest : List ℕ) → Chain next 0 rest → now_lefts ++ map (λ (j : ℕ). row) rest ≡ lefts ++ map (λ (j : ℕ). row) js → now_rights ++ rest ≡ rights ++ js
    → (now_lefts ≡ lefts ++ map (λ (j : ℕ). row) js) × (now_rights ≡ rights ++ js)
ended next row lefts rights now_lefts now_rights js [] c one same = (sym (append-nil now_lefts) ∙ one, sym (append-nil now_rights) ∙ same)
ended next row lefts rights now_lefts now_rights js (k ∷ rest) c one same = absurd (omega (arith, c.0))

pub follow_done : (next : List ℕ) (head at row : ℕ) (lefts rights now_lefts now_rights : List ℕ) → at ≡ 0 → Followed next head at row lefts rights now_lefts now_rights → (js : List ℕ) → Chain next head js → (now_lefts ≡ lefts ++ map (λ (j : ℕ). row) js) × (now_rights ≡ rights ++ js)
follow_done next head at row lefts rights now_lefts now_rights e f js c =
    let h = f.so_far js c in ended next row lefts rights now_lefts now_rights js h.0 (subst (λ (n : ℕ). Chain next n h.0) e h.1) h.2 h.3

chain_kept : (next : List ℕ) (row v head : ℕ) (js : List ℕ) → Each (λ j. suc row ≤ j) js → Chain next head js → Chain (set next row v) head js
chain_kept next row v head [] a c = c
chain_kept next row v head (j ∷ js) a c = (c.0, rw (get_or-set_other next row j v 0 (λ e. omega arith)) (chain_kept next row v (get_or next j 0) js a.1 c.1))

chain_cons : (t : Bool) (next : List ℕ) (head row : ℕ) (js : List ℕ) → (t ≡ true → (head ≡ row + 1) × Chain next (get_or next row 0) js) → (t ≡ false → Chain next head js) → Chain next head (if t then row ∷ js else js)
chain_cons true next head row js here away = here refl
chain_cons false next head row js here away = away refl

weaker : (row head len : ℕ) → (head ≤ len) × ((head ≡ 0) ⊎ (row + 1 < head)) → (head ≤ len) × ((head ≡ 0) ⊎ (row < head))
weaker row head len (a, inl z) = (a, inl z)
weaker row head len (a, inr m) = (a, inr (omega arith))

old_chain : (numbers first next : List ℕ) (row n : ℕ) → AreRowChains numbers first next (row + 1) → n < length first → Chain next (get_or first n 0) (places (λ m. m == n) (suc row) (drop (suc row) numbers))
old_chain numbers first next row n h b = let e : row + 1 ≡ suc row = omega arith in rw (← e) (h.chain n b)

-- a row whose number is no key's
pub chained_past : (numbers first next : List ℕ) (row : ℕ) → length first ≤ get_or numbers row 0 → row < length numbers → AreRowChains numbers first next (row + 1) → AreRowChains numbers first next row
chained_past numbers first next row past l h = record {
  width = h.width;
  rises = h.rises;
  heads = λ n. weaker row (get_or first n 0) (length next) (h.heads n);
  chain = λ n b. rw (drop-cons numbers row 0 l) (chain_cons (get_or numbers row 0 == n) next (get_or first n 0) row (places (λ m. m == n) (suc row) (drop (suc row) numbers))
      (λ q. absurd (let same : get_or numbers row 0 ≡ n = grind arith in omega (arith, same, past, b)))
      (λ q. old_chain numbers first next row n h b));
}

zeros : (n i : ℕ) → ◌≡◌ {A = ℕ} (get_or (replicate n 0) i 0) 0
zeros zero i = refl
zeros (suc n) zero = refl
zeros (suc n) (suc i) = zeros n i

pub chained_more : (numbers first next : List ℕ) (row key old slot : ℕ) → key ≡ get_or numbers row 0 → old ≡ get_or first key 0 → slot ≡ row + 1 → row < length numbers → key < length first → AreRowChains numbers first next (row + 1) → AreRowChains numbers (set first key slot) (set next row old) row
chained_more numbers first next row key old slot k o s l w h = record {
  width = length-set next row old ∙ h.width;
  rises = λ j. elim (cases_eq j row) as (λ _. (get_or (set next row old) j 0 ≤ length (set next row old)) × ((get_or (set next row old) j 0 ≡ 0) ⊎ (j + 1 < get_or (set next row old) j 0))) [
    | inl here ↦ let a = h.heads key in rw (here, get_or-set_same next row old 0 (omega (arith, h.width)), length-set next row old, o) a
    | inr other ↦ rw (get_or-set_other next row j old 0 other, length-set next row old) (h.rises j)
  ];
  heads = λ n. elim (cases_eq n key) as (λ _. (get_or (set first key slot) n 0 ≤ length (set next row old)) × ((get_or (set first key slot) n 0 ≡ 0) ⊎ (row < get_or (set first key slot) n 0))) [
    | inl here ↦ rw (here, get_or-set_same first key slot 0 w, length-set next row old, s) (omega (arith, h.width), inr (omega arith))
    | inr other ↦ rw (get_or-set_other first key n slot 0 other, length-set next row old) (weaker row (get_or first n 0) (length next) (h.heads n))
  ];
  chain = λ n b.
      let later : List ℕ = places (λ m. m == n) (suc row) (drop (suc row) numbers) in
      let far : Each (λ j. suc row ≤ j) later = places-rise (λ m. m == n) (suc row) (drop (suc row) numbers) in
      rw (drop-cons numbers row 0 l) (chain_cons (get_or numbers row 0 == n) (set next row old) (get_or (set first key slot) n 0) row later
      (λ q. let same : n ≡ key = grind arith in (
        rw (same, get_or-set_same first key slot 0 w) s,
        rw (get_or-set_same next row old 0 (omega (arith, h.width)), o, ← same) (chain_kept next row _ _ later far (old_chain numbers first next row n h (rw same w))),
      ))
      (λ q. let other : n ≢ key = grind arith in
      rw (get_or-set_other first key n slot 0 other) (chain_kept next row old (get_or first n 0) later far (old_chain numbers first next row n h (omega (arith, b, length-set first key slot))))));
}

pub chained_first : (numbers : List ℕ) (keys : ℕ) → AreRowChains numbers (replicate keys 0) (replicate (length numbers) 0) (length numbers)
chained_first numbers keys = record {
  width = length-replicate (length numbers) 0;
  rises = λ j. rw (zeros (length numbers) j) (omega arith, inl refl);
  heads = λ k. rw (zeros keys k) (omega arith, inl refl);
  chain = λ k b. rw (zeros keys k, drop_all (length numbers) numbers (omega arith)) refl;
}
