-- Slots with one more, and searches among them.
use Rattle.std.proofs.Common.{◌≡◌, ◌≢◌, ◌<◌, ◌≤◌, ◌++◌, [], ◌∷◌, List, ℕ, length, slice_get, Some, ◌+◌, ◌-◌, ◌^◌, inl, inr, get_or, take, arith, ap, ◌∙◌, sym}
use Rattle.std.specs.Prelude.{Option, None, IfNone}
use Rattle.std.proofs.lemmas.Option.{slice_get_within, slice_get-get_or, get_or_from_slice_get}
use Rattle.std.proofs.lemmas.Grind.{common_steps}
use Rattle.std.proofs.lemmas.List.{length-append, length-take, take_more, get_or_append_left}
use Rattle.std.proofs.Math.Seq.{get_or-append_seam}
use Rattle.std.proofs.lemmas.Bool.{cases_lt, cases_eq}
use Rattle.morsel_keys.specs.Slots.{AreSlots, IsFreeFor, IsHole, IsNewKey, with_slot, Reaches, IsIndexed, HasKeysEachOnce}

slot_same : (at s : ℕ) (slots : List ℕ) → at ≤ length slots → get_or (with_slot at s slots) at 0 ≡ s
slot_same at s slots l = grind (arith, common_steps)

slot_other : (at s : ℕ) (slots : List ℕ) (q : ℕ) → at ≤ length slots → q ≢ at → get_or (with_slot at s slots) q 0 ≡ get_or slots q 0
slot_other at s slots q l n = grind (arith, common_steps)

slot_within : (at s : ℕ) (slots : List ℕ) → at ≤ length slots → at < length (with_slot at s slots)
slot_within at s slots l = grind (arith, common_steps)

slot_longer : (at s : ℕ) (slots : List ℕ) → length slots ≤ length (with_slot at s slots)
slot_longer at s slots = grind (arith, common_steps)

-- a full slot is no free one
apart : (slots : List ℕ) (q at : ℕ) → get_or slots at 0 ≡ 0 → 0 < get_or slots q 0 → q ≢ at
apart slots q at p f same = let z : get_or slots q 0 ≡ 0 = ap (λ u. get_or slots u 0) same ∙ p in absurd (omega (arith, z, f))

reaches_kept : (slots : List ℕ) (from k at s : ℕ) → at ≤ length slots → get_or slots at 0 ≡ 0 → 0 < s → Reaches slots from k → Reaches (with_slot at s slots) from k
reaches_kept slots from k at s l p e r = record {
  at = r.at;
  after = r.after;
  within = omega (arith, r.within, slot_longer at s slots);
  held = slot_other at s slots r.at l (apart slots r.at at p (omega (arith, r.held))) ∙ r.held;
  full = λ q a b. rw (slot_other at s slots q l (apart slots q at p (r.full q a b))) (r.full q a b);
}

reaches_new : (slots : List ℕ) (from at k : ℕ) → IsHole slots from at → Reaches (with_slot at (k + 1) slots) from k
reaches_new slots from at k f = record {
  at = at;
  after = f.after;
  within = slot_within at (k + 1) slots f.within;
  held = slot_same at (k + 1) slots f.within;
  full = λ q a b. let p = f.full q a b in rw (slot_other at (k + 1) slots q f.within (apart slots q at f.free p)) p;
}

fit_push : (slots : List ℕ) (count at : ℕ) → at ≤ length slots → AreSlots slots count → AreSlots (with_slot at (count + 1) slots) (count + 1)
fit_push slots count at l h q = elim (cases_eq q at) as (λ _. get_or (with_slot at (count + 1) slots) q 0 ≤ count + 1) [
  | inl same ↦ rw same (omega (arith, slot_same at (count + 1) slots l))
  | inr other ↦ omega (arith, slot_other at (count + 1) slots q l other, h q)
]

-- the key at a place of a list with one more
pub last_or_before : {K : Type 0} (keys : List K) (key other : K) (k : ℕ) (P : Type 0) → slice_get (keys ++ key ∷ []) k ≡ Some other
    → (slice_get keys k ≡ Some other → P) → (k ≡ length keys → key ≡ other → P) → P
last_or_before keys key other k P e before last =
    let in_all : k < length (keys ++ key ∷ []) = slice_get_within (keys ++ key ∷ []) k other e in
    let read : get_or (keys ++ key ∷ []) k key ≡ other = get_or_from_slice_get (keys ++ key ∷ []) k other key e in
    elim (cases_lt k (length keys)) as (λ _. P) [
      | inl old ↦ before (slice_get-get_or keys k key old ∙ ap Some (sym (get_or_append_left keys (key ∷ []) key k old) ∙ read))
      | inr new ↦
          let here : k ≡ length keys = omega (arith, length-append keys (key ∷ []), in_all) in
          last here (sym (ap (λ n. get_or (keys ++ key ∷ []) n key) here ∙ get_or-append_seam keys key [] key) ∙ read)
    ]

pub indexed_push : {K : Type 0} (home : K → ℕ) (mask : ℕ) (slots : List ℕ) (keys : List K) (key : K) (at : ℕ) → IsIndexed home mask slots keys → IsHole slots (home key) at → length keys + 1 < 2 ^ 32
    → IsIndexed home mask (with_slot at (length keys + 1) slots) (keys ++ key ∷ [])
indexed_push home mask slots keys key at h f l = record {
  masked = omega (arith, h.masked, slot_longer at (length keys + 1) slots);
  fit = rw (length-append keys (key ∷ [])) (fit_push slots (length keys) at f.within h.fit);
  short = omega (arith, length-append keys (key ∷ []), l);
  found = λ k other e. last_or_before keys key other k (Reaches (with_slot at (length keys + 1) slots) (home other) k) e
      (λ before. reaches_kept slots (home other) k at (length keys + 1) f.within f.free (omega arith) (h.found k other before))
      (λ here same. rw (here, ← same) (reaches_new slots (home key) at (length keys) f));
}

pub index_more : {K : Type 0} (home : K → ℕ) (mask : ℕ) (slots : List ℕ) (keys : List K) (key : K) (from at slot : ℕ) → slot ≡ length keys + 1 → from ≡ home key → IsIndexed home mask slots keys → IsHole slots from at → length keys + 1 < 2 ^ 32
    → IsIndexed home mask (with_slot at slot slots) (keys ++ key ∷ [])
index_more home mask slots keys key from at slot e b h f l = rw e (indexed_push home mask slots keys key at h (rw (← b) f) l)

-- a search that ended at a free place passed each slot of the key
pub not_there : {K : Type 0} (home : K → ℕ) (mask : ℕ) (slots : List ℕ) (keys : List K) (key : K) (from : ℕ) → IsIndexed home mask slots keys → from ≡ home key → IsFreeFor slots keys key from → IsNewKey key keys
not_there home mask slots keys key from h b (at, hole, passed) k e =
    let r : Reaches slots from k = rw b (h.found k key e) in
    elim (cases_lt r.at at) as (λ _. ⊥) [
      | inl before ↦ (passed r.at r.after before).1 (ap (λ n. slice_get keys (n - 1)) r.held ∙ ap (λ n. slice_get keys n) (omega arith) ∙ e)
      | inr past ↦ elim (cases_eq r.at at) as (λ _. ⊥) [
        | inl here ↦ omega (arith, hole.free, r.held, ap (λ n. get_or slots n 0) here)
        | inr other ↦ omega (arith, hole.free, r.full at hole.after (omega arith))
      ]
    ]

-- a search that begins at a free place finds nothing
pub absent_at : {K : Type 0} (home : K → ℕ) (mask : ℕ) (slots : List ℕ) (keys : List K) (key : K) → IsIndexed home mask slots keys → get_or slots (home key) 0 ≡ 0 → IsNewKey key keys
absent_at home mask slots keys key h free k e =
    let r : Reaches slots (home key) k = h.found k key e in
    elim (cases_eq (home key) r.at) as (λ _. ⊥) [
      | inl here ↦ omega (arith, free, r.held, ap (λ n. get_or slots n 0) here)
      | inr other ↦ omega (arith, free, r.full (home key) (omega arith) (omega (arith, r.after, other)))
    ]

pub rebuild_more : {K : Type 0} (home : K → ℕ) (mask : ℕ) (slots : List ℕ) (keys : List K) (key : K) (place from at slot : ℕ) → IsIndexed home mask slots (take place keys) → slice_get keys place ≡ Some key → length keys < 2 ^ 32 → from ≡ home key → IsHole slots from at → slot ≡ place + 1
    → IsIndexed home mask (with_slot at slot slots) (take (place + 1) keys)
rebuild_more home mask slots keys key place from at slot h e short b f s =
    let l : place < length keys = slice_get_within keys place key e in
    let size : length (take place keys) ≡ place = omega (arith, length-take place keys) in
    let more = take_more keys place key l ∙ ap (λ x. take place keys ++ x ∷ []) (get_or_from_slice_get keys place key key e) in
    rw more (index_more home mask slots (take place keys) key from at slot (s ∙ ap (λ n. n + 1) (sym size)) b h f (omega arith))

-- a new key comes once
pub once_push : {K : Type 0} (keys : List K) (key : K) → HasKeysEachOnce keys → IsNewKey key keys → HasKeysEachOnce (keys ++ key ∷ [])
once_push keys key once new i j other a b =
    last_or_before keys key other i (i ≡ j) a
    (λ before. last_or_before keys key other j (i ≡ j) b (λ too. once i j other before too) (λ here same. absurd (new i (before ∙ ap Some (sym same)))))
    (λ here same. last_or_before keys key other j (i ≡ j) b (λ too. absurd (new j (too ∙ ap Some (sym same)))) (λ there again. here ∙ sym there))

-- what follows where nothing was found
pub none_then : {K : Type 0} (r : Option K) (P Q : Type 0) → IfNone r P → (P → Q) → IfNone r Q
none_then None P Q p f = f p
none_then (Some x) P Q p f = tt
