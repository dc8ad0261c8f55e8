-- Keys as they arrive, each once.
use Rattle.std.proofs.Common.{◌≡◌, ◌≤◌, ◌++◌, [], ◌∷◌, List, ℕ, zero, suc, length, slice_get, Some, refl, arith, ap, ◌∙◌, sym, Bool, true, false, ◌&&◌, ◌||◌, if◌then◌else◌, inl, inr}
use Rattle.std.proofs.lemmas.Bool.{cases_Bool, false≢true}
use Rattle.std.proofs.lemmas.List.{length-append}
use Rattle.morsel_meaning.specs.Values.{Row}
use Rattle.morsel_meaning.specs.Order.{value_eq}
use Rattle.morsel_meaning.proofs.OrderLemmas.{value_eq-itself, value_eq-same}
use Rattle.morsel_keys.specs.Slots.{IsNewKey, GivesNumber, NumbersAll, HasKeysEachOnce}
use Rattle.morsel_keys.proofs.SlotLemmas.{once_push}
use Rattle.morsel_group.specs.Grouping.{same_key, is_among, arrived}

both_true : (a b : Bool) → (a && b) ≡ true → (a ≡ true) × (b ≡ true)
both_true true b holds = (refl, holds)
both_true false b holds = absurd (false≢true holds)

pub same_key-itself : (k : Row) → same_key k k ≡ true
same_key-itself [] = refl
same_key-itself (v ∷ k) = ap (λ t. t && same_key k k) (value_eq-itself v) ∙ same_key-itself k

pub same_key-only : (k l : Row) → same_key k l ≡ true → k ≡ l
same_key-only [] [] e = refl
same_key-only [] (w ∷ l) e = absurd (false≢true e)
same_key-only (v ∷ k) [] e = absurd (false≢true e)
same_key-only (v ∷ k) (w ∷ l) e =
    let both = both_true (value_eq v w) (same_key k l) e in
    ap (λ x. x ∷ k) (value_eq-same v w both.0) ∙ ap (λ x. w ∷ x) (same_key-only k l both.1)

-- a key at a place is among the keys
pub at_among : (keys : List Row) (at : ℕ) (key : Row) → slice_get keys at ≡ Some key → is_among key keys ≡ true
at_among [] at key e = cc
at_among (k ∷ keys) zero key e =
    let same : k ≡ key = cc in
    ap (λ x. if same_key key x then true else is_among key keys) same ∙ ap (λ t. if t then true else is_among key keys) (same_key-itself key)
at_among (k ∷ keys) (suc at) key e = by (same_key key k) (at_among keys at key e)
  where
    by : (t : Bool) → is_among key keys ≡ true → (if t then true else is_among key keys) ≡ true
    by true later = refl
    by false later = later

-- a key among the keys is at a place
pub among_at : (keys : List Row) (key : Row) → is_among key keys ≡ true → (at : ℕ) × (slice_get keys at ≡ Some key)
among_at [] key e = absurd (false≢true e)
among_at (k ∷ keys) key e = by (same_key key k) refl (λ f. among_at keys key f) e
  where
    by : (t : Bool) → same_key key k ≡ t → (is_among key keys ≡ true → (at : ℕ) × (slice_get keys at ≡ Some key)) → (if t then true else is_among key keys) ≡ true → (at : ℕ) × (slice_get (k ∷ keys) at ≡ Some key)
    by true q further e = (zero, ap Some (sym (same_key-only key k q)))
    by false q further e = let later = further e in (suc later.0, later.1)

not_among : (keys : List Row) (key : Row) → IsNewKey key keys → is_among key keys ≡ false
not_among keys key new = elim (cases_Bool (is_among key keys)) as (λ _. is_among key keys ≡ false) [
  | inl t ↦ let there = among_at keys key t in absurd (new there.0 there.1)
  | inr f ↦ f
]

pub new_of_not_among : (keys : List Row) (key : Row) → is_among key keys ≡ false → IsNewKey key keys
new_of_not_among keys key none at e = false≢true (sym none ∙ at_among keys at key e)

-- keys with one more, where it is none of them
abbrev pub with_key : List Row → Row → List Row
with_key known key = if is_among key known then known else known ++ key ∷ []

pub gives_with_key : (old : List Row) (key : Row) (at : ℕ) (new : List Row) → GivesNumber old key at new → new ≡ with_key old key
gives_with_key old key at new (inl (held, same)) = same ∙ sym (ap (λ t. if t then old else old ++ key ∷ []) (at_among old at key held))
gives_with_key old key at new (inr (absent, next, last)) = last ∙ sym (ap (λ t. if t then old else old ++ key ∷ []) (not_among old key absent))

-- keys that get numbers one after the other arrive
pub numbers_arrived : (old vs : List Row) (ats : List ℕ) (new : List Row) → NumbersAll old vs ats new → new ≡ arrived old vs
numbers_arrived old [] [] new all = all
numbers_arrived old [] (at ∷ ats) new all = absurd all
numbers_arrived old (v ∷ vs) [] new all = absurd all
numbers_arrived old (v ∷ vs) (at ∷ ats) new (mid, first, later) = numbers_arrived mid vs ats new later ∙ ap (λ ks. arrived ks vs) (gives_with_key old v at mid first)

pub arrived-append : (known xs ys : List Row) → arrived known (xs ++ ys) ≡ arrived (arrived known xs) ys
arrived-append known [] ys = refl
arrived-append known (x ∷ xs) ys = arrived-append (with_key known x) xs ys

among-append : (key : Row) (xs ys : List Row) → is_among key (xs ++ ys) ≡ (is_among key xs || is_among key ys)
among-append key [] ys = refl
among-append key (x ∷ xs) ys = by (same_key key x) (among-append key xs ys)
  where
    by : (t : Bool) → is_among key (xs ++ ys) ≡ (is_among key xs || is_among key ys) → (if t then true else is_among key (xs ++ ys)) ≡ ((if t then true else is_among key xs) || is_among key ys)
    by true later = refl
    by false later = later

or_false : (a : Bool) → (a || false) ≡ a
or_false true = refl
or_false false = refl

or_assoc : (a b c : Bool) → ((a || b) || c) ≡ (a || (b || c))
or_assoc true b c = refl
or_assoc false b c = refl

among-with_key : (key : Row) (known : List Row) (k : Row) → is_among key (with_key known k) ≡ (is_among key known || same_key key k)
among-with_key key known k = by (is_among k known) refl
  where
    held : (t : Bool) → same_key key k ≡ t → is_among k known ≡ true → is_among key known ≡ (is_among key known || t)
    held true q there = let same = same_key-only key k q in let here : is_among key known ≡ true = ap (λ x. is_among x known) same ∙ there in here ∙ sym (ap (λ a. a || true) here)
    held false q there = sym (or_false (is_among key known))

    last : (t : Bool) → (is_among key known || (if t then true else false)) ≡ (is_among key known || t)
    last true = refl
    last false = refl

    by : (t : Bool) → is_among k known ≡ t → is_among key (if t then known else known ++ k ∷ []) ≡ (is_among key known || same_key key k)
    by true q = held (same_key key k) refl q
    by false q = among-append key known (k ∷ []) ∙ last (same_key key k)

-- a key has arrived where it was known, or is one of those that came
pub among-arrived : (key : Row) (known vs : List Row) → is_among key (arrived known vs) ≡ (is_among key known || is_among key vs)
among-arrived key known [] = sym (or_false (is_among key known))
among-arrived key known (v ∷ vs) =
    among-arrived key (with_key known v) vs
    ∙ ap (λ t. t || is_among key vs) (among-with_key key known v)
    ∙ or_assoc (is_among key known) (same_key key v) (is_among key vs)
    ∙ ap (λ t. is_among key known || t) (either (same_key key v))
  where
    either : (t : Bool) → (t || is_among key vs) ≡ (if t then true else is_among key vs)
    either true = refl
    either false = refl

-- keys that arrive after others, each once, arrive as they are
pub arrived-arrived : (known keys vs : List Row) → arrived known (arrived keys vs) ≡ arrived (arrived known keys) vs
arrived-arrived known keys [] = refl
arrived-arrived known keys (v ∷ vs) = arrived-arrived known (with_key keys v) vs ∙ ap (λ ks. arrived ks vs) (by (is_among v keys) refl)
  where
    by : (t : Bool) → is_among v keys ≡ t → arrived known (if t then keys else keys ++ v ∷ []) ≡ with_key (arrived known keys) v
    by true q =
        let there : is_among v (arrived known keys) ≡ true = among-arrived v known keys ∙ ap (λ t. is_among v known || t) q ∙ ends (is_among v known) in
        sym (ap (λ t. if t then arrived known keys else arrived known keys ++ v ∷ []) there)
      where
        ends : (t : Bool) → (t || true) ≡ true
        ends true = refl
        ends false = refl
    by false q = arrived-append known keys (v ∷ [])

with_key-once : (known : List Row) (key : Row) → HasKeysEachOnce known → HasKeysEachOnce (with_key known key)
with_key-once known key once = by (is_among key known) refl
  where
    by : (t : Bool) → is_among key known ≡ t → HasKeysEachOnce (if t then known else known ++ key ∷ [])
    by true q = once
    by false q = once_push known key once (new_of_not_among known key q)

-- keys arrive each once
pub arrived-once : (known vs : List Row) → HasKeysEachOnce known → HasKeysEachOnce (arrived known vs)
arrived-once known [] once = once
arrived-once known (v ∷ vs) once = arrived-once (with_key known v) vs (with_key-once known v once)

with_key-longer : (known : List Row) (key : Row) → length known ≤ length (with_key known key)
with_key-longer known key = by (is_among key known)
  where
    by : (t : Bool) → length known ≤ length (if t then known else known ++ key ∷ [])
    by true = omega arith
    by false = let n = length-append known (key ∷ []) in omega (arith, n)

pub arrived-longer : (known vs : List Row) → length known ≤ length (arrived known vs)
arrived-longer known [] = omega arith
arrived-longer known (v ∷ vs) = let here = with_key-longer known v in let later = arrived-longer (with_key known v) vs in omega (arith, here, later)

pub none_once : HasKeysEachOnce {K = Row} []
none_once i j key e f = cc
