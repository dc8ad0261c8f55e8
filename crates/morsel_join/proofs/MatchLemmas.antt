-- Keys that match have one number, and only those.
use Rattle.std.proofs.Common.{◌≡◌, ◌<◌, ◌≤◌, [], ◌∷◌, List, ℕ, length, slice_get, Some, arith, refl, ap, ◌∙◌, sym, subst, Bool, true, false, ◌&&◌, ◌||◌, ◌==◌, inl, inr, nat_lt}
use Rattle.std.proofs.lemmas.Option.{slice_get_within, same_Some}
use Rattle.morsel_meaning.specs.Values.{Row}
use Rattle.morsel_meaning.specs.Order.{value_eq}
use Rattle.morsel_meaning.proofs.OrderLemmas.{value_eq-itself, value_eq-same}
use Rattle.morsel_frame.specs.Cells.{not_null}
use Rattle.morsel_keys.specs.Slots.{HasKeysEachOnce, IsFound, no_number}
use Rattle.morsel_join.specs.Builds.{no_null, IsNumber}
use Rattle.morsel_join.specs.Chains.{same_number}
use Rattle.morsel_join.specs.Rows.{values_match, keys_match}

both : (s t : Bool) → (s && t) ≡ true → (s ≡ true) × (t ≡ true)
both true true q = (refl, refl)
both true false q = absurd (cc)
both false t q = absurd (cc)

keys-same : (nulls : Bool) (a b : Row) → keys_match nulls a b ≡ true → a ≡ b
keys-same nulls [] [] q = refl
keys-same nulls [] (y ∷ b) q = absurd (cc)
keys-same nulls (x ∷ a) [] q = absurd (cc)
keys-same nulls (x ∷ a) (y ∷ b) q =
    let p = both (values_match nulls x y) (keys_match nulls a b) q in
    let r = both (value_eq x y) (nulls || not_null x) p.0 in
    ap (λ v. v ∷ a) (value_eq-same x y r.0) ∙ ap (λ vs. y ∷ vs) (keys-same nulls a b p.1)

one-more : (nulls p q : Bool) → ((true && (nulls || p)) && (nulls || q)) ≡ (nulls || (p && q))
one-more true p q = refl
one-more false p q = refl

-- a key matches itself, but for a null where nulls are not equal
keys-itself : (nulls : Bool) (a : Row) → keys_match nulls a a ≡ (nulls || no_null a)
keys-itself true [] = refl
keys-itself false [] = refl
keys-itself nulls (x ∷ a) =
    ap (λ t. (t && (nulls || not_null x)) && keys_match nulls a a) (value_eq-itself x)
    ∙ ap (λ t. (true && (nulls || not_null x)) && t) (keys-itself nulls a) ∙ one-more nulls (not_null x) (no_null a)

differ : (a b : Bool) → (a ≡ true → b ≡ true) → (b ≡ true → a ≡ true) → a ≡ b
differ true b f g = sym (f refl)
differ false true f g = g refl
differ false false f g = refl

-- either key may come first
pub keys-mirrored : (nulls : Bool) (a b : Row) → keys_match nulls a b ≡ keys_match nulls b a
keys-mirrored nulls a b = differ (keys_match nulls a b) (keys_match nulls b a)
    (λ q. let same = keys-same nulls a b q in subst (λ (x : Row). keys_match nulls b x ≡ true) (sym same) (subst (λ (x : Row). keys_match nulls x b ≡ true) same q))
    (λ q. let same = keys-same nulls b a q in subst (λ (x : Row). keys_match nulls a x ≡ true) (sym same) (subst (λ (x : Row). keys_match nulls x a ≡ true) same q))

same-yes : (keys n m : ℕ) → m ≡ n → n < keys → same_number keys n m ≡ true
same-yes keys n m same less = grind (arith, same, less)

same-only : (keys n m : ℕ) → same_number keys n m ≡ true → (m ≡ n) × (n < keys)
same-only keys n m q = let p = both (m == n) (nat_lt n keys) q in (grind (arith, p), grind (arith, p))

found-place : (keys : List Row) (key : Row) (n : ℕ) → length keys ≤ no_number → n < length keys → IsFound keys key n → slice_get keys n ≡ Some key
found-place keys key n few less (inl (none, new)) = absurd (omega (arith, few, less, none))
found-place keys key n few less (inr held) = held

held-place : (nulls : Bool) (keys : List Row) (key : Row) (m : ℕ) → length keys ≤ no_number → m < length keys → IsNumber nulls keys key m → ((nulls || no_null key) ≡ true) × (slice_get keys m ≡ Some key)
held-place nulls keys key m few less (inl held) = held
held-place nulls keys key m few less (inr (some, none)) = absurd (omega (arith, few, less, none))

is-there : (keys : List Row) (key : Row) (n m : ℕ) → slice_get keys m ≡ Some key → IsFound keys key n → slice_get keys n ≡ Some key
is-there keys key n m held (inl (none, new)) = absurd (new m held)
is-there keys key n m held (inr found) = found

numbered : (nulls : Bool) (keys : List Row) (key : Row) (m : ℕ) → (nulls || no_null key) ≡ true → IsNumber nulls keys key m → slice_get keys m ≡ Some key
numbered nulls keys key m some (inl held) = held.1
numbered nulls keys key m some (inr (none, is)) = absurd (cc (some, none))

-- the key that is looked up and the key that is kept match exactly where they have one number
pub numbers-agree : (nulls : Bool) (keys : List Row) (a b : Row) (n m : ℕ) → HasKeysEachOnce keys → length keys ≤ no_number → IsFound keys a n → IsNumber nulls keys b m → keys_match nulls a b ≡ same_number (length keys) n m
numbers-agree nulls keys a b n m once few found number = differ (keys_match nulls a b) (same_number (length keys) n m)
    (λ q.
    let same = keys-same nulls a b q in
    let some : (nulls || no_null b) ≡ true = sym (keys-itself nulls b) ∙ subst (λ (x : Row). keys_match nulls x b ≡ true) same q in
    let held = numbered nulls keys b m some number in
    let there = is-there keys a n m (subst (λ (x : Row). slice_get keys m ≡ Some x) (sym same) held) found in
    same-yes (length keys) n m (once m n b held (subst (λ (x : Row). slice_get keys n ≡ Some x) same there)) (slice_get_within keys n a there))
    (λ q.
    let p = same-only (length keys) n m q in
    let there = found-place keys a n few p.1 found in
    let held = held-place nulls keys b m few (omega (arith, p.0, p.1)) number in
    let same : a ≡ b = same_Some a b (sym there ∙ subst (λ (k : ℕ). slice_get keys k ≡ Some b) p.0 held.1) in
    subst (λ (x : Row). keys_match nulls x b ≡ true) (sym same) (keys-itself nulls b ∙ held.0))
