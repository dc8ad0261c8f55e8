-- What lists come to in parts, and tables by key that are put into one.
use Rattle.std.proofs.Common.{◌≡◌, ◌++◌, [], ◌∷◌, List, refl, ap, ◌∙◌, sym, Bool, true, false, if◌then◌else◌, None, Some, inl, inr}
use Rattle.std.specs.Prelude.{Option}
use Rattle.std.proofs.lemmas.Bool.{cases_Bool, false≢true}
use Rattle.morsel_keys.specs.Groups.{both_parts, all_parts, passing, reduced, lookup, HasNoKey, HasKeysOnce, with_entry, with_entries}
use Rattle.morsel_keys.specs.Laws.{IsSameness, IsAssociative, ReducesParts, MergesTables}

pub both_parts-assoc : {M : Type 0} (plus : M → M → M) → IsAssociative plus → (a b c : Option M) → both_parts plus a (both_parts plus b c) ≡ both_parts plus (both_parts plus a b) c
both_parts-assoc plus assoc None b c = refl
both_parts-assoc plus assoc (Some a) None c = refl
both_parts-assoc plus assoc (Some a) (Some b) None = refl
both_parts-assoc plus assoc (Some a) (Some b) (Some c) = ap Some (assoc a b c)

pub both_parts-none : {M : Type 0} (plus : M → M → M) (part : Option M) → both_parts plus part None ≡ part
both_parts-none plus None = refl
both_parts-none plus (Some a) = refl

pub all_parts-append : {X M : Type 0} (plus : M → M → M) → IsAssociative plus → (one : X → M) (xs ys : List X) → all_parts plus one (xs ++ ys) ≡ both_parts plus (all_parts plus one xs) (all_parts plus one ys)
all_parts-append plus assoc one [] ys = refl
all_parts-append plus assoc one (x ∷ xs) ys =
    ap (both_parts plus (Some (one x))) (all_parts-append plus assoc one xs ys)
    ∙ both_parts-assoc plus assoc (Some (one x)) (all_parts plus one xs) (all_parts plus one ys)

passing-append : {X : Type 0} (test : X → Bool) (xs ys : List X) → passing test (xs ++ ys) ≡ passing test xs ++ passing test ys
passing-append test [] ys = refl
passing-append {X} test (x ∷ xs) ys = by (test x) (passing-append test xs ys)
  where
    by : (t : Bool) → passing test (xs ++ ys) ≡ passing test xs ++ passing test ys
        → (if t then x ∷ passing test (xs ++ ys) else passing test (xs ++ ys)) ≡ (if t then x ∷ passing test xs else passing test xs) ++ passing test ys
    by true later = ap (λ zs. x ∷ zs) later
    by false later = later

pub reduces_parts : {X M : Type 0} → ReducesParts X M
reduces_parts = λ plus one test xs ys assoc. ap (all_parts plus one) (passing-append test xs ys) ∙ all_parts-append plus assoc one (passing test xs) (passing test ys)

flipped : {K : Type 0} (same : K → K → Bool) (s : IsSameness same) (k a : K) → same k a ≡ false → same a k ≡ false
flipped same s k a e = elim (cases_Bool (same a k)) as (λ _. same a k ≡ false) [
  | inl t ↦ let ak = s.only a k t in let bad : true ≡ false = sym (s.itself a) ∙ ap (λ z. same z a) ak ∙ e in absurd (false≢true (sym bad))
  | inr t ↦ t
]

apart : {K : Type 0} (same : K → K → Bool) (s : IsSameness same) (q k a : K) → same q a ≡ true → same k a ≡ false → same q k ≡ false
apart same s q k a f e = elim (cases_Bool (same q k)) as (λ _. same q k ≡ false) [
  | inl t ↦ let qk = s.only q k t in let bad : true ≡ false = sym f ∙ ap (λ z. same z a) qk ∙ e in absurd (false≢true (sym bad))
  | inr t ↦ t
]

entry_step : {K M : Type 0} (same : K → K → Bool) (s : IsSameness same) (plus : M → M → M) (q k a : K) (b m : M) (es : List (K × M)) (t u : Bool) → same k a ≡ t → same q a ≡ u
    → lookup same q (with_entry same plus k m es) ≡ both_parts plus (lookup same q es) (if same q k then Some m else None)
    → lookup same q (if t then (a, plus b m) ∷ es else (a, b) ∷ with_entry same plus k m es) ≡ both_parts plus (if u then Some b else lookup same q es) (if same q k then Some m else None)
entry_step same s plus q k a b m es true true e f h =
    let ka = s.only k a e in let qk : same q k ≡ true = rw (ka) f in rw (f, qk) refl
entry_step same s plus q k a b m es true false e f h =
    let ka = s.only k a e in let qk : same q k ≡ false = rw (ka) f in rw (f, qk) (sym (both_parts-none plus (lookup same q es)))
entry_step same s plus q k a b m es false true e f h = rw (f, apart same s q k a f e) refl
entry_step same s plus q k a b m es false false e f h = rw f h

-- what a table has after an entry was put into it
pub with_entry-lookup : {K M : Type 0} (same : K → K → Bool) (s : IsSameness same) (plus : M → M → M) (q k : K) (m : M) (es : List (K × M)) → lookup same q (with_entry same plus k m es) ≡ both_parts plus (lookup same q es) (if same q k then Some m else None)
with_entry-lookup same s plus q k m [] = refl
with_entry-lookup same s plus q k m (e ∷ es) = entry_step same s plus q k e.0 e.1 m es (same k e.0) (same q e.0) refl refl (with_entry-lookup same s plus q k m es)

once_step : {K M : Type 0} (same : K → K → Bool) (s : IsSameness same) (plus : M → M → M) (k a : K) (b m : M) (es : List (K × M)) (t : Bool) → same k a ≡ t → HasNoKey same a es → HasKeysOnce same es → HasKeysOnce same (with_entry same plus k m es) → HasKeysOnce same (if t then (a, plus b m) ∷ es else (a, b) ∷ with_entry same plus k m es)
once_step same s plus k a b m es true e n d h = (n, d)
once_step same s plus k a b m es false e n d h = (with_entry-lookup same s plus a k m es ∙ rw (n, flipped same s k a e) refl, h)

with_entry-once : {K M : Type 0} (same : K → K → Bool) (s : IsSameness same) (plus : M → M → M) (k : K) (m : M) (es : List (K × M)) → HasKeysOnce same es → HasKeysOnce same (with_entry same plus k m es)
with_entry-once same s plus k m [] d = (refl, tt)
with_entry-once same s plus k m (e ∷ es) d = once_step same s plus k e.0 e.1 m es (same k e.0) refl d.0 d.1 (with_entry-once same s plus k m es d.1)

with_entries-once : {K M : Type 0} (same : K → K → Bool) (s : IsSameness same) (plus : M → M → M) (table es : List (K × M)) → HasKeysOnce same table → HasKeysOnce same (with_entries same plus table es)
with_entries-once same s plus table [] d = d
with_entries-once same s plus table (e ∷ es) d = with_entries-once same s plus (with_entry same plus e.0 e.1 table) es (with_entry-once same s plus e.0 e.1 table d)

entries_step : {K M : Type 0} (same : K → K → Bool) (s : IsSameness same) (plus : M → M → M) (q k : K) (m : M) (o : Option M) (es : List (K × M)) (t : Bool) → same q k ≡ t → HasNoKey same k es → both_parts plus (both_parts plus o (if t then Some m else None)) (lookup same q es) ≡ both_parts plus o (if t then Some m else lookup same q es)
entries_step same s plus q k m o es true e n = let qk = s.only q k e in rw (qk, n) (both_parts-none plus (both_parts plus o (Some m)))
entries_step same s plus q k m o es false e n = ap (λ p. both_parts plus p (lookup same q es)) (both_parts-none plus o)

-- two tables in one have at each key what both have
pub with_entries-lookup : {K M : Type 0} (same : K → K → Bool) (s : IsSameness same) (plus : M → M → M) (q : K) (table es : List (K × M)) → HasKeysOnce same es → lookup same q (with_entries same plus table es) ≡ both_parts plus (lookup same q table) (lookup same q es)
with_entries-lookup same s plus q table [] d = sym (both_parts-none plus (lookup same q table))
with_entries-lookup same s plus q table (e ∷ es) d =
    with_entries-lookup same s plus q (with_entry same plus e.0 e.1 table) es d.1
    ∙ ap (λ o. both_parts plus o (lookup same q es)) (with_entry-lookup same s plus q e.0 e.1 table)
    ∙ entries_step same s plus q e.0 e.1 (lookup same q table) es (same q e.0) refl d.0

pub merges_tables : {X K M : Type 0} → MergesTables X K M
merges_tables {X} {K} {M} = λ same key plus one xs ys us vs s assoc a b. record {
  once = with_entries-once same s plus us vs a.once;
  each = λ k. with_entries-lookup same s plus k us vs b.once
      ∙ ap (λ o. both_parts plus o (lookup same k vs)) (a.each k)
      ∙ ap (λ o. both_parts plus (reduced plus one (λ x. same k (key x)) xs) o) (b.each k)
      ∙ sym (reduces_parts plus one (λ x. same k (key x)) xs ys assoc);
}
