-- Keys as they are held and as they are shown: what is given and found of the one is given and found of the other.
use Rattle.std.proofs.Common.{◌≡◌, ◌≤◌, ◌<◌, ◌++◌, [], ◌∷◌, List, ℕ, suc, length, map, slice_get, Some, refl, arith, ap, ◌∙◌, sym, subst, inl, inr}
use Rattle.std.proofs.lemmas.List.{length-append, length-map, map-append}
use Rattle.morsel_keys.specs.Slots.{IsFound, IsNewKey, GivesNumber, HasKeysEachOnce, no_number}
use Rattle.morsel_keys.proofs.HeldLemmas.{shown_at, shown}
use Rattle.morsel_keys.proofs.SlotLemmas.{once_push, last_or_before}

-- what is shown as a key is that key alone
abbrev pub ShowsOnly : {A B : Type 0} → (A → B) → List A → A → B → Type 0
ShowsOnly {A} f xs x y = (k : ℕ) (z : A) → slice_get xs k ≡ Some z → f z ≡ y → z ≡ x

pub new_shown_only : {A B : Type 0} (f : A → B) (xs : List A) (x : A) (y : B) → ShowsOnly f xs x y → IsNewKey x xs → IsNewKey y (map f xs)
new_shown_only f xs x y only new k e = shown_at f xs k y ⊥ e (λ z held same. new k (held ∙ ap Some (only k z held same)))

pub found_shown_only : {A B : Type 0} (f : A → B) (xs : List A) (x : A) (y : B) (at : ℕ) → ShowsOnly f xs x y → f x ≡ y → IsFound xs x at → IsFound (map f xs) y at
found_shown_only f xs x y at only is (inl (none, absent)) = inl (none, new_shown_only f xs x y only absent)
found_shown_only f xs x y at only is (inr held) = inr (shown f xs at x y held is)

-- two ways to show keys that show these alike
abbrev pub ShowAlike : {A B : Type 0} → (A → B) → (A → B) → List A → Type 0
ShowAlike {A} f g xs = (k : ℕ) (z : A) → slice_get xs k ≡ Some z → g z ≡ f z

pub shown_alike : {A B : Type 0} (f g : A → B) (xs : List A) → ShowAlike f g xs → map g xs ≡ map f xs
shown_alike f g [] same = refl
shown_alike f g (x ∷ xs) same = ap (λ y. y ∷ map g xs) (same 0 x refl) ∙ ap (λ ys. f x ∷ ys) (shown_alike f g xs (λ k z e. same (suc k) z e))

pub gives_shown : {A B : Type 0} (f g : A → B) (xs : List A) (x : A) (y : B) (at : ℕ) (more : List A) → ShowAlike f g xs → ShowsOnly g xs x y → g x ≡ y → GivesNumber xs x at more → GivesNumber (map f xs) y at (map g more)
gives_shown {B} f g xs x y at more alike only is (inl (held, same)) =
    inl (subst (λ (ys : List B). slice_get ys at ≡ Some y) (shown_alike f g xs alike) (shown g xs at x y held is), ap (map g) same ∙ shown_alike f g xs alike)
gives_shown {B} f g xs x y at more alike only is (inr (absent, last, more_is)) =
    inr (
      subst (λ (ys : List B). IsNewKey y ys) (shown_alike f g xs alike) (new_shown_only g xs x y only absent),
      last ∙ sym (length-map xs f),
      ap (map g) more_is ∙ map-append g xs (x ∷ []) ∙ ap (λ ys. ys ++ g x ∷ []) (shown_alike f g xs alike) ∙ ap (λ z. map f xs ++ z ∷ []) is,
    )

-- keys after one was numbered
pub gives_longer : {K : Type 0} (old : List K) (v : K) (at : ℕ) (new : List K) → GivesNumber old v at new → length old ≤ length new
gives_longer {K} old v at new (inl (held, same)) = let e = ap (λ (x : List K). length x) same in omega (arith, e)
gives_longer {K} old v at new (inr (absent, next, last)) = let e = ap (λ (x : List K). length x) last in let l = length-append old (v ∷ []) in omega (arith, e, l)

pub gives_short : {K : Type 0} (old : List K) (v : K) (at : ℕ) (new : List K) → length old ≤ no_number → at < no_number → GivesNumber old v at new → length new ≤ no_number
gives_short {K} old v at new short low (inl (held, same)) = let e = ap (λ (x : List K). length x) same in omega (arith, e, short)
gives_short {K} old v at new short low (inr (absent, next, last)) = let e = ap (λ (x : List K). length x) last in let l = length-append old (v ∷ []) in omega (arith, e, l, low, next)

pub gives_once : {K : Type 0} (old : List K) (v : K) (at : ℕ) (new : List K) → GivesNumber old v at new → HasKeysEachOnce old → HasKeysEachOnce new
gives_once old v at new (inl (held, same)) once = subst HasKeysEachOnce (sym same) once
gives_once old v at new (inr (absent, next, last)) once = subst HasKeysEachOnce (sym last) (once_push old v once absent)

slice_last : {K : Type 0} (xs : List K) (v : K) → slice_get (xs ++ v ∷ []) (length xs) ≡ Some v
slice_last [] v = refl
slice_last (x ∷ xs) v = slice_last xs v

pub gives_held : {K : Type 0} (old : List K) (v : K) (at : ℕ) (new : List K) → GivesNumber old v at new → slice_get new at ≡ Some v
gives_held {K} old v at new (inl (held, same)) = subst (λ (keys : List K). slice_get keys at ≡ Some v) (sym same) held
gives_held {K} old v at new (inr (absent, next, last)) = subst (λ (keys : List K). slice_get keys at ≡ Some v) (sym last) (ap (slice_get (old ++ v ∷ [])) next ∙ slice_last old v)

-- what holds of all keys and of the one that gets a number, holds of all then
pub gives_each : {K : Type 0} (old : List K) (v : K) (at : ℕ) (new : List K) → GivesNumber old v at new → (P : K → Type 0) → ((k : ℕ) (w : K) → slice_get old k ≡ Some w → P w) → P v → (k : ℕ) (w : K) → slice_get new k ≡ Some w → P w
gives_each {K} old v at new (inl (held, same)) P all last k w e = all k w (subst (λ (ks : List K). slice_get ks k ≡ Some w) same e)
gives_each {K} old v at new (inr (absent, next, is)) P all last k w e = last_or_before old v w k (P w) (subst (λ (ks : List K). slice_get ks k ≡ Some w) is e) (λ before. all k w before) (λ here same. subst P same last)
