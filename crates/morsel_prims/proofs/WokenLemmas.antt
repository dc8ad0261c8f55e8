-- Numbers that are listed, and the flags that tell of them.
use Rattle.std.proofs.Common.{◌≡◌, ◌≢◌, ℕ, zero, suc, ◌+◌, ◌<◌, ◌≤◌, ◌==◌, if◌then◌else◌, Bool, true, false, List, [], ◌∷◌, ◌++◌, length, length-set, length-append, set, slice_index_or, sym, refl, ap, ◌∙◌, subst, arith, get_or-set_same, get_or-set_other}
use mathlib.Core.Logic.{dite}
use native.Mathlib.Decide.{ℕ_discrete}
use Rattle.morsel_prims.specs.Woken.{Woken, has_number, IsEachOnce, count_listed, IsListed, KeepsWakes, with_woken}

same_number : (n : ℕ) → (n == n) ≡ true
same_number n = Rattle.std.proofs.Common.eq-eqb n n refl

other_number : (m n : ℕ) → m ≢ n → (m == n) ≡ false
other_number m n apart = Rattle.std.proofs.Common.ne_eqb m n apart

-- the last number is listed
pub has-last : (ns : List ℕ) (n : ℕ) → has_number (ns ++ n ∷ []) n ≡ true
has-last [] n = ap (λ b. if b then true else false) (same_number n)
has-last (m ∷ ms) n = dite (ℕ_discrete m n)
    (λ e. ap (λ b. if b then true else has_number (ms ++ n ∷ []) n) (Rattle.std.proofs.Common.eq-eqb m n e))
    (λ apart. ap (λ b. if b then true else has_number (ms ++ n ∷ []) n) (other_number m n apart) ∙ has-last ms n)

-- the last number says nothing of others
pub has-others : (ns : List ℕ) (n m : ℕ) → n ≢ m → has_number (ns ++ n ∷ []) m ≡ has_number ns m
has-others [] n m apart = ap (λ b. if b then true else false) (other_number n m apart)
has-others (k ∷ ks) n m apart = ap (λ z. if k == m then true else z) (has-others ks n m apart)

-- what was listed still is
pub has-kept : (ns : List ℕ) (n m : ℕ) → has_number ns m ≡ true → has_number (ns ++ n ∷ []) m ≡ true
has-kept ns n m had = dite (ℕ_discrete n m)
    (λ e. subst (λ z. has_number (ns ++ n ∷ []) z ≡ true) e (has-last ns n))
    (λ apart. has-others ns n m apart ∙ had)

-- a number that is not there can be put last
pub once-last : (ns : List ℕ) (n : ℕ) → has_number ns n ≡ false → IsEachOnce ns → IsEachOnce (ns ++ n ∷ [])
once-last [] n fresh once = (refl, tt)
once-last (m ∷ ms) n fresh once = dite (ℕ_discrete m n)
    (λ e. absurd (true-ne-false (sym (ap (λ b. if b then true else has_number ms n) (Rattle.std.proofs.Common.eq-eqb m n e)) ∙ fresh)))
    (λ apart. (has-others ms n m (λ e. apart (sym e)) ∙ once.0, once-last ms n (sym (ap (λ b. if b then true else has_number ms n) (other_number m n apart)) ∙ fresh) once.1))
  where
    true-ne-false : true ≡ false → ⊥
    true-ne-false e = cc

-- without the last number, which is then not there
pub once-front : (ns : List ℕ) (n : ℕ) → IsEachOnce (ns ++ n ∷ []) → (has_number ns n ≡ false) × IsEachOnce ns
once-front [] n once = (refl, tt)
once-front (m ∷ ms) n once =
    let rest = once-front ms n once.1 in let apart : m ≢ n = λ e. true-ne-false (sym (subst (λ z. has_number (ms ++ n ∷ []) z ≡ true) (sym e) (has-last ms n)) ∙ once.0) in
    (ap (λ b. if b then true else has_number ms n) (other_number m n apart) ∙ rest.0, (sym (has-others ms n m (λ e. apart (sym e))) ∙ once.0, rest.1))
  where
    true-ne-false : true ≡ false → ⊥
    true-ne-false e = cc

-- one more
pub count-set : (bs : List Bool) (i : ℕ) → i < length bs → slice_index_or bs i false ≡ false → count_listed (set bs i true) ≡ count_listed bs + 1
count-set [] i within off = omega arith
count-set (false ∷ bs) zero within off = refl
count-set (true ∷ bs) zero within off = absurd cc
count-set (false ∷ bs) (suc i) within off = count-set bs i (omega arith) off
count-set (true ∷ bs) (suc i) within off = ap (λ n. n + 1) (count-set bs i (omega arith) off)

-- one fewer
pub count-unset : (bs : List Bool) (i : ℕ) → i < length bs → slice_index_or bs i false ≡ true → count_listed bs ≡ count_listed (set bs i false) + 1
count-unset [] i within on = omega arith
count-unset (false ∷ bs) zero within on = absurd cc
count-unset (true ∷ bs) zero within on = refl
count-unset (false ∷ bs) (suc i) within on = count-unset bs i (omega arith) on
count-unset (true ∷ bs) (suc i) within on = ap (λ n. n + 1) (count-unset bs i (omega arith) on)

-- where one is false, there are fewer than places
pub count-within : (bs : List Bool) → count_listed bs ≤ length bs
count-within [] = omega arith
count-within (false ∷ bs) = let r = count-within bs in omega arith
count-within (true ∷ bs) = let r = count-within bs in omega arith

pub count_below : (bs : List Bool) (i : ℕ) → i < length bs → slice_index_or bs i false ≡ false → count_listed bs < length bs
count_below bs i within off = let more = count-set bs i within off in let all = count-within (set bs i true) in let same = length-set bs i true in omega arith

-- a number is put last
pub listed_push : (ns : List ℕ) (bs : List Bool) (n : ℕ) → IsListed ns bs → n < length bs → slice_index_or bs n false ≡ false → IsListed (ns ++ n ∷ []) (set bs n true)
listed_push ns bs n l within off = record {
  flags = λ m. dite (ℕ_discrete m n)
      (λ e. subst (λ z. slice_index_or (set bs n true) z false ≡ has_number (ns ++ n ∷ []) z) (sym e) (get_or-set_same bs n true false within ∙ sym (has-last ns n)))
      (λ apart. get_or-set_other bs n m true false apart ∙ (l.flags m ∙ sym (has-others ns n m (λ e. apart (sym e)))));
  once = once-last ns n (sym (l.flags n) ∙ off) l.once;
  count = count-set bs n within off ∙ (ap (λ k. k + 1) l.count ∙ sym (length-append ns (n ∷ [])));
}

-- the last number is taken away
pub listed_pop : (ns : List ℕ) (bs : List Bool) (n : ℕ) → IsListed (ns ++ n ∷ []) bs → n < length bs → IsListed ns (set bs n false)
listed_pop ns bs n l within =
    let front = once-front ns n l.once in let on : slice_index_or bs n false ≡ true = l.flags n ∙ has-last ns n in record {
      flags = λ m. dite (ℕ_discrete m n)
          (λ e. subst (λ z. slice_index_or (set bs n false) z false ≡ has_number ns z) (sym e) (get_or-set_same bs n false false within ∙ sym front.0))
          (λ apart. get_or-set_other bs n m false false apart ∙ (l.flags m ∙ has-others ns n m (λ e. apart (sym e))));
      once = front.1;
      count = let fewer = count-unset bs n within on in let before = l.count in let longer = length-append ns (n ∷ []) in omega arith;
    }

-- a listed number has a flag
pub listed_within : (ns : List ℕ) (bs : List Bool) (n : ℕ) → IsListed (ns ++ n ∷ []) bs → n < length bs
listed_within ns bs n l = true_within bs n (l.flags n ∙ has-last ns n)
  where
    true_within : (bs : List Bool) (i : ℕ) → slice_index_or bs i false ≡ true → i < length bs
    true_within [] i on = absurd cc
    true_within (b ∷ bs) zero on = omega arith
    true_within (b ∷ bs) (suc i) on = let rest = true_within bs i on in omega arith

-- no number is listed
pub listed_none : (k : ℕ) → IsListed [] (Rattle.std.specs.Prelude.replicate k false)
listed_none k = record {
  flags = λ n. none k n;
  once = tt;
  count = zero_of k;
}
  where
    none : (k n : ℕ) → slice_index_or (Rattle.std.specs.Prelude.replicate k false) n false ≡ false
    none zero n = refl
    none (suc k) zero = refl
    none (suc k) (suc n) = none k n

    zero_of : (k : ℕ) → count_listed (Rattle.std.specs.Prelude.replicate k false) ≡ 0
    zero_of zero = refl
    zero_of (suc k) = zero_of k

-- a task that is put last is there, and no other is lost
pub keeps_with : (w new : Woken) (n : ℕ) → new ≡ with_woken w n → (has_number new.numbers n ≡ true) × KeepsWakes w new
keeps_with w new n is = go (has_number w.numbers n) refl
  where
    more : Woken
    more = record { numbers = w.numbers ++ n ∷ []; bound = w.bound }

    Goal : Woken → Type 0
    Goal z = (has_number z.numbers n ≡ true) × KeepsWakes w z

    go : (b : Bool) → has_number w.numbers n ≡ b → Goal new
    go true had = subst Goal (sym (is ∙ ap (λ b. if b then w else more) had)) (had, (refl, λ m was. was))
    go false fresh = subst Goal (sym (is ∙ ap (λ b. if b then w else more) fresh)) (has-last w.numbers n, (refl, λ m was. has-kept w.numbers n m was))
