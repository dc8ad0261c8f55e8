-- Which bits a state word has, and what becomes of it when an end asks to be woken.
use Rattle.std.proofs.Common.{◌≡◌, ◌⊎◌, ℕ, zero, suc, Bool, true, false, eqb, ne_eqb, sym, subst, refl, inl, inr, ⊎_elim, arith}
use Rattle.std.specs.Prelude.{if◌then◌else◌, ◌==◌}
use prog.Atomic.{either}
use Rattle.morsel_words.specs.Lane.{state_word, has_bit, IsWaitWord}

abbrev pub HasBits : ℕ → Bool → Bool → Bool → Bool → Type 0
HasBits n full closed waiting whole = (full ≡ has_bit n 1) × (closed ≡ has_bit n 2) × (waiting ≡ has_bit n 4) × (whole ≡ has_bit n 8)

bits_of : (full closed waiting whole : Bool) → HasBits (state_word full closed waiting whole) full closed waiting whole
bits_of true true true true = (refl, refl, refl, refl)
bits_of true true true false = (refl, refl, refl, refl)
bits_of true true false true = (refl, refl, refl, refl)
bits_of true true false false = (refl, refl, refl, refl)
bits_of true false true true = (refl, refl, refl, refl)
bits_of true false true false = (refl, refl, refl, refl)
bits_of true false false true = (refl, refl, refl, refl)
bits_of true false false false = (refl, refl, refl, refl)
bits_of false true true true = (refl, refl, refl, refl)
bits_of false true true false = (refl, refl, refl, refl)
bits_of false true false true = (refl, refl, refl, refl)
bits_of false true false false = (refl, refl, refl, refl)
bits_of false false true true = (refl, refl, refl, refl)
bits_of false false true false = (refl, refl, refl, refl)
bits_of false false false true = (refl, refl, refl, refl)
bits_of false false false false = (refl, refl, refl, refl)

-- the bits of a word that is a state
pub bits_at : (n : ℕ) (full closed waiting whole : Bool) → n ≡ state_word full closed waiting whole → HasBits n full closed waiting whole
bits_at n full closed waiting whole e = subst (λ z. HasBits z full closed waiting whole) (sym e) (bits_of full closed waiting whole)

-- the bit waiting, once a sender has asked to be woken at a full lane that is open
abbrev pub waits_after : Bool → Bool → Bool → Bool → Bool
waits_after true false false false = true
waits_after full closed waiting whole = waiting

pub word_after : (full closed waiting whole : Bool) → let n = state_word full closed waiting whole in either (eqb n 1) 5 n ≡ state_word full closed (waits_after full closed waiting whole) whole
word_after true true true true = refl
word_after true true true false = refl
word_after true true false true = refl
word_after true true false false = refl
word_after true false true true = refl
word_after true false true false = refl
word_after true false false true = refl
word_after true false false false = refl
word_after false true true true = refl
word_after false true true false = refl
word_after false true false true = refl
word_after false true false false = refl
word_after false false true true = refl
word_after false false true false = refl
word_after false false false true = refl
word_after false false false false = refl

-- the same, once a receiver has asked to be woken at an empty lane that is open
abbrev pub awaits_after : Bool → Bool → Bool → Bool → Bool
awaits_after false false false false = true
awaits_after full closed waiting whole = waiting

pub word_awaits : (full closed waiting whole : Bool) → let n = state_word full closed waiting whole in either (eqb n 0) 4 n ≡ state_word full closed (awaits_after full closed waiting whole) whole
word_awaits true true true true = refl
word_awaits true true true false = refl
word_awaits true true false true = refl
word_awaits true true false false = refl
word_awaits true false true true = refl
word_awaits true false true false = refl
word_awaits true false false true = refl
word_awaits true false false false = refl
word_awaits false true true true = refl
word_awaits false true true false = refl
word_awaits false true false true = refl
word_awaits false true false false = refl
word_awaits false false true true = refl
word_awaits false false true false = refl
word_awaits false false false true = refl
word_awaits false false false false = refl

-- the number that was in a wait word is taken
pub number_taken : (n waits took : ℕ) → IsWaitWord n waits took → IsWaitWord 0 waits (if n == 0 then took else n)
number_taken zero waits took w = (omega arith, ⊎_elim (λ e. inl e) (λ t. inr (refl, t.1)) w.1)
number_taken (suc n) waits took w = (omega arith, subst (λ b. let z : ℕ = 0 in (z ≡ waits) ⊎ ((z ≡ 0) × ((if b then took else suc n) ≡ waits))) (sym (ne_eqb (suc n) 0 (λ e. omega arith))) (⊎_elim (λ e. inr (refl, e)) (λ t. absurd (let h = t.0 in omega arith)) w.1))
