-- Tests of two bytes.
use Rattle.std.proofs.Common.{◌≡◌, ◌≢◌, ℕ, refl, inl, inr}
use Rattle.std.proofs.lemmas.Bool.{eq-eqb}
use Rattle.std.proofs.lemmas.Bool.Decides.{Decides-eqb}
use Rattle.std.specs.Prelude.{Bool, true, false, ◌==◌, ◌||◌, ◌⊎◌}

-- what one fact says, the other contradicts
pub true_not_false : {A : Type 0} (t : Bool) → t ≡ true → t ≡ false → A
true_not_false t held failed = cc

pub byte_itself : (q : ℕ) → (q == q) ≡ true
byte_itself q = eq-eqb q q refl

pub same_byte : (a b : ℕ) → (a == b) ≡ true → a ≡ b
same_byte a b is = (Decides-eqb a b).0 is

not_true : (t : Bool) → (t ≡ true → ⊥) → t ≡ false
not_true true never = absurd (never refl)
not_true false never = refl

pub other_byte : (a b : ℕ) → a ≢ b → (a == b) ≡ false
other_byte a b other = not_true (a == b) (λ is. other (same_byte a b is))

pub bytes_differ : (a b : ℕ) → (a == b) ≡ false → a ≢ b
bytes_differ a b failed = λ e. true_not_false (a == b) (eq-eqb a b e) failed

pub neither : (s t : Bool) → s ≡ false → t ≡ false → (s || t) ≡ false
neither s t no_s no_t = rw (no_s, no_t) refl

pub either_first : (s t : Bool) → s ≡ true → (s || t) ≡ true
either_first s t held = rw held refl

pub either_second : (s t : Bool) → t ≡ true → (s || t) ≡ true
either_second true t held = refl
either_second false t held = held

pub one_of : (s t : Bool) → (s || t) ≡ true → (s ≡ true) ⊎ (t ≡ true)
one_of true t is = inl refl
one_of false t is = inr is

pub none_of : (s t : Bool) → (s || t) ≡ false → (s ≡ false) × (t ≡ false)
none_of true t failed = true_not_false true refl failed
none_of false t failed = (refl, failed)
