-- A text cut at the first byte of a kind.
use Rattle.std.specs.Prelude.{◌≡◌, ℕ, zero, suc, ◌+◌, ◌<◌, Bool, true, false, ◌==◌, Option, Some, None, List, [], ◌∷◌, length, take, drop, get_or, MatchOption, refl}
use Rattle.memchr.specs.Find.{IsFirstByte, is_byte}
use Rattle.std.proofs.Common.{ap, ◌∙◌, arith, add-one}
use Rattle.morsel_prog.specs.Words.{cut_at, parts_at, before_next}

-- the part before a cut, and the parts after it
abbrev pub parts_of : (List ℕ → List (List ℕ)) → List ℕ × Option (List ℕ) → List (List ℕ)
parts_of parts cut = behind cut.0 cut.1
  where
    behind : List ℕ → Option (List ℕ) → List (List ℕ)
    behind front None = front ∷ []
    behind front (Some rest) = front ∷ parts rest

cut_none-step : (byte b : ℕ) (bs : List ℕ) (t : Bool) → (b == byte) ≡ t → (t ≡ true → ⊥) → cut_at byte bs ≡ (bs, None) → cut_at byte (b ∷ bs) ≡ (b ∷ bs, None)
cut_none-step byte b bs true e not_here later = absurd (not_here refl)
cut_none-step byte b bs false e not_here later = rw (e, later) refl

-- no such byte
pub cut_at-none : (byte : ℕ) (text : List ℕ) → ((k : ℕ) → k < length text → (get_or text k 0 == byte) ≡ true → ⊥) → cut_at byte text ≡ (text, None)
cut_at-none byte [] nowhere = refl
cut_at-none byte (b ∷ bs) nowhere = cut_none-step byte b bs (b == byte) refl (nowhere 0 (omega arith))
    (cut_at-none byte bs (λ k within h. nowhere (suc k) (omega arith) h))

cut_some-step : (byte b at : ℕ) (bs : List ℕ) (t : Bool) → (b == byte) ≡ t → (t ≡ true → ⊥) → cut_at byte bs ≡ (take at bs, Some (drop (suc at) bs)) → cut_at byte (b ∷ bs) ≡ (b ∷ take at bs, Some (drop (suc at) bs))
cut_some-step byte b at bs true e not_here later = absurd (not_here refl)
cut_some-step byte b at bs false e not_here later = rw (e, later) refl

-- the first such byte is at a place
pub cut_at-some : (byte : ℕ) (text : List ℕ) (at : ℕ) → at < length text → ((k : ℕ) → k < at → (get_or text k 0 == byte) ≡ true → ⊥) → (get_or text at 0 == byte) ≡ true → cut_at byte text ≡ (take at text, Some (drop (suc at) text))
cut_at-some byte [] at within before here = absurd (omega arith)
cut_at-some byte (b ∷ bs) zero within before here = rw here refl
cut_at-some byte (b ∷ bs) (suc at) within before here = cut_some-step byte b at bs (b == byte) refl (before 0 (omega arith))
    (cut_at-some byte bs at (omega arith) (λ k lower h. before (suc k) (omega arith) h) here)

-- what a search for the byte found
pub cut_at-first : (byte : ℕ) (text : List ℕ) (found : Option ℕ) → IsFirstByte (is_byte byte) text found
    → MatchOption found (cut_at byte text ≡ (text, None)) (λ at. cut_at byte text ≡ (take at text, Some (drop (at + 1) text)))
cut_at-first byte text None h = cut_at-none byte text (λ k within e. h k (omega arith) within e)
cut_at-first byte text (Some at) h = rw add-one (cut_at-some byte text at h.0.high (λ k lower e. h.0.before k (omega arith) lower e) h.1)

-- the parts of a text that is cut
pub parts_at-cut_at : (byte : ℕ) (text : List ℕ) → parts_of (parts_at byte) (cut_at byte text) ≡ parts_at byte text
parts_at-cut_at byte [] = refl
parts_at-cut_at byte (b ∷ bs) = step byte b bs (b == byte) refl (parts_at-cut_at byte bs)
  where
    before-cut : (byte b : ℕ) (found : List ℕ × Option (List ℕ)) → parts_of (parts_at byte) (b ∷ found.0, found.1) ≡ before_next b (parts_of (parts_at byte) found)
    before-cut byte b (front, None) = refl
    before-cut byte b (front, Some rest) = refl

    step : (byte b : ℕ) (bs : List ℕ) (t : Bool) → (b == byte) ≡ t → parts_of (parts_at byte) (cut_at byte bs) ≡ parts_at byte bs → parts_of (parts_at byte) (cut_at byte (b ∷ bs)) ≡ parts_at byte (b ∷ bs)
    step byte b bs true e later = rw e refl
    step byte b bs false e later = rw e (before-cut byte b (cut_at byte bs) ∙ ap (before_next b) later)
