-- A quoted field runs to the next quote that is not doubled.
use Rattle.std.proofs.Common.{◌≡◌, ℕ, ap, sym, subst, refl, ◌∙◌}
use Rattle.std.specs.Prelude.{Bool, true, false, ◌==◌, if◌then◌else◌, Option, Some, None, List, [], ◌∷◌, ◌++◌}
use Rattle.morsel_grammar.specs.Grammar.{doubled}
use Rattle.morsel_grammar.specs.Split.{quoted_at, with_byte}
use Rattle.morsel_grammar.specs.Split.{begins}
use Rattle.morsel_grammar.proofs.ByteLemmas.{byte_itself, same_byte}

-- a quote that none follows closes
closes : (q : ℕ) (after : List ℕ) → begins q after ≡ false → quoted_at q (q ∷ after) ≡ Some ([], after)
closes q [] lone = rw (byte_itself q) refl
closes q (c ∷ after) lone = rw (byte_itself q, lone) refl

pub other_goes_on : (q b : ℕ) (bs : List ℕ) → (b == q) ≡ false → quoted_at q (b ∷ bs) ≡ with_byte b (quoted_at q bs)
other_goes_on q b [] other = rw other
other_goes_on q b (c ∷ bs) other = rw other

pub twice_goes_on : (q b : ℕ) (bs : List ℕ) → (b == q) ≡ true → quoted_at q (b ∷ b ∷ bs) ≡ with_byte q (quoted_at q bs)
twice_goes_on q b bs is = rw is

-- a byte of the content
written_byte : (q b : ℕ) (bytes after : List ℕ) (t : Bool) → (b == q) ≡ t → quoted_at q (doubled q bytes ++ q ∷ after) ≡ Some (bytes, after)
    → quoted_at q ((if t then b ∷ b ∷ doubled q bytes else b ∷ doubled q bytes) ++ q ∷ after) ≡ Some (b ∷ bytes, after)
written_byte q b bytes after true is later = twice_goes_on q b (doubled q bytes ++ q ∷ after) is ∙ ap (with_byte q) later
    ∙ ap (λ (x : ℕ). let found : List ℕ × List ℕ = (x ∷ bytes, after) in Some found) (sym (same_byte b q is))
written_byte q b bytes after false other later = other_goes_on q b (doubled q bytes ++ q ∷ after) other ∙ ap (with_byte b) later

-- content that is written with each quote twice, and a lone quote after it, is read back
pub quoted_at-written : (q : ℕ) (bytes after : List ℕ) → begins q after ≡ false → quoted_at q (doubled q bytes ++ q ∷ after) ≡ Some (bytes, after)
quoted_at-written q [] after lone = closes q after lone
quoted_at-written q (b ∷ bytes) after lone = written_byte q b bytes after (b == q) refl (quoted_at-written q bytes after lone)

-- the text is this content with each quote twice, a quote, and a rest that does not begin with one
abbrev pub IsQuotedText : ℕ → List ℕ → Option (List ℕ × List ℕ) → Type 0
IsQuotedText q text None = Unit {0}
IsQuotedText q text (Some found) = (text ≡ doubled q found.0 ++ q ∷ found.1) × (begins q found.1 ≡ false)

read_last : (q b : ℕ) (t : Bool) → (b == q) ≡ t → IsQuotedText q (b ∷ []) (if t then Some ([], []) else None)
read_last q b true is = (ap (λ (x : ℕ). x ∷ []) (same_byte b q is), refl)
read_last q b false other = tt

read_twice : (q : ℕ) (bs : List ℕ) (found : Option (List ℕ × List ℕ)) → IsQuotedText q bs found → IsQuotedText q (q ∷ q ∷ bs) (with_byte q found)
read_twice q bs None later = tt
read_twice q bs (Some found) later = (rw (byte_itself q) (ap (λ (x : List ℕ). q ∷ q ∷ x) later.0), later.1)

read_other : (q b : ℕ) (bs : List ℕ) (found : Option (List ℕ × List ℕ)) → (b == q) ≡ false → IsQuotedText q bs found → IsQuotedText q (b ∷ bs) (with_byte b found)
read_other q b bs None other later = tt
read_other q b bs (Some found) other later = (rw other (ap (λ (x : List ℕ). b ∷ x) later.0), later.1)

read_two : (q b c : ℕ) (bs : List ℕ) (behind next : Option (List ℕ × List ℕ)) (t u : Bool) → (b == q) ≡ t → (c == q) ≡ u
    → IsQuotedText q bs behind → IsQuotedText q (c ∷ bs) next
    → IsQuotedText q (b ∷ c ∷ bs) (if t then (if u then with_byte q behind else Some ([], c ∷ bs)) else with_byte b next)
read_two q b c bs behind next true true b_is c_is later other =
    let same : q ∷ q ∷ bs ≡ b ∷ c ∷ bs = ap (λ (x : ℕ). x ∷ q ∷ bs) (sym (same_byte b q b_is)) ∙ ap (λ (x : ℕ). b ∷ x ∷ bs) (sym (same_byte c q c_is)) in
    let P : List ℕ → Type 0 = λ text. IsQuotedText q text (with_byte q behind) in
    subst P same (read_twice q bs behind later)
read_two q b c bs behind next true false b_is c_is later other = (ap (λ (x : ℕ). x ∷ c ∷ bs) (same_byte b q b_is), c_is)
read_two q b c bs behind next false u b_is c_is later other = read_other q b (c ∷ bs) next b_is other

-- what is read after an opening quote is written so
pub quoted_at-read : (q : ℕ) (text : List ℕ) → IsQuotedText q text (quoted_at q text)
quoted_at-read q [] = tt
quoted_at-read q (b ∷ []) = read_last q b (b == q) refl
quoted_at-read q (b ∷ c ∷ bs) = read_two q b c bs (quoted_at q bs) (quoted_at q (c ∷ bs)) (b == q) (c == q) refl refl
    (quoted_at-read q bs) (quoted_at-read q (c ∷ bs))
