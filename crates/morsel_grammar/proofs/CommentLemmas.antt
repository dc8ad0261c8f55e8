-- A comment runs from its prefix to the next eol byte.
use Rattle.std.proofs.Common.{◌≡◌, ℕ, ap, sym, subst, refl, ◌∙◌, inl, inr}
use Rattle.std.specs.Prelude.{Bool, true, false, ◌==◌, if◌then◌else◌, Option, Some, None, List, [], ◌∷◌, ◌++◌}
use Rattle.morsel_grammar.specs.Dialect.{Dialect, IsWithout, IsCommentFor}
use Rattle.morsel_grammar.specs.Grammar.{IsLineEnd}
use Rattle.morsel_grammar.specs.Split.{line_at, behind_front, comment_body}
use Rattle.morsel_grammar.proofs.ByteLemmas.{byte_itself, same_byte, other_byte, bytes_differ}

pub line_at-written : (o : Dialect) (body end rest : List ℕ) → IsWithout o.eol body → IsLineEnd o end rest → line_at o.eol (body ++ end) ≡ (body, rest)
line_at-written o [] end rest without (inl is) = ap (line_at o.eol) is ∙ rw (byte_itself o.eol) refl
line_at-written o [] end rest without (inr is) = ap (line_at o.eol) is.0 ∙ ap (λ (x : List ℕ). let found : List ℕ × List ℕ = ([], x) in found) (sym is.1)
line_at-written o (b ∷ body) end rest without line =
    ap (λ t. if t then ([], body ++ end) else (b ∷ (line_at o.eol (body ++ end)).0, (line_at o.eol (body ++ end)).1)) (other_byte b o.eol without.0)
    ∙ ap (λ (found : List ℕ × List ℕ). let more : List ℕ × List ℕ = (b ∷ found.0, found.1) in more) (line_at-written o body end rest without.1 line)

-- the text is a body without eol, and an end
pub record IsLineText (o : Dialect) (text : List ℕ) (found : List ℕ × List ℕ) : Type 0 where
  pub end : List ℕ
  pub is : text ≡ found.0 ++ end
  pub no_eol : IsWithout o.eol found.0
  pub line : IsLineEnd o end found.1

read_byte : (o : Dialect) (b : ℕ) (bs : List ℕ) (found : List ℕ × List ℕ) (t : Bool) → (b == o.eol) ≡ t → IsLineText o bs found
    → IsLineText o (b ∷ bs) (if t then ([], bs) else (b ∷ found.0, found.1))
read_byte o b bs found true is later = record { end = b ∷ bs; is = refl; no_eol = tt; line = inl (ap (λ (x : ℕ). x ∷ bs) (same_byte b o.eol is)) }
read_byte o b bs found false other later = record {
  end = later.end;
  is = ap (λ (x : List ℕ). b ∷ x) later.is;
  no_eol = (bytes_differ b o.eol other, later.no_eol);
  line = later.line;
}

pub line_at-read : (o : Dialect) (text : List ℕ) → IsLineText o text (line_at o.eol text)
line_at-read o [] = record { end = []; is = refl; no_eol = tt; line = inr (refl, refl) }
line_at-read o (b ∷ bs) = read_byte o b bs (line_at o.eol bs) (b == o.eol) refl (line_at-read o bs)

-- a front
pub behind_front-written : (front body : List ℕ) → behind_front front (front ++ body) ≡ Some body
behind_front-written [] body = refl
behind_front-written (p ∷ front) body = rw (byte_itself p) (behind_front-written front body)

-- the text is the front, and what is found
abbrev pub IsBehind : List ℕ → List ℕ → Option (List ℕ) → Type 0
IsBehind front text None = Unit {0}
IsBehind front text (Some body) = text ≡ front ++ body

behind_byte : (p b : ℕ) (front text : List ℕ) (found : Option (List ℕ)) (t : Bool) → (p == b) ≡ t → IsBehind front text found
    → IsBehind (p ∷ front) (b ∷ text) (if t then found else None)
behind_byte p b front text None true is later = tt
behind_byte p b front text (Some body) true is later = ap (λ (x : ℕ). x ∷ text) (sym (same_byte p b is)) ∙ ap (λ (x : List ℕ). p ∷ x) later
behind_byte p b front text found false is later = tt

pub behind_front-read : (front text : List ℕ) → IsBehind front text (behind_front front text)
behind_front-read [] text = refl
behind_front-read (p ∷ front) [] = tt
behind_front-read (p ∷ front) (b ∷ text) = behind_byte p b front text (behind_front front text) (p == b) refl (behind_front-read front text)

-- what is found after a comment's prefix
abbrev pub IsBodyText : Option (List ℕ) → List ℕ → Option (List ℕ) → Type 0
IsBodyText prefix text None = (front body : List ℕ) → prefix ≡ Some front → text ≡ front ++ body → ⊥
IsBodyText prefix text (Some body) = (front : List ℕ) × (prefix ≡ Some front) × (text ≡ front ++ body)

body_read : (front text : List ℕ) (found : Option (List ℕ)) → behind_front front text ≡ found → IsBodyText (Some front) text found
body_read front text None is = λ other body asked begins.
    let same : front ≡ other = cc in
    let all : behind_front front text ≡ Some body = ap (behind_front front) (begins ∙ ap (λ (x : List ℕ). x ++ body) (sym same)) ∙ behind_front-written front body in
    cc
body_read front text (Some body) is =
    let P : Option (List ℕ) → Type 0 = λ found. IsBehind front text found in
    (front, refl, subst P is (behind_front-read front text))

pub comment_body-read : (prefix : Option (List ℕ)) (text : List ℕ) → IsBodyText prefix text (comment_body prefix text)
comment_body-read None text = λ front body asked begins. cc
comment_body-read (Some front) text = body_read front text (behind_front front text) refl

pub comment_body-written : (prefix : Option (List ℕ)) (front text body : List ℕ) → prefix ≡ Some front → text ≡ front ++ body → comment_body prefix text ≡ Some body
comment_body-written prefix front text body asked is =
    ap (λ p. comment_body p text) asked ∙ ap (behind_front front) is ∙ behind_front-written front body

-- a prefix has no eol byte, and at least one byte
pub prefix_without_eol : (eol : ℕ) (prefix : Option (List ℕ)) (front : List ℕ) → IsCommentFor eol prefix → prefix ≡ Some front → IsWithout eol front
prefix_without_eol eol None front fit asked = cc
prefix_without_eol eol (Some []) front fit asked = absurd fit
prefix_without_eol eol (Some (b ∷ bs)) front fit asked =
    let same : b ∷ bs ≡ front = cc in
    let P : List ℕ → Type 0 = λ x. IsWithout eol x in subst P same fit.1

-- a front of a text that has no eol ends before the first eol
pub front_before : (eol : ℕ) (front body bytes rest : List ℕ) → IsWithout eol front → bytes ++ eol ∷ rest ≡ front ++ body
    → (more : List ℕ) × (bytes ≡ front ++ more)
front_before eol [] body bytes rest without is = (bytes, refl)
front_before eol (p ∷ front) body [] rest without is = let same : p ≡ eol = cc in absurd (without.0 same)
front_before eol (p ∷ front) body (b ∷ bytes) rest without is =
    let first : b ≡ p = cc in
    let later : bytes ++ eol ∷ rest ≡ front ++ body = cc in
    let found = front_before eol front body bytes rest without.1 later in
    (found.0, ap (λ (x : ℕ). x ∷ bytes) first ∙ ap (λ (x : List ℕ). p ∷ x) found.1)
