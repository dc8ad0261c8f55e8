-- How splitting goes on from one byte to the next.
use Rattle.std.proofs.Common.{◌≡◌, ◌≢◌, ℕ, zero, suc, ◌+◌, ◌-◌, ◌<◌, ◌≤◌, ◌∙◌, sym, ap, refl, arith, Bool, true, false, ◌==◌, List, [], ◌∷◌, ◌++◌, length, take, drop, get_or, map, append_assoc}
use Rattle.std.proofs.lemmas.Bool.{eq-eqb}
use Rattle.std.proofs.lemmas.Bool.Decides.{Decides-eqb}
use Rattle.std.proofs.lemmas.List.{map_push}
use Rattle.std.specs.Prelude.{Option, Some, None}
use Rattle.morsel_grammar.specs.Dialect.{Dialect}
use Rattle.morsel_grammar.specs.Grammar.{CsvField, CsvRecord, Comment}
use Rattle.morsel_grammar.specs.Split.{stops, plain_at, with_byte, quoted_at, field_at, without_return, line_at, behind_front, with_field, fields_then, fields_up_to, comment_body, record_then_fields, record_at, begins}
use Rattle.morsel_text.specs.RawFields.{PassedTo, shown, next_of, with_front}
use Rattle.morsel_text.specs.declared.raw_field.RawField.{RawField}
use Rattle.morsel_text.specs.declared.parts.Next.{Next}

plain_first : (o : Dialect) (b : ℕ) (bs : List ℕ) → stops o b ≡ false → plain_at o (b ∷ bs) ≡ (b ∷ (plain_at o bs).0, (plain_at o bs).1)
plain_first o b bs goes = rw goes

plain_none : (o : Dialect) (b : ℕ) (bs : List ℕ) → stops o b ≡ true → plain_at o (b ∷ bs) ≡ ([], b ∷ bs)
plain_none o b bs ends = rw ends

passed_behind : (o : Dialect) (b : ℕ) (bs : List ℕ) (n : ℕ) → PassedTo o (b ∷ bs) (suc n) → PassedTo o bs n
passed_behind o b bs n passed = λ k below. passed (suc k) (omega arith)

-- an unquoted field ends at the first separator or eol
pub plain_stop : (o : Dialect) (text : List ℕ) (n : ℕ) → n < length text → PassedTo o text n → stops o (get_or text n 0) ≡ true → plain_at o text ≡ (take n text, drop n text)
plain_stop o [] n within passed ends = absurd (omega arith)
plain_stop o (b ∷ bs) zero within passed ends = plain_none o b bs ends
plain_stop o (b ∷ bs) (suc n) within passed ends =
    plain_first o b bs (passed 0 (omega arith))
    ∙ ap (λ (found : List ℕ × List ℕ). let r : List ℕ × List ℕ = (b ∷ found.0, found.1) in r) (plain_stop o bs n (omega arith) (passed_behind o b bs n passed) ends)

-- or at the end of the text
pub plain_all : (o : Dialect) (text : List ℕ) → PassedTo o text (length text) → plain_at o text ≡ (take (length text) text, drop (length text) text)
plain_all o [] passed = refl
plain_all o (b ∷ bs) passed =
    plain_first o b bs (passed 0 (omega arith))
    ∙ ap (λ (found : List ℕ × List ℕ). let r : List ℕ × List ℕ = (b ∷ found.0, found.1) in r) (plain_all o bs (passed_behind o b bs (length bs) passed))

-- after an opening quote
pub quoted_other : (q b : ℕ) (bs : List ℕ) → (b == q) ≡ false → quoted_at q (b ∷ bs) ≡ with_byte b (quoted_at q bs)
quoted_other q b [] other = rw other
quoted_other q b (c ∷ bs) other = rw other

byte_itself : (q : ℕ) → (q == q) ≡ true
byte_itself q = eq-eqb q q refl

pub not_true : (t : Bool) → (t ≡ true → ⊥) → t ≡ false
not_true true never = absurd (never refl)
not_true false never = refl

-- a quote that none follows closes
pub closed_by : (q b : ℕ) (after : List ℕ) → (b == q) ≡ true → begins q after ≡ false → quoted_at q (b ∷ after) ≡ Some ([], after)
closed_by q b [] is lone = rw is
closed_by q b (c ∷ bs) is lone = rw (is, lone)

pub quoted_twice : (q : ℕ) (bs : List ℕ) → quoted_at q (q ∷ q ∷ bs) ≡ with_byte q (quoted_at q bs)
quoted_twice q bs = rw (byte_itself q)

-- no place up to n has this byte
abbrev pub NoneTo : ℕ → List ℕ → ℕ → Type 0
NoneTo byte text n = (k : ℕ) → 0 ≤ k → k < n → (get_or text k 0 == byte) ≡ true → ⊥

none_behind : (byte b : ℕ) (bs : List ℕ) (n : ℕ) → NoneTo byte (b ∷ bs) (suc n) → NoneTo byte bs n
none_behind byte b bs n none = λ k low high is. none (suc k) (omega arith) (omega arith) is

none_first : (byte b : ℕ) (bs : List ℕ) (n : ℕ) → NoneTo byte (b ∷ bs) (suc n) → (b == byte) ≡ false
none_first byte b bs n none = not_true (b == byte) (λ is. none 0 (omega arith) (omega arith) is)

pub quoted_never : (q : ℕ) (text : List ℕ) → NoneTo q text (length text) → quoted_at q text ≡ None
quoted_never q [] none = refl
quoted_never q (b ∷ bs) none = quoted_other q b bs (none_first q b bs (length bs) none)
    ∙ ap (with_byte b) (quoted_never q bs (none_behind q b bs (length bs) none))

pub quoted_first : (q : ℕ) (text : List ℕ) (at : ℕ) → at < length text → NoneTo q text at → (get_or text at 0 == q) ≡ true
    → begins q (drop (suc at) text) ≡ false → quoted_at q text ≡ Some (take at text, drop (suc at) text)
quoted_first q [] at within none is lone = absurd (omega arith)
quoted_first q (b ∷ bs) zero within none is lone = closed_by q b bs is lone
quoted_first q (b ∷ bs) (suc at) within none is lone = quoted_other q b bs (none_first q b bs at none)
    ∙ ap (with_byte b) (quoted_first q bs at (omega arith) (none_behind q b bs at none) is lone)

line_other : (eol b : ℕ) (bs : List ℕ) → (b == eol) ≡ false → (line_at eol (b ∷ bs)).1 ≡ (line_at eol bs).1
line_other eol b bs other = rw other

line_ends : (eol b : ℕ) (bs : List ℕ) → (b == eol) ≡ true → (line_at eol (b ∷ bs)).1 ≡ bs
line_ends eol b bs is = rw is

pub line_never : (eol : ℕ) (text : List ℕ) → NoneTo eol text (length text) → (line_at eol text).1 ≡ []
line_never eol [] none = refl
line_never eol (b ∷ bs) none = line_other eol b bs (none_first eol b bs (length bs) none)
    ∙ line_never eol bs (none_behind eol b bs (length bs) none)

pub line_first : (eol : ℕ) (text : List ℕ) (at : ℕ) → at < length text → NoneTo eol text at → (get_or text at 0 == eol) ≡ true
    → (line_at eol text).1 ≡ drop (suc at) text
line_first eol [] at within none is = absurd (omega arith)
line_first eol (b ∷ bs) zero within none is = line_ends eol b bs is
line_first eol (b ∷ bs) (suc at) within none is = line_other eol b bs (none_first eol b bs at none)
    ∙ line_first eol bs at (omega arith) (none_behind eol b bs at none) is

-- a byte 13 at the end
pub without_return-keeps : (text : List ℕ) (i : ℕ) → length text ≡ suc i → get_or text i 0 ≢ 13 → without_return text ≡ text
without_return-keeps [] i size other = refl
without_return-keeps (b ∷ []) zero size other = rw (not_true (b == 13) (λ is. other ((Decides-eqb b 13).0 is)))
without_return-keeps (b ∷ []) (suc i) size other = absurd (omega arith)
without_return-keeps (b ∷ c ∷ bs) zero size other = absurd (omega arith)
without_return-keeps (b ∷ c ∷ bs) (suc i) size other = ap (λ (x : List ℕ). b ∷ x) (without_return-keeps (c ∷ bs) i (omega arith) other)

pub without_return-drops : (text : List ℕ) (i : ℕ) → length text ≡ suc i → get_or text i 0 ≡ 13 → without_return text ≡ take i text
without_return-drops [] i size is = absurd (omega arith)
without_return-drops (b ∷ []) zero size is = rw (eq-eqb b 13 is)
without_return-drops (b ∷ []) (suc i) size is = absurd (omega arith)
without_return-drops (b ∷ c ∷ bs) zero size is = absurd (omega arith)
without_return-drops (b ∷ c ∷ bs) (suc i) size is = ap (λ (x : List ℕ). b ∷ x) (without_return-drops (c ∷ bs) i (omega arith) is)

-- the same of a rest that code finds
pub quoted_lone : (q : ℕ) (text : List ℕ) (at next : ℕ) (rest : List ℕ) → next ≡ suc at → rest ≡ drop next text → at < length text → NoneTo q text at
    → (get_or text at 0 == q) ≡ true → begins q rest ≡ false → quoted_at q text ≡ Some (take at text, rest)
quoted_lone q text at next rest one_more rest_is within none is lone =
    let same : rest ≡ drop (suc at) text = rest_is ∙ ap (λ n. drop n text) one_more in
    quoted_first q text at within none is (ap (begins q) (sym same) ∙ lone)
    ∙ ap (λ (r : List ℕ). let found : List ℕ × List ℕ = (take at text, r) in Some found) (sym same)

pub line_lone : (eol : ℕ) (text : List ℕ) (at next : ℕ) (rest : List ℕ) → next ≡ suc at → rest ≡ drop next text → at < length text → NoneTo eol text at
    → (get_or text at 0 == eol) ≡ true → rest ≡ (line_at eol text).1
line_lone eol text at next rest one_more rest_is within none is =
    rest_is ∙ ap (λ n. drop n text) one_more ∙ sym (line_first eol text at within none is)

-- the fields so far, and then those of what is left, are the fields of the text
pub with_front-field : (front : List CsvField) (f : CsvField) (found : Option (List CsvField × List ℕ))
    → with_front front (with_field f found) ≡ with_front (front ++ f ∷ []) found
with_front-field front f None = refl
with_front-field front f (Some found) = rw append_assoc

pub fields_next : (o : Dialect) (front : List CsvField) (n i : ℕ) (rest : List ℕ) (f : CsvField) (after : List ℕ) (r : Next) → i < n
    → Some (f, after) ≡ field_at o rest
    → ((g : CsvField) (more : List ℕ → Option (List CsvField × List ℕ)) → fields_then o (Some (g, after)) more ≡ next_of o g more r)
    → with_front front (fields_up_to (n - i) o rest) ≡ with_front front (next_of o f (λ r. fields_up_to (n - (i + 1)) o r) r)
fields_next o front n i rest f after r more is follows =
    let one : n - i ≡ suc (n - (i + 1)) = omega arith in
    ap (λ k. with_front front (fields_up_to k o rest)) one
    ∙ ap (λ found. with_front front (fields_then o found (λ r. fields_up_to (n - (i + 1)) o r))) (sym is)
    ∙ ap (with_front front) (follows f (λ r. fields_up_to (n - (i + 1)) o r))

pub shown-push : (fields items : List RawField) (x : RawField) (f : CsvField) → items ≡ fields ++ x ∷ [] → shown x ≡ f
    → map shown items ≡ map shown fields ++ f ∷ []
shown-push fields items x f pushed is = ap (map shown) pushed ∙ map_push shown fields x ∙ ap (λ g. map shown fields ++ g ∷ []) is

pub comment_found : (o : Dialect) (text prefix body rest : List ℕ) (eol : ℕ) → Some prefix ≡ o.comment → Some body ≡ behind_front prefix text → eol ≡ o.eol
    → rest ≡ (line_at eol body).1 → (x : List ℕ) × (record_at o text ≡ Some (Comment x, rest))
comment_found o text prefix body rest eol asked begins eol_is rest_is =
    let is_comment : comment_body o.comment text ≡ Some body = ap (λ p. comment_body p text) (sym asked) ∙ sym begins in (
      (line_at o.eol body).0,
      ap (record_then_fields o text) is_comment
          ∙ ap (λ (r : List ℕ). let found : CsvRecord × List ℕ = (Comment (line_at o.eol body).0, r) in Some found)
          (ap (λ e. (line_at e body).1) (sym eol_is) ∙ sym rest_is),
    )

-- content before the content that is found after it
abbrev pub with_content : List ℕ → Option (List ℕ × List ℕ) → Option (List ℕ × List ℕ)
with_content front None = None
with_content front (Some found) = Some (front ++ found.0, found.1)
