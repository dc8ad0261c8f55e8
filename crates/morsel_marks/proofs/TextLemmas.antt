-- A text block by block.
use Rattle.std.proofs.Common.{◌≡◌, refl, ℕ, suc, ◌+◌, ◌≤◌, ◌∙◌, sym, ap, ap₂, arith, Bool, true, false, not, ◌&&◌, ◌||◌, ◌==◌, Option, subst, List, [], ◌∷◌, ◌++◌, length, take, drop, take-add, add-zero, length-take-le, take-append-drop}
use Rattle.morsel_grammar.specs.Dialect.{Dialect}
use Rattle.morsel_grammar.specs.Split.{is_quote, stops}
use Rattle.morsel_marks.specs.declared.look.QuoteState.{QuoteState}
use Rattle.morsel_marks.specs.Marks.{quoted_after, with_place, marks_from, quote_step, is_misquoted, quotes_after, is_sound_from, is_well_quoted_by, field_start}

pub quotes_after-append : (q s : ℕ → Bool) (st : QuoteState) (xs ys : List ℕ) → quotes_after q s st (xs ++ ys) ≡ quotes_after q s (quotes_after q s st xs) ys
quotes_after-append q s st [] ys = refl
quotes_after-append q s st (x ∷ xs) ys = quotes_after-append q s (quote_step q s st x) xs ys

and_assoc : (a b c : Bool) → (a && (b && c)) ≡ ((a && b) && c)
and_assoc true b c = refl
and_assoc false b c = refl

pub sound-append : (q s : ℕ → Bool) (st : QuoteState) (xs ys : List ℕ) → is_sound_from q s st (xs ++ ys) ≡ (is_sound_from q s st xs && is_sound_from q s (quotes_after q s st xs) ys)
sound-append q s st [] ys = refl
sound-append q s st (x ∷ xs) ys =
    ap (λ (t : Bool). not (is_misquoted q s st x) && t) (sound-append q s (quote_step q s st x) xs ys) ∙ and_assoc (not (is_misquoted q s st x)) _ _

with_place-append : (t : Bool) (at : ℕ) (xs ys : List ℕ) → with_place t at (xs ++ ys) ≡ with_place t at xs ++ ys
with_place-append true at xs ys = refl
with_place-append false at xs ys = refl

pub marks-append : (q s : ℕ → Bool) (at : ℕ) (st : QuoteState) (xs ys : List ℕ)
    → marks_from q s at st.inside (xs ++ ys) ≡ marks_from q s at st.inside xs ++ marks_from q s (at + length xs) (quotes_after q s st xs).inside ys
marks-append q s at st [] ys = ap (λ (n : ℕ). marks_from q s n st.inside ys) (sym (add-zero at))
marks-append q s at st (x ∷ xs) ys =
    let on : at + 1 + length xs ≡ at + suc (length xs) = omega arith in
    ap (with_place (s x && not (quoted_after (q x) st.inside)) at)
    (marks-append q s (at + 1) (quote_step q s st x) xs ys
    ∙ ap (λ (n : ℕ). marks_from q s (at + 1) (quoted_after (q x) st.inside) xs ++ marks_from q s n (quotes_after q s (quote_step q s st x) xs).inside ys) on)
    ∙ with_place-append (s x && not (quoted_after (q x) st.inside)) at _ _

-- ---- one block more

pub block_after : (q s : ℕ → Bool) (text : List ℕ) (at : ℕ) → quotes_after q s (quotes_after q s field_start (take at text)) (take 64 (drop at text)) ≡ quotes_after q s field_start (take (at + 64) text)
block_after q s text at = sym (ap (quotes_after q s field_start) (take-add at 64 text) ∙ quotes_after-append q s field_start (take at text) (take 64 (drop at text)))

pub block_sound : (q s : ℕ → Bool) (text : List ℕ) (at : ℕ) → is_sound_from q s field_start (take at text) ≡ true → is_sound_from q s (quotes_after q s field_start (take at text)) (take 64 (drop at text)) ≡ true
    → is_sound_from q s field_start (take (at + 64) text) ≡ true
block_sound q s text at front back =
    ap (is_sound_from q s field_start) (take-add at 64 text) ∙ sound-append q s field_start (take at text) (take 64 (drop at text)) ∙ ap₂ (λ (x y : Bool). x && y) front back

pub block_marks : (q s : ℕ → Bool) (text : List ℕ) (at : ℕ) → at ≤ length text
    → marks_from q s 0 false (take at text) ++ marks_from q s at (quotes_after q s field_start (take at text)).inside (take 64 (drop at text)) ≡ marks_from q s 0 false (take (at + 64) text)
block_marks q s text at within =
    let long : at ≡ 0 + length (take at text) = omega (arith, length-take-le at text within) in
    sym (ap (marks_from q s 0 false) (take-add at 64 text) ∙ marks-append q s 0 field_start (take at text) (take 64 (drop at text))
    ∙ ap (λ (n : ℕ). marks_from q s 0 false (take at text) ++ marks_from q s n (quotes_after q s field_start (take at text)).inside (take 64 (drop at text))) (sym long))

-- ---- a fault in a block, and the whole text

sound_split : (q s : ℕ → Bool) (text : List ℕ) (at : ℕ) → is_sound_from q s field_start text ≡ (is_sound_from q s field_start (take at text) && is_sound_from q s (quotes_after q s field_start (take at text)) (drop at text))
sound_split q s text at = ap (is_sound_from q s field_start) (sym (take-append-drop at text)) ∙ sound-append q s field_start (take at text) (drop at text)

after_split : (q s : ℕ → Bool) (text : List ℕ) (at : ℕ) → quotes_after q s field_start text ≡ quotes_after q s (quotes_after q s field_start (take at text)) (drop at text)
after_split q s text at = ap (quotes_after q s field_start) (sym (take-append-drop at text)) ∙ quotes_after-append q s field_start (take at text) (drop at text)

left_false : (a b : Bool) → a ≡ false → (a && b) ≡ false
left_false a b is = ap (λ (t : Bool). t && b) is

right_false : (a b : Bool) → b ≡ false → (a && b) ≡ false
right_false true b is = is
right_false false b is = refl

pub block_unsound : (q s : ℕ → Bool) (text : List ℕ) (at : ℕ) → is_sound_from q s (quotes_after q s field_start (take at text)) (take 64 (drop at text)) ≡ false → is_well_quoted_by q s text ≡ false
block_unsound q s text at is =
    left_false _ _ (sound_split q s text at
    ∙ right_false _ _ (ap (is_sound_from q s (quotes_after q s field_start (take at text))) (sym (take-append-drop 64 (drop at text)))
    ∙ sound-append q s (quotes_after q s field_start (take at text)) (take 64 (drop at text)) (drop 64 (drop at text)) ∙ left_false _ _ is))

pub rest_unsound : (q s : ℕ → Bool) (text : List ℕ) (at : ℕ) → is_sound_from q s (quotes_after q s field_start (take at text)) (drop at text) ≡ false → is_well_quoted_by q s text ≡ false
rest_unsound q s text at is = left_false _ _ (sound_split q s text at ∙ right_false _ _ is)

pub rest_inside : (q s : ℕ → Bool) (text : List ℕ) (at : ℕ) → (quotes_after q s (quotes_after q s field_start (take at text)) (drop at text)).inside ≡ true → is_well_quoted_by q s text ≡ false
rest_inside q s text at is = right_false _ _ (ap (λ (t : QuoteState). not t.inside) (after_split q s text at) ∙ ap not is)

pub rest_well : (q s : ℕ → Bool) (text : List ℕ) (at : ℕ) → is_sound_from q s field_start (take at text) ≡ true → is_sound_from q s (quotes_after q s field_start (take at text)) (drop at text) ≡ true
    → (quotes_after q s (quotes_after q s field_start (take at text)) (drop at text)).inside ≡ false → is_well_quoted_by q s text ≡ true
rest_well q s text at front back out =
    ap₂ (λ (x y : Bool). x && y) (sound_split q s text at ∙ ap₂ (λ (x y : Bool). x && y) front back) (ap (λ (t : QuoteState). not t.inside) (after_split q s text at) ∙ ap not out)

pub rest_marks : (q s : ℕ → Bool) (text : List ℕ) (at : ℕ) → at ≤ length text
    → marks_from q s 0 false (take at text) ++ marks_from q s at (quotes_after q s field_start (take at text)).inside (drop at text) ≡ marks_from q s 0 false text
rest_marks q s text at within =
    let long : at ≡ 0 + length (take at text) = omega (arith, length-take-le at text within) in
    sym (ap (marks_from q s 0 false) (sym (take-append-drop at text)) ∙ marks-append q s 0 field_start (take at text) (drop at text)
    ∙ ap (λ (n : ℕ). marks_from q s 0 false (take at text) ++ marks_from q s n (quotes_after q s field_start (take at text)).inside (drop at text)) (sym long))

-- ---- the bytes of options

-- what holds for bytes that are those of options holds for the options
pub same_bytes : (o : Dialect) (separator eol : ℕ) (quote : Option ℕ) (P : (ℕ → Bool) → (ℕ → Bool) → Type 0) → separator ≡ o.separator → quote ≡ o.quote → eol ≡ o.eol
    → P (is_quote quote) (λ b. b == separator || b == eol) → P (is_quote o.quote) (stops o)
same_bytes o separator eol quote P is_separator is_quote_byte is_eol holds =
    subst (λ (s : ℕ). P (is_quote o.quote) (λ b. b == s || b == o.eol)) is_separator
    (subst (λ (e : ℕ). P (is_quote o.quote) (λ b. b == separator || b == e)) is_eol
    (subst (λ (q : Option ℕ). P (is_quote q) (λ b. b == separator || b == eol)) is_quote_byte holds))
