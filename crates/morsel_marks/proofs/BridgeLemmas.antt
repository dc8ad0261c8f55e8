-- A text split at its marks is the text split by the grammar.
use Rattle.std.proofs.Common.{◌≡◌, ◌⊎◌, inl, inr, refl, ℕ, zero, suc, ◌+◌, ◌-◌, ◌<◌, ◌∙◌, sym, ap, ap₂, subst, arith, Bool, true, false, not, ◌&&◌, ◌||◌, ◌==◌, List, [], ◌∷◌, ◌++◌, length, get_or, take, drop, take-append-drop, length-drop, drop-cons, take_all, Option, Some, None}
use Rattle.std.proofs.lemmas.Bool.{cases_Bool, and_parts, or_parts, or_from, not-true, eqb-true, ne_eqb, false≢true}
use Rattle.std.specs.Prelude.{if◌then◌else◌}
use Rattle.morsel_marks.specs.declared.look.QuoteState.{QuoteState}
use Rattle.morsel_grammar.specs.Dialect.{Dialect, IsDialect, IsQuoteFor}
use Rattle.morsel_grammar.specs.Grammar.{CsvField}
use Rattle.morsel_grammar.specs.Split.{is_quote, stops, plain_at, with_byte, quoted_at, in_quotes, plain_field, field_at, last_field, ended, returned, with_field, fields_then, fields_up_to, fields_record, record_then_fields, record_at, comment_body}
use Rattle.morsel_marks.specs.Marks.{quoted_after, marks_from, quote_step, is_misquoted, is_sound_from, field_start}
use Rattle.morsel_marks.specs.ByMarks.{whole_field, field_between, last_then, field_then, record_by_marks}
use Rattle.morsel_marks.proofs.LookLemmas.{same_state}

-- whether each text after these bytes is sound
abbrev pub Sound : Dialect → QuoteState → List ℕ → Type 0
Sound o st text = is_sound_from (is_quote o.quote) (stops o) st text ≡ true

-- how many bytes stand before the first mark
abbrev pub span : Dialect → Bool → List ℕ → ℕ
span o within [] = 0
span o within (b ∷ bs) = if stops o b && not (quoted_after (is_quote o.quote b) within) then 0 else suc (span o (quoted_after (is_quote o.quote b) within) bs)

-- inside a field without quotes
abbrev pub in_plain : QuoteState
in_plain = record { before = false; inside = false; closed = false }

abbrev pub FirstIsNoStop : Dialect → List ℕ → Type 0
FirstIsNoStop o [] = Unit {0}
FirstIsNoStop o (b ∷ bs) = stops o b ≡ false

pub record PlainCut (o : Dialect) (text : List ℕ) (n : ℕ) : Type 0 where
  pub value : plain_at o text ≡ (take n text, drop n text)
  pub front : plain_at o (take n text) ≡ (take n text, [])
  pub rest : Sound o field_start (drop (suc n) text)
  pub head : FirstIsNoStop o (take n text)

sound_parts : (o : Dialect) (st : QuoteState) (b : ℕ) (bs : List ℕ) → Sound o st (b ∷ bs) → (is_misquoted (is_quote o.quote) (stops o) st b ≡ false) × Sound o (quote_step (is_quote o.quote) (stops o) st b) bs
sound_parts o st b bs sound =
    let parts = and_parts (not (is_misquoted (is_quote o.quote) (stops o) st b)) _ sound in
    (not-true _ parts.0, parts.1)

-- a byte that is no quote, outside quotes and not after a closing one
stepped : (o : Dialect) (st : QuoteState) (b : ℕ) (t : Bool) → st.inside ≡ false → is_quote o.quote b ≡ false → stops o b ≡ t
    → quote_step (is_quote o.quote) (stops o) st b ≡ record { before = t; inside = false; closed = false }
stepped o st b t out none stop =
    same_state _ _
    (ap₂ (λ (x y : Bool). x || y) stop none ∙ or_none t)
    (ap (λ (x : Bool). quoted_after x st.inside) none ∙ out)
    (ap (λ (x : Bool). x && not (quoted_after x st.inside)) none)
  where
    or_none : (t : Bool) → (t || false) ≡ t
    or_none true = refl
    or_none false = refl

span_stop : (o : Dialect) (within : Bool) (b : ℕ) (bs : List ℕ) → stops o b ≡ true → quoted_after (is_quote o.quote b) within ≡ false → span o within (b ∷ bs) ≡ 0
span_stop o within b bs stop out = rw (stop, out)

span_on : (o : Dialect) (within : Bool) (b : ℕ) (bs : List ℕ) (t : Bool) → quoted_after (is_quote o.quote b) within ≡ t → (stops o b && not t) ≡ false
    → span o within (b ∷ bs) ≡ suc (span o t bs)
span_on o within b bs t is none = rw (is, none)

plain_stop : (o : Dialect) (b : ℕ) (bs : List ℕ) → stops o b ≡ true → plain_at o (b ∷ bs) ≡ ([], b ∷ bs)
plain_stop o b bs stop = rw stop

plain_on : (o : Dialect) (b : ℕ) (bs xs ys : List ℕ) → stops o b ≡ false → plain_at o bs ≡ (xs, ys) → plain_at o (b ∷ bs) ≡ (b ∷ xs, ys)
plain_on o b bs xs ys other is = rw (other, is)

plain_step : (o : Dialect) (st : QuoteState) (b : ℕ) (bs : List ℕ) → st.inside ≡ false → is_quote o.quote b ≡ false
    → Sound o (quote_step (is_quote o.quote) (stops o) st b) bs → (Sound o in_plain bs → PlainCut o bs (span o false bs)) → PlainCut o (b ∷ bs) (span o false (b ∷ bs))
plain_step o st b bs out none sound later = by (cases_Bool (stops o b))
  where
    by : (stops o b ≡ true) ⊎ (stops o b ≡ false) → PlainCut o (b ∷ bs) (span o false (b ∷ bs))
    by (inl stop) =
        let turn : quoted_after (is_quote o.quote b) false ≡ false = ap (λ (t : Bool). quoted_after t false) none in
        subst (PlainCut o (b ∷ bs)) (sym (span_stop o false b bs stop turn)) (record {
          value = plain_stop o b bs stop;
          front = refl;
          rest = subst (λ (t : QuoteState). Sound o t bs) (stepped o st b true out none stop) sound;
          head = tt;
        })
    by (inr other) =
        let turn : quoted_after (is_quote o.quote b) false ≡ false = ap (λ (t : Bool). quoted_after t false) none in
        let cut = later (subst (λ (t : QuoteState). Sound o t bs) (stepped o st b false out none other) sound) in
        subst (PlainCut o (b ∷ bs)) (sym (span_on o false b bs false turn (ap (λ (t : Bool). t && true) other))) (record {
          value = plain_on o b bs _ _ other cut.value;
          front = plain_on o b _ _ _ other cut.front;
          rest = cut.rest;
          head = other;
        })

not_opening : (o : Dialect) (b : ℕ) → is_misquoted (is_quote o.quote) (stops o) in_plain b ≡ false → is_quote o.quote b ≡ false
not_opening o b sound = by (is_quote o.quote b) (or_parts _ _ sound).0
  where
    by : (t : Bool) → (t && quoted_after t false && true) ≡ false → t ≡ false
    by true is = is
    by false is = refl

pub plain_cut : (o : Dialect) (text : List ℕ) → Sound o in_plain text → PlainCut o text (span o false text)
plain_cut o [] sound = record { value = refl; front = refl; rest = refl; head = tt }
plain_cut o (b ∷ bs) sound =
    let parts = sound_parts o in_plain b bs sound in
    plain_step o in_plain b bs refl (not_opening o b parts.0) parts.1 (λ s. plain_cut o bs s)

-- ---- quoted fields

-- with more bytes after
abbrev pub onto : {A : Type 0} → List ℕ → Option (A × List ℕ) → Option (A × List ℕ)
onto rest None = None
onto rest (Some found) = Some (found.0, found.1 ++ rest)

-- what follows the closing quote up to a mark: nothing, or a byte 13 and no stop after it
abbrev pub IsTail : Dialect → List ℕ → Type 0
IsTail o [] = Unit {0}
IsTail o (b ∷ bs) = ((b == 13) ≡ true) × (stops o b ≡ false) × FirstIsNoStop o bs

abbrev pub Tails : {A : Type 0} → Dialect → Option (A × List ℕ) → Type 0
Tails o None = Unit {0}
Tails o (Some found) = IsTail o found.1

pub record QuotedCut (o : Dialect) (quote : ℕ) (text : List ℕ) (n : ℕ) : Type 0 where
  pub value : quoted_at quote text ≡ onto (drop n text) (quoted_at quote (take n text))
  pub rest : Sound o field_start (drop (suc n) text)
  pub tail : Tails o (quoted_at quote (take n text))

pub quoted_other : (quote b : ℕ) (xs : List ℕ) → (b == quote) ≡ false → quoted_at quote (b ∷ xs) ≡ with_byte b (quoted_at quote xs)
quoted_other quote b [] other = rw other
quoted_other quote b (c ∷ xs) other = rw other

pub quoted_doubled : (quote b c : ℕ) (xs : List ℕ) → (b == quote) ≡ true → (c == quote) ≡ true → quoted_at quote (b ∷ c ∷ xs) ≡ with_byte quote (quoted_at quote xs)
quoted_doubled quote b c xs first second = rw (first, second)

pub quoted_closed : (quote b c : ℕ) (xs : List ℕ) → (b == quote) ≡ true → (c == quote) ≡ false → quoted_at quote (b ∷ c ∷ xs) ≡ Some ([], c ∷ xs)
quoted_closed quote b c xs first second = rw (first, second)

pub quoted_last : (quote b : ℕ) → (b == quote) ≡ true → quoted_at quote (b ∷ []) ≡ Some ([], [])
quoted_last quote b first = rw first

with_byte-onto : (b : ℕ) (rest : List ℕ) (found : Option (List ℕ × List ℕ)) → with_byte b (onto rest found) ≡ onto rest (with_byte b found)
with_byte-onto b rest None = refl
with_byte-onto b rest (Some found) = refl

with_byte-tails : (o : Dialect) (b : ℕ) (found : Option (List ℕ × List ℕ)) → Tails o found → Tails o (with_byte b found)
with_byte-tails o b None tail = tail
with_byte-tails o b (Some found) tail = tail

-- in quotes
abbrev inner : Bool → QuoteState
inner before = record { before = before; inside = true; closed = false }

-- after a quote that closes
abbrev closing : QuoteState
closing = record { before = true; inside = false; closed = true }

cut_other : (o : Dialect) (quote b : ℕ) (bs : List ℕ) (n : ℕ) → (b == quote) ≡ false → QuotedCut o quote bs n → QuotedCut o quote (b ∷ bs) (suc n)
cut_other o quote b bs n other cut = record {
  value = quoted_other quote b bs other ∙ ap (with_byte b) cut.value ∙ with_byte-onto b (drop n bs) _ ∙ ap (onto (drop n bs)) (sym (quoted_other quote b (take n bs) other));
  rest = cut.rest;
  tail = subst (Tails o) (sym (quoted_other quote b (take n bs) other)) (with_byte-tails o b _ cut.tail);
}

cut_doubled : (o : Dialect) (quote b c : ℕ) (bs : List ℕ) (n : ℕ) → (b == quote) ≡ true → (c == quote) ≡ true → QuotedCut o quote bs n → QuotedCut o quote (b ∷ c ∷ bs) (suc (suc n))
cut_doubled o quote b c bs n first second cut = record {
  value = quoted_doubled quote b c bs first second ∙ ap (with_byte quote) cut.value ∙ with_byte-onto quote (drop n bs) _
      ∙ ap (onto (drop n bs)) (sym (quoted_doubled quote b c (take n bs) first second));
  rest = cut.rest;
  tail = subst (Tails o) (sym (quoted_doubled quote b c (take n bs) first second)) (with_byte-tails o quote _ cut.tail);
}

cut_closed : (o : Dialect) (quote b c : ℕ) (bs : List ℕ) → (b == quote) ≡ true → (c == quote) ≡ false → Sound o field_start bs → QuotedCut o quote (b ∷ c ∷ bs) 1
cut_closed o quote b c bs first second sound = record {
  value = quoted_closed quote b c bs first second ∙ ap (onto (c ∷ bs)) (sym (quoted_last quote b first));
  rest = sound;
  tail = subst (Tails o) (sym (quoted_last quote b first)) tt;
}

cut_returned : (o : Dialect) (quote b c : ℕ) (bs : List ℕ) (n : ℕ) → (b == quote) ≡ true → (c == quote) ≡ false → (c == 13) ≡ true → stops o c ≡ false → PlainCut o bs n
    → QuotedCut o quote (b ∷ c ∷ bs) (suc (suc n))
cut_returned o quote b c bs n first second is other cut = record {
  value = quoted_closed quote b c bs first second
      ∙ ap (λ (xs : List ℕ). let found : List ℕ × List ℕ = ([], c ∷ xs) in Some found) (sym (take-append-drop n bs))
      ∙ ap (onto (drop n bs)) (sym (quoted_closed quote b c (take n bs) first second));
  rest = cut.rest;
  tail = subst (Tails o) (sym (quoted_closed quote b c (take n bs) first second)) (is, other, cut.head);
}

-- a quote is no stop
abbrev pub IsQuoteOf : Dialect → ℕ → Type 0
IsQuoteOf o quote = ((b : ℕ) → is_quote o.quote b ≡ (b == quote)) × ((b : ℕ) → (b == quote) ≡ true → stops o b ≡ false)

turned_on : (o : Dialect) (quote b : ℕ) (within : Bool) (t : Bool) → IsQuoteOf o quote → (b == quote) ≡ t → quoted_after (is_quote o.quote b) within ≡ quoted_after t within
turned_on o quote b within t quotes is = ap (λ (x : Bool). quoted_after x within) (quotes.0 b ∙ is)

step_is : (o : Dialect) (quote b : ℕ) (st : QuoteState) (t stop : Bool) → IsQuoteOf o quote → (b == quote) ≡ t → stops o b ≡ stop
    → quote_step (is_quote o.quote) (stops o) st b ≡ record { before = stop || t; inside = quoted_after t st.inside; closed = t && not (quoted_after t st.inside) }
step_is o quote b st t stop quotes is stop_is =
    same_state _ _ (ap₂ (λ (x y : Bool). x || y) stop_is (quotes.0 b ∙ is)) (turned_on o quote b st.inside t quotes is)
    (ap (λ (x : Bool). x && not (quoted_after x st.inside)) (quotes.0 b ∙ is))

pub span_is : (o : Dialect) (quote b : ℕ) (within : Bool) (bs : List ℕ) (t : Bool) → IsQuoteOf o quote → (b == quote) ≡ t → (stops o b && not (quoted_after t within)) ≡ false
    → span o within (b ∷ bs) ≡ suc (span o (quoted_after t within) bs)
span_is o quote b within bs t quotes is none = span_on o within b bs (quoted_after t within) (turned_on o quote b within t quotes is) none

pub and_none : (t : Bool) → (t && false) ≡ false
and_none true = refl
and_none false = refl

-- what may follow a closing quote
follows : (o : Dialect) (quote c : ℕ) → IsQuoteOf o quote → (c == quote) ≡ false → is_misquoted (is_quote o.quote) (stops o) closing c ≡ false → stops o c ≡ false → (c == 13) ≡ true
follows o quote c quotes other sound none = by (is_quote o.quote c) (stops o c) (c == 13) (quotes.0 c ∙ other) none sound
  where
    by : (q s r : Bool) → q ≡ false → s ≡ false → ((q && quoted_after q false && false) || (true && not (s || q || r))) ≡ false → r ≡ true
    by true s r is_q is_s is = absurd (false≢true (sym is_q))
    by false true r is_q is_s is = absurd (false≢true (sym is_s))
    by false false true is_q is_s is = refl
    by false false false is_q is_s is = sym is

-- after a closing quote
closed_cut : (o : Dialect) (quote b c : ℕ) (bs : List ℕ) → IsQuoteOf o quote → (b == quote) ≡ true → (c == quote) ≡ false → Sound o closing (c ∷ bs)
    → QuotedCut o quote (b ∷ c ∷ bs) (suc (span o false (c ∷ bs)))
closed_cut o quote b c bs quotes first second sound = by (cases_Bool (stops o c))
  where
    by : (stops o c ≡ true) ⊎ (stops o c ≡ false) → QuotedCut o quote (b ∷ c ∷ bs) (suc (span o false (c ∷ bs)))
    by (inl stop) =
        subst (λ (n : ℕ). QuotedCut o quote (b ∷ c ∷ bs) (suc n)) (sym (span_stop o false c bs stop (turned_on o quote c false false quotes second)))
        (cut_closed o quote b c bs first second
        (subst (λ (t : QuoteState). Sound o t bs) (step_is o quote c closing false true quotes second stop) (sound_parts o closing c bs sound).1))
    by (inr other) =
        let parts = sound_parts o closing c bs sound in
        subst (λ (n : ℕ). QuotedCut o quote (b ∷ c ∷ bs) (suc n)) (sym (span_is o quote c false bs false quotes second (ap (λ (t : Bool). t && true) other)))
        (cut_returned o quote b c bs (span o false bs) first second (follows o quote c quotes second parts.0 other) other
        (plain_cut o bs (subst (λ (t : QuoteState). Sound o t bs) (step_is o quote c closing false false quotes second other) parts.1)))

quoted_one : (o : Dialect) (quote b : ℕ) → IsQuoteOf o quote → (b == quote) ≡ true → QuotedCut o quote (b ∷ []) (span o true (b ∷ []))
quoted_one o quote b quotes first =
    subst (QuotedCut o quote (b ∷ [])) (sym (span_is o quote b true [] true quotes first (ap (λ (t : Bool). t && true) (quotes.1 b first)))) (record {
      value = quoted_last quote b first ∙ ap (onto []) (sym (quoted_last quote b first));
      rest = refl;
      tail = subst (Tails o) (sym (quoted_last quote b first)) tt;
    })

-- after a byte that is no quote, inside quotes
quoted_more : (o : Dialect) (quote b : ℕ) (bs : List ℕ) (before : Bool) → IsQuoteOf o quote → (b == quote) ≡ false → Sound o (inner before) (b ∷ bs)
    → ((before : Bool) → Sound o (inner before) bs → QuotedCut o quote bs (span o true bs)) → QuotedCut o quote (b ∷ bs) (span o true (b ∷ bs))
quoted_more o quote b bs before quotes other sound later =
    subst (QuotedCut o quote (b ∷ bs)) (sym (span_is o quote b true bs false quotes other (and_none (stops o b))))
    (cut_other o quote b bs (span o true bs) other
    (later (stops o b || false) (subst (λ (t : QuoteState). Sound o t bs) (step_is o quote b (inner before) false (stops o b) quotes other refl) (sound_parts o (inner before) b bs sound).1)))

-- after a quote, inside quotes
quoted_turn : (o : Dialect) (quote b c : ℕ) (bs : List ℕ) (before : Bool) → IsQuoteOf o quote → (b == quote) ≡ true → Sound o (inner before) (b ∷ c ∷ bs)
    → (Sound o (inner true) bs → QuotedCut o quote bs (span o true bs)) → QuotedCut o quote (b ∷ c ∷ bs) (span o true (b ∷ c ∷ bs))
quoted_turn o quote b c bs before quotes first sound later =
    subst (QuotedCut o quote (b ∷ c ∷ bs)) (sym (span_is o quote b true (c ∷ bs) true quotes first (ap (λ (t : Bool). t && true) (quotes.1 b first))))
    (by (cases_Bool (c == quote)))
  where
    after_first : Sound o closing (c ∷ bs)
    after_first = subst (λ (t : QuoteState). Sound o t (c ∷ bs)) (step_is o quote b (inner before) true false quotes first (quotes.1 b first)) (sound_parts o (inner before) b (c ∷ bs) sound).1

    by : ((c == quote) ≡ true) ⊎ ((c == quote) ≡ false) → QuotedCut o quote (b ∷ c ∷ bs) (suc (span o false (c ∷ bs)))
    by (inl second) =
        subst (λ (n : ℕ). QuotedCut o quote (b ∷ c ∷ bs) (suc n)) (sym (span_is o quote c false bs true quotes second (and_none (stops o c))))
        (cut_doubled o quote b c bs (span o true bs) first second
        (later (subst (λ (t : QuoteState). Sound o t bs) (step_is o quote c closing true false quotes second (quotes.1 c second)) (sound_parts o closing c bs after_first).1)))
    by (inr second) = closed_cut o quote b c bs quotes first second after_first

pub quoted_cut : (o : Dialect) (quote : ℕ) → IsQuoteOf o quote → (before : Bool) (text : List ℕ) → Sound o (inner before) text → QuotedCut o quote text (span o true text)
quoted_cut o quote quotes before [] sound = record { value = refl; rest = refl; tail = tt }
quoted_cut o quote quotes before (b ∷ []) sound = by (λ t s. quoted_cut o quote quotes t [] s) (cases_Bool (b == quote))
  where
    by : ((t : Bool) → Sound o (inner t) [] → QuotedCut o quote [] (span o true [])) → ((b == quote) ≡ true) ⊎ ((b == quote) ≡ false) → QuotedCut o quote (b ∷ []) (span o true (b ∷ []))
    by later (inl first) = quoted_one o quote b quotes first
    by later (inr other) = quoted_more o quote b [] before quotes other sound later
quoted_cut o quote quotes before (b ∷ c ∷ bs) sound = by (λ t s. quoted_cut o quote quotes t bs s) (λ t s. quoted_cut o quote quotes t (c ∷ bs) s) (cases_Bool (b == quote))
  where
    by : ((t : Bool) → Sound o (inner t) bs → QuotedCut o quote bs (span o true bs)) → ((t : Bool) → Sound o (inner t) (c ∷ bs) → QuotedCut o quote (c ∷ bs) (span o true (c ∷ bs)))
        → ((b == quote) ≡ true) ⊎ ((b == quote) ≡ false) → QuotedCut o quote (b ∷ c ∷ bs) (span o true (b ∷ c ∷ bs))
    by two one (inl first) = quoted_turn o quote b c bs before quotes first sound (two true)
    by two one (inr other) = quoted_more o quote b (c ∷ bs) before quotes other sound one

-- ---- fields

abbrev pub BeginsPlain : Dialect → List ℕ → Type 0
BeginsPlain o [] = Unit {0}
BeginsPlain o (b ∷ bs) = is_quote o.quote b ≡ false

pub record FieldCut (o : Dialect) (text : List ℕ) (n : ℕ) : Type 0 where
  pub value : field_at o text ≡ onto (drop n text) (field_at o (take n text))
  pub rest : Sound o field_start (drop (suc n) text)
  pub tail : Tails o (field_at o (take n text))
  pub plain : BeginsPlain o (take n text) → field_at o (take n text) ≡ plain_field (take n text, [])

in_quotes-onto : (rest : List ℕ) (found : Option (List ℕ × List ℕ)) → in_quotes (onto rest found) ≡ onto rest (in_quotes found)
in_quotes-onto rest None = refl
in_quotes-onto rest (Some found) = refl

in_quotes-tails : (o : Dialect) (found : Option (List ℕ × List ℕ)) → Tails o found → Tails o (in_quotes found)
in_quotes-tails o None tail = tail
in_quotes-tails o (Some found) tail = tail

same_quote : (q : Option ℕ) (b : ℕ) → is_quote q b ≡ true → (c : ℕ) → is_quote q c ≡ (c == b)
same_quote None b is c = absurd (false≢true is)
same_quote (Some quote) b is c = ap (λ (x : ℕ). c == x) (sym (eqb-true b quote is))

quote_apart : (separator eol : ℕ) (q : Option ℕ) (b : ℕ) → IsQuoteFor separator eol q → is_quote q b ≡ true → ((b ≡ separator → ⊥) × (b ≡ eol → ⊥))
quote_apart separator eol None b fit is = absurd (false≢true is)
quote_apart separator eol (Some quote) b fit is =
    let e = eqb-true b quote is in
    (λ s. fit.1 (sym e ∙ s), λ s. fit.2 (sym e ∙ s))

no_stop : (o : Dialect) (b c : ℕ) → (b ≡ o.separator → ⊥) → (b ≡ o.eol → ⊥) → (c == b) ≡ true → stops o c ≡ false
no_stop o b c separator eol is =
    let e = eqb-true c b is in
    or_from _ _ (ne_eqb _ _ (λ s. separator (sym e ∙ s))) (ne_eqb _ _ (λ s. eol (sym e ∙ s)))

pub quote_of : (o : Dialect) (b : ℕ) → IsDialect o → is_quote o.quote b ≡ true → IsQuoteOf o b
quote_of o b fit is =
    let apart = quote_apart o.separator o.eol o.quote b fit.quote is in
    (same_quote o.quote b is, λ c e. no_stop o b c apart.0 apart.1 e)

pub quoted_first : (o : Dialect) (b : ℕ) (xs : List ℕ) → is_quote o.quote b ≡ true → field_at o (b ∷ xs) ≡ in_quotes (quoted_at b xs)
quoted_first o b xs is = rw is

plain_first : (o : Dialect) (b : ℕ) (xs : List ℕ) → is_quote o.quote b ≡ false → field_at o (b ∷ xs) ≡ plain_field (plain_at o (b ∷ xs))
plain_first o b xs is = rw is

pub plain_front : (o : Dialect) (n b : ℕ) (bs : List ℕ) → is_quote o.quote b ≡ false → field_at o (take n (b ∷ bs)) ≡ plain_field (plain_at o (take n (b ∷ bs)))
plain_front o zero b bs is = refl
plain_front o (suc n) b bs is = plain_first o b (take n bs) is

pub field_cut : (o : Dialect) (text : List ℕ) → IsDialect o → Sound o field_start text → FieldCut o text (span o false text)
field_cut o [] fit sound = record { value = refl; rest = refl; tail = tt; plain = λ begins. refl }
field_cut o (b ∷ bs) fit sound = by (cases_Bool (is_quote o.quote b))
  where
    by : (is_quote o.quote b ≡ true) ⊎ (is_quote o.quote b ≡ false) → FieldCut o (b ∷ bs) (span o false (b ∷ bs))
    by (inl is) =
        let quotes = quote_of o b fit is in
        let same : (b == b) ≡ true = sym (quotes.0 b) ∙ is in
        let cut = quoted_cut o b quotes true bs
        (subst (λ (t : QuoteState). Sound o t bs) (step_is o b b field_start true false quotes same (quotes.1 b same)) (sound_parts o field_start b bs sound).1) in
        let n = span o true bs in
        subst (FieldCut o (b ∷ bs)) (sym (span_is o b b false bs true quotes same (and_none (stops o b)))) (record {
          value = quoted_first o b bs is ∙ ap in_quotes cut.value ∙ in_quotes-onto (drop n bs) _ ∙ ap (onto (drop n bs)) (sym (quoted_first o b (take n bs) is));
          rest = cut.rest;
          tail = subst (Tails o) (sym (quoted_first o b (take n bs) is)) (in_quotes-tails o _ cut.tail);
          plain = λ begins. absurd (false≢true (sym begins ∙ is));
        })
    by (inr is) =
        let cut = plain_step o field_start b bs refl is (sound_parts o field_start b bs sound).1 (λ s. plain_cut o bs s) in
        let n = span o false (b ∷ bs) in
        let front : field_at o (take n (b ∷ bs)) ≡ plain_field (take n (b ∷ bs), []) = plain_front o n b bs is ∙ ap plain_field cut.front in
        record {
          value = plain_first o b bs is ∙ ap plain_field cut.value ∙ ap (onto (drop n (b ∷ bs))) (sym front);
          rest = cut.rest;
          tail = subst (Tails o) (sym front) tt;
          plain = λ begins. front;
        }

-- ---- marks

pub record MarkAt (o : Dialect) (at : ℕ) (within : Bool) (text : List ℕ) (n : ℕ) : Type 0 where
  pub below : n < length text
  pub marks : marks_from (is_quote o.quote) (stops o) at within text ≡ (at + n) ∷ marks_from (is_quote o.quote) (stops o) (at + n + 1) false (drop (suc n) text)
  pub stop : stops o (get_or text n 0) ≡ true

pub record NoMark (o : Dialect) (at : ℕ) (within : Bool) (text : List ℕ) (n : ℕ) : Type 0 where
  pub whole : n ≡ length text
  pub marks : marks_from (is_quote o.quote) (stops o) at within text ≡ []

marks_here : (o : Dialect) (at : ℕ) (within : Bool) (b : ℕ) (bs : List ℕ) → stops o b ≡ true → quoted_after (is_quote o.quote b) within ≡ false
    → marks_from (is_quote o.quote) (stops o) at within (b ∷ bs) ≡ at ∷ marks_from (is_quote o.quote) (stops o) (at + 1) false bs
marks_here o at within b bs stop out = rw (stop, out)

marks_on : (o : Dialect) (at : ℕ) (within : Bool) (b : ℕ) (bs : List ℕ) → (stops o b && not (quoted_after (is_quote o.quote b) within)) ≡ false
    → marks_from (is_quote o.quote) (stops o) at within (b ∷ bs) ≡ marks_from (is_quote o.quote) (stops o) (at + 1) (quoted_after (is_quote o.quote b) within) bs
marks_on o at within b bs none = rw none

pub first_mark : (o : Dialect) (at : ℕ) (within : Bool) (text : List ℕ) → NoMark o at within text (span o within text) ⊎ MarkAt o at within text (span o within text)
first_mark o at within [] = inl (record { whole = refl; marks = refl })
first_mark o at within (b ∷ bs) =
    by (first_mark o (at + 1) (quoted_after (is_quote o.quote b) within) bs) (cases_Bool (stops o b && not (quoted_after (is_quote o.quote b) within)))
  where
    by : NoMark o (at + 1) (quoted_after (is_quote o.quote b) within) bs (span o (quoted_after (is_quote o.quote b) within) bs)
        ⊎ MarkAt o (at + 1) (quoted_after (is_quote o.quote b) within) bs (span o (quoted_after (is_quote o.quote b) within) bs)
        → ((stops o b && not (quoted_after (is_quote o.quote b) within)) ≡ true) ⊎ ((stops o b && not (quoted_after (is_quote o.quote b) within)) ≡ false)
        → NoMark o at within (b ∷ bs) (span o within (b ∷ bs)) ⊎ MarkAt o at within (b ∷ bs) (span o within (b ∷ bs))
    by later (inl mark) =
        let parts = and_parts (stops o b) _ mark in
        let out : quoted_after (is_quote o.quote b) within ≡ false = not-true _ parts.1 in
        let here : at ≡ at + 0 = omega arith in
        inr (subst (MarkAt o at within (b ∷ bs)) (sym (span_stop o within b bs parts.0 out)) (record {
          below = omega arith;
          marks = marks_here o at within b bs parts.0 out ∙ ap (λ (n : ℕ). n ∷ marks_from (is_quote o.quote) (stops o) (n + 1) false bs) here;
          stop = parts.0;
        }))
    by (inl none) (inr other) =
        inl (subst (NoMark o at within (b ∷ bs)) (sym (span_on o within b bs _ refl other)) (record {
          whole = ap suc none.whole;
          marks = marks_on o at within b bs other ∙ none.marks;
        }))
    by (inr some) (inr other) =
        let n = span o (quoted_after (is_quote o.quote b) within) bs in
        let there : at + 1 + n ≡ at + suc n = omega arith in
        inr (subst (MarkAt o at within (b ∷ bs)) (sym (span_on o within b bs _ refl other)) (record {
          below = omega (arith, some.below);
          marks = marks_on o at within b bs other ∙ some.marks ∙ ap (λ (k : ℕ). k ∷ marks_from (is_quote o.quote) (stops o) (k + 1) false (drop (suc n) bs)) there;
          stop = some.stop;
        }))

-- ---- records

abbrev pub Later : Type 0
Later = List ℕ → Option (List CsvField × List ℕ)

-- a tail of one byte 13, and what ends the record after it
returned_first : (o : Dialect) (f : CsvField) (b : ℕ) (rest : List ℕ) (more : Later) → (b == 13) ≡ true → stops o b ≡ false
    → fields_then o (Some (f, b ∷ rest)) more ≡ (if o.eol == 10 then returned o f rest else None)
returned_first o f b rest more is other =
    let parts = or_parts (b == o.separator) (b == o.eol) other in
    rw (parts.0, parts.1, is)

stays : (e : Bool) → ◌≡◌ {A = Option (List CsvField × List ℕ)} (if e then None else None) None
stays true = refl
stays false = refl

one_end : (o : Dialect) (f : CsvField) (b : ℕ) (rest : List ℕ) → (b == 13) ≡ true
    → last_then (whole_field o true (Some (f, b ∷ []))) rest ≡ (if o.eol == 10 then ended o f rest else None)
one_end o f b rest is = ap (λ (t : Bool). last_then (if true && (t && o.eol == 10) then Some (last_field o f) else None) rest) is ∙ by (o.eol == 10)
  where
    by : (e : Bool) → last_then (if true && (true && e) then Some (last_field o f) else None) rest ≡ (if e then ended o f rest else None)
    by true = refl
    by false = refl

not_returned : (o : Dialect) (f : CsvField) (b : ℕ) (rest : List ℕ) → stops o b ≡ false → (if o.eol == 10 then returned o f (b ∷ rest) else None) ≡ None
not_returned o f b rest other =
    ap (λ (t : Bool). if o.eol == 10 then (if t then ended o f rest else None) else None) (or_parts (b == o.separator) (b == o.eol) other).1 ∙ stays (o.eol == 10)

-- the last field of a text without a mark
text_ended : (o : Dialect) (found : Option (CsvField × List ℕ)) (more : Later) → Tails o found → fields_then o found more ≡ last_then (whole_field o true found) []
text_ended o None more tail = refl
text_ended o (Some found) more tail = by found.0 found.1 tail
  where
    by : (f : CsvField) (after : List ℕ) → IsTail o after → fields_then o (Some (f, after)) more ≡ last_then (whole_field o true (Some (f, after))) []
    by f [] tail = refl
    by f (b ∷ []) tail = returned_first o f b [] more tail.0 tail.1 ∙ sym (one_end o f b [] tail.0)
    by f (b ∷ c ∷ bs) tail = returned_first o f b (c ∷ bs) more tail.0 tail.1 ∙ not_returned o f c bs tail.2

-- what follows a field at a mark
abbrev pub at_mark : Dialect → ℕ → Option (CsvField × List ℕ) → List ℕ → Later → Option (List CsvField × List ℕ)
at_mark o m found rest more = if m == o.separator then field_then (whole_field o false found) (more rest) else last_then (whole_field o true found) rest

no_field : (t : Bool) (later : Option (List CsvField × List ℕ)) (rest : List ℕ) → None ≡ (if t then field_then None later else last_then None rest)
no_field true later rest = refl
no_field false later rest = refl

stop_then : (o : Dialect) (f : CsvField) (m : ℕ) (rest : List ℕ) (more : Later) → stops o m ≡ true → fields_then o (Some (f, m ∷ rest)) more ≡ at_mark o m (Some (f, [])) rest more
stop_then o f m rest more stop = by (m == o.separator) (m == o.eol) stop
  where
    by : (s e : Bool) → (s || e) ≡ true
        → (if s then with_field f (more rest) else (if e then ended o f rest else (if m == 13 && o.eol == 10 then returned o f rest else None)))
        ≡ (if s then with_field f (more rest) else ended o f rest)
    by true e is = refl
    by false true is = refl
    by false false is = absurd (false≢true is)

-- a byte 13 and a mark after it
return_then : (o : Dialect) (f : CsvField) (b m : ℕ) (rest : List ℕ) (more : Later) → IsDialect o → (b == 13) ≡ true → stops o b ≡ false → stops o m ≡ true
    → fields_then o (Some (f, b ∷ m ∷ rest)) more ≡ at_mark o m (Some (f, b ∷ [])) rest more
return_then o f b m rest more fit is other stop =
    returned_first o f b (m ∷ rest) more is other ∙ by (cases_Bool (m == o.separator))
  where
    by : ((m == o.separator) ≡ true) ⊎ ((m == o.separator) ≡ false) → (if o.eol == 10 then returned o f (m ∷ rest) else None) ≡ at_mark o m (Some (f, b ∷ [])) rest more
    by (inl separates) =
        let no_eol : (m == o.eol) ≡ false = ne_eqb _ _ (λ e. fit.apart (sym (eqb-true m o.separator separates) ∙ e)) in
        ap (λ (t : Bool). if o.eol == 10 then (if t then ended o f rest else None) else None) no_eol ∙ stays (o.eol == 10)
        ∙ sym (ap (λ (t : Bool). if t then field_then (whole_field o false (Some (f, b ∷ []))) (more rest) else last_then (whole_field o true (Some (f, b ∷ []))) rest) separates)
    by (inr ends) =
        let eol : (m == o.eol) ≡ true = sym (ap (λ (t : Bool). t || m == o.eol) ends) ∙ stop in
        ap (λ (t : Bool). if o.eol == 10 then (if t then ended o f rest else None) else None) eol
        ∙ sym (ap (λ (t : Bool). if t then field_then (whole_field o false (Some (f, b ∷ []))) (more rest) else last_then (whole_field o true (Some (f, b ∷ []))) rest) ends ∙ one_end o f b rest is)

mark_then : (o : Dialect) (found : Option (CsvField × List ℕ)) (m : ℕ) (rest : List ℕ) (more : Later) → IsDialect o → Tails o found → stops o m ≡ true
    → fields_then o (onto (m ∷ rest) found) more ≡ at_mark o m found rest more
mark_then o None m rest more fit tail stop = no_field (m == o.separator) (more rest) rest
mark_then o (Some found) m rest more fit tail stop = by found.0 found.1 tail
  where
    by : (f : CsvField) (after : List ℕ) → IsTail o after → fields_then o (Some (f, after ++ m ∷ rest)) more ≡ at_mark o m (Some (f, after)) rest more
    by f [] tail = stop_then o f m rest more stop
    by f (b ∷ []) tail = return_then o f b m rest more fit tail.0 tail.1 stop
    by f (b ∷ c ∷ bs) tail =
        returned_first o f b (c ∷ bs ++ m ∷ rest) more tail.0 tail.1 ∙ not_returned o f c (bs ++ m ∷ rest) tail.2 ∙ no_field (m == o.separator) (more rest) rest

record_at_mark : (o : Dialect) (at n : ℕ) (text marks : List ℕ)
    → record_by_marks o at text ((at + n) ∷ marks) ≡ at_mark o (get_or text n 0) (field_at o (take n text)) (drop (suc n) text) (λ rest. record_by_marks o (at + n + 1) rest marks)
record_at_mark o at n text marks =
    let back : at + n - at ≡ n = omega arith in
    let one : n + 1 ≡ suc n = omega arith in
    ap (λ (k : ℕ). if get_or text k 0 == o.separator
    then field_then (field_between o false (take k text)) (record_by_marks o (at + n + 1) (drop (k + 1) text) marks)
    else last_then (field_between o true (take k text)) (drop (k + 1) text)) back
    ∙ ap (λ (k : ℕ). if get_or text n 0 == o.separator
    then field_then (field_between o false (take n text)) (record_by_marks o (at + n + 1) (drop k text) marks)
    else last_then (field_between o true (take n text)) (drop k text)) one

-- a sound text is split at its marks as the grammar splits it
pub by_marks : (o : Dialect) (n at : ℕ) (text : List ℕ) → IsDialect o → length text < n → Sound o field_start text
    → fields_up_to n o text ≡ record_by_marks o at text (marks_from (is_quote o.quote) (stops o) at false text)
by_marks o zero at text fit room sound = absurd (omega arith)
by_marks o (suc n) at text fit room sound =
    by (λ (k : ℕ) (below : k < length text) (rest : Sound o field_start (drop (suc k) text)). by_marks o n (at + k + 1) (drop (suc k) text) fit (omega (arith, length-drop (suc k) text)) rest)
    (field_cut o text fit sound) (first_mark o at false text)
  where
    more : Later
    more = λ rest. fields_up_to n o rest

    by : ((k : ℕ) → k < length text → Sound o field_start (drop (suc k) text)
        → fields_up_to n o (drop (suc k) text) ≡ record_by_marks o (at + k + 1) (drop (suc k) text) (marks_from (is_quote o.quote) (stops o) (at + k + 1) false (drop (suc k) text)))
        → FieldCut o text (span o false text) → NoMark o at false text (span o false text) ⊎ MarkAt o at false text (span o false text)
        → fields_then o (field_at o text) more ≡ record_by_marks o at text (marks_from (is_quote o.quote) (stops o) at false text)
    by later cut (inl none) =
        let all : take (span o false text) text ≡ text = take_all (span o false text) text (omega (arith, none.whole)) in
        text_ended o (field_at o text) more (subst (λ (xs : List ℕ). Tails o (field_at o xs)) all cut.tail)
        ∙ ap (record_by_marks o at text) (sym none.marks)
    by later cut (inr some) =
        let k = span o false text in
        let found = field_at o (take k text) in
        let m = get_or text k 0 in
        let rest = drop (suc k) text in
        ap (λ (x : Option (CsvField × List ℕ)). fields_then o x more) (cut.value ∙ ap (λ (xs : List ℕ). onto xs found) (drop-cons text k 0 some.below))
        ∙ mark_then o found m rest more fit cut.tail some.stop
        ∙ ap (λ (x : Option (List CsvField × List ℕ)). if m == o.separator then field_then (whole_field o false found) x else last_then (whole_field o true found) rest) (later k some.below cut.rest)
        ∙ sym (record_at_mark o at k text (marks_from (is_quote o.quote) (stops o) (at + k + 1) false rest))
        ∙ ap (record_by_marks o at text) (sym some.marks)

-- the record that a sound text begins with, where no prefix makes a comment
pub record_found : (o : Dialect) (text : List ℕ) → IsDialect o → o.comment ≡ None → Sound o field_start text
    → record_at o text ≡ fields_record (record_by_marks o 0 text (marks_from (is_quote o.quote) (stops o) 0 false text))
record_found o text fit plain sound =
    ap (λ (p : Option (List ℕ)). record_then_fields o text (comment_body p text)) plain
    ∙ ap fields_record (by_marks o (length text + 1) 0 text fit (omega arith) sound)
