-- Fields of a text in which there is no byte 13: each is whole.
use Rattle.std.proofs.Common.{◌≡◌, ◌⊎◌, inl, inr, refl, ℕ, zero, suc, ◌<◌, ◌∙◌, sym, ap, subst, arith, Bool, true, false, ◌&&◌, ◌==◌, List, [], ◌∷◌, length, get_or, take, drop, length-drop, Option, Some}
use Rattle.std.proofs.lemmas.Bool.{cases_Bool, eqb-true}
use Rattle.morsel_grammar.specs.Dialect.{Dialect, IsDialect, IsWithout}
use Rattle.morsel_grammar.specs.Grammar.{CsvField}
use Rattle.morsel_grammar.specs.Split.{is_quote, stops, with_byte, quoted_at, in_quotes, field_at, last_field}
use Rattle.morsel_marks.specs.Marks.{field_start, field_ends}
use Rattle.morsel_marks.specs.ByMarks.{whole_field, field_between, begin_after, field_bytes}
use Rattle.morsel_marks.specs.MarkedRows.{HasWholeFields}
use Rattle.morsel_marks.proofs.BridgeLemmas.{Sound, span, IsTail, Tails, IsQuoteOf, FieldCut, field_cut, quote_of, span_is, quoted_other, quoted_doubled, quoted_closed, quoted_last, quoted_first, and_none, BeginsPlain}
use Rattle.morsel_marks.proofs.WalkLemmas.{walk_step, walk_all}
use Rattle.morsel_marks.proofs.ReadLemmas.{sound_of}

without_take : (n : ℕ) (xs : List ℕ) → IsWithout 13 xs → IsWithout 13 (take n xs)
without_take zero xs is = tt
without_take (suc n) [] is = tt
without_take (suc n) (x ∷ xs) is = (is.0, without_take n xs is.1)

without_drop : (n : ℕ) (xs : List ℕ) → IsWithout 13 xs → IsWithout 13 (drop n xs)
without_drop zero xs is = is
without_drop (suc n) [] is = tt
without_drop (suc n) (x ∷ xs) is = without_drop n xs is.1

-- what was found in quotes, and nothing that is a byte 13 after it
record Closes (quote : ℕ) (text : List ℕ) : Type 0 where
  content : List ℕ
  tail : List ℕ
  found : quoted_at quote text ≡ Some (content, tail)
  without : IsWithout 13 tail

closes_more : (quote b : ℕ) (text more : List ℕ) → quoted_at quote more ≡ with_byte b (quoted_at quote text) → Closes quote text → Closes quote more
closes_more quote b text more is closes = record {
  content = b ∷ closes.content;
  tail = closes.tail;
  found = is ∙ ap (with_byte b) closes.found;
  without = closes.without;
}

-- a quote that closes, and what follows it
closes_here : (quote b : ℕ) (after : List ℕ) (n : ℕ) → (b == quote) ≡ true → ((c : ℕ) (cs : List ℕ) → after ≡ c ∷ cs → (c == quote) ≡ false) → IsWithout 13 after
    → Closes quote (b ∷ take n after)
closes_here quote b after zero first other without = record { content = []; tail = []; found = quoted_last quote b first; without = tt }
closes_here quote b [] (suc n) first other without = record { content = []; tail = []; found = quoted_last quote b first; without = tt }
closes_here quote b (c ∷ cs) (suc n) first other without =
    record { content = []; tail = c ∷ take n cs; found = quoted_closed quote b c (take n cs) first (other c cs refl); without = (without.0, without_take n cs without.1) }

-- where a mark follows, the quotes close before it
closes : (o : Dialect) (quote : ℕ) → IsQuoteOf o quote → (text : List ℕ) → span o true text < length text → IsWithout 13 text → Closes quote (take (span o true text) text)
closes o quote quotes [] below without = absurd (omega arith)
closes o quote quotes (b ∷ []) below without = by (cases_Bool (b == quote))
  where
    by : ((b == quote) ≡ true) ⊎ ((b == quote) ≡ false) → Closes quote (take (span o true (b ∷ [])) (b ∷ []))
    by (inl first) =
        let is = span_is o quote b true [] true quotes first (ap (λ (t : Bool). t && true) (quotes.1 b first)) in
        absurd (omega (arith, is, below))
    by (inr other) =
        let is = span_is o quote b true [] false quotes other (and_none (stops o b)) in
        absurd (omega (arith, is, below))
closes o quote quotes (b ∷ c ∷ bs) below without = by (λ s w. closes o quote quotes bs s w) (λ s w. closes o quote quotes (c ∷ bs) s w) (cases_Bool (b == quote))
  where
    on : (n : ℕ) → span o true (b ∷ c ∷ bs) ≡ suc n → Closes quote (b ∷ take n (c ∷ bs)) → Closes quote (take (span o true (b ∷ c ∷ bs)) (b ∷ c ∷ bs))
    on n is found = subst (λ (k : ℕ). Closes quote (take k (b ∷ c ∷ bs))) (sym is) found

    second_by : (span o true bs < length bs → IsWithout 13 bs → Closes quote (take (span o true bs) bs)) → (b == quote) ≡ true
        → span o true (b ∷ c ∷ bs) ≡ suc (span o false (c ∷ bs)) → ((c == quote) ≡ true) ⊎ ((c == quote) ≡ false)
        → Closes quote (take (span o true (b ∷ c ∷ bs)) (b ∷ c ∷ bs))
    second_by two first is (inl second) =
        let next = span_is o quote c false bs true quotes second (and_none (stops o c)) in
        on (suc (span o true bs)) (is ∙ ap suc next)
        (closes_more quote quote (take (span o true bs) bs) (b ∷ c ∷ take (span o true bs) bs) (quoted_doubled quote b c (take (span o true bs) bs) first second)
        (two (omega (arith, is, next, below)) without.1.1))
    second_by two first is (inr second) =
        on (span o false (c ∷ bs)) is
        (closes_here quote b (c ∷ bs) (span o false (c ∷ bs)) first (λ d ds same. subst (λ (xs : List ℕ). (get_or xs 0 0 == quote) ≡ false) same second) without.1)

    by : (span o true bs < length bs → IsWithout 13 bs → Closes quote (take (span o true bs) bs))
        → (span o true (c ∷ bs) < length (c ∷ bs) → IsWithout 13 (c ∷ bs) → Closes quote (take (span o true (c ∷ bs)) (c ∷ bs)))
        → ((b == quote) ≡ true) ⊎ ((b == quote) ≡ false) → Closes quote (take (span o true (b ∷ c ∷ bs)) (b ∷ c ∷ bs))
    by two one (inl first) =
        second_by two first (span_is o quote b true (c ∷ bs) true quotes first (ap (λ (t : Bool). t && true) (quotes.1 b first))) (cases_Bool (c == quote))
    by two one (inr other) =
        let is = span_is o quote b true (c ∷ bs) false quotes other (and_none (stops o b)) in
        on (span o true (c ∷ bs)) is
        (closes_more quote b (take (span o true (c ∷ bs)) (c ∷ bs)) (b ∷ take (span o true (c ∷ bs)) (c ∷ bs)) (quoted_other quote b (take (span o true (c ∷ bs)) (c ∷ bs)) other)
        (one (omega (arith, is, below)) without.1))

-- the field before a mark is found, with nothing after it
record IsWholeAt (o : Dialect) (raw : List ℕ) : Type 0 where
  field : CsvField
  found : field_at o raw ≡ Some (field, [])

no_tail : (o : Dialect) (tail : List ℕ) → IsTail o tail → IsWithout 13 tail → tail ≡ []
no_tail o [] is without = refl
no_tail o (b ∷ bs) is without = absurd (without.0 (eqb-true b 13 is.0))

whole_at : (o : Dialect) (text : List ℕ) → IsDialect o → Sound o field_start text → span o false text < length text → IsWithout 13 text → IsWholeAt o (take (span o false text) text)
whole_at o [] fit sound below without = absurd (omega arith)
whole_at o (b ∷ bs) fit sound below without = by (field_cut o (b ∷ bs) fit sound) (cases_Bool (is_quote o.quote b))
  where
    by : FieldCut o (b ∷ bs) (span o false (b ∷ bs)) → (is_quote o.quote b ≡ true) ⊎ (is_quote o.quote b ≡ false) → IsWholeAt o (take (span o false (b ∷ bs)) (b ∷ bs))
    by cut (inl is) =
        let quotes = quote_of o b fit is in
        let same : (b == b) ≡ true = sym (quotes.0 b) ∙ is in
        let size = span_is o b b false bs true quotes same (and_none (stops o b)) in
        let n = span o true bs in
        let closed = closes o b quotes bs (omega (arith, size, below)) without.1 in
        let f : CsvField = record { quoted = true; bytes = closed.content } in
        let first = quoted_first o b (take n bs) is ∙ ap in_quotes closed.found in
        let tail : Tails o (field_at o (b ∷ take n bs)) = subst (λ (k : ℕ). Tails o (field_at o (take k (b ∷ bs)))) size cut.tail in
        let tail_is : IsTail o closed.tail = subst (Tails o) first tail in
        subst (λ (k : ℕ). IsWholeAt o (take k (b ∷ bs))) (sym size)
        (record { field = f; found = first ∙ ap (λ (xs : List ℕ). let found : Option (CsvField × List ℕ) = Some (f, xs) in found) (no_tail o closed.tail tail_is closed.without) })
    by cut (inr is) =
        record { field = record { quoted = false; bytes = take (span o false (b ∷ bs)) (b ∷ bs) }; found = cut.plain (begins (span o false (b ∷ bs))) }
      where
        begins : (n : ℕ) → BeginsPlain o (take n (b ∷ bs))
        begins zero = tt
        begins (suc n) = is

ended_or_not : (o : Dialect) (is_last : Bool) (f : CsvField) → (g : CsvField) × (whole_field o is_last (Some (f, [])) ≡ Some g)
ended_or_not o true f = (last_field o f, refl)
ended_or_not o false f = (f, refl)

marked_whole : (o : Dialect) (is_last : Bool) (raw : List ℕ) → IsWholeAt o raw → (g : CsvField) × (field_between o is_last raw ≡ Some g)
marked_whole o is_last raw whole = let one = ended_or_not o is_last whole.field in (one.0, ap (whole_field o is_last) whole.found ∙ one.1)

pub has_whole_fields : (o : Dialect) → IsDialect o → HasWholeFields o
has_whole_fields o fit = λ text j is_last is without below.
    let marks = field_ends o text in
    let walk = walk_all o text marks fit refl (sound_of o text is) j (omega arith) in
    let field = (walk_step o text marks j fit below walk).0 in
    let p = begin_after marks j in
    let rest = drop p text in
    let whole = whole_at o rest fit walk.sound (omega (arith, field.size, field.from, field.below, length-drop p text)) (without_drop p text without) in
    marked_whole o is_last (field_bytes text marks j) (subst (λ (k : ℕ). IsWholeAt o (take k rest)) field.size whole)
