-- Up to the next quote, only the last byte counts for the place, and the last eol byte for the end.
use Rattle.std.proofs.Common.{◌≡◌, ◌≢◌, ℕ, zero, suc, ◌+◌, ◌-◌, ◌<◌, ◌≤◌, ◌∙◌, sym, ap, refl, arith, Bool, true, false, ◌==◌, List, [], ◌∷◌, ◌++◌, length, take, drop, get_or, subst}
use Rattle.std.proofs.lemmas.Bool.Decides.{Decides-eqb}
use Rattle.std.proofs.lemmas.List.{get_or-take, length-take, length-take-le, take_rest}
use Rattle.std.proofs.Math.Seq.{take-add}
use Rattle.std.specs.Prelude.{Option, if◌then◌else◌}
use Rattle.morsel_grammar.specs.Dialect.{Dialect}
use Rattle.morsel_grammar.specs.Split.{is_quote}
use Rattle.morsel_grammar.specs.Machine.{CutPlace, AfterMark, AfterEol, AfterSeparator, InPlain, InQuotes, state_after, last_place, place_or_later, joined_place, plain_step, place_step, is_after_eol, begins_record}
use Rattle.morsel_cut.specs.Places.{cut_place, IsOutside}
use Rattle.morsel_cut.specs.Runs.{up_to_last, RunsTo}
use Rattle.morsel_cut.specs.declared.step.ByteAt.{ByteAt}
use Rattle.morsel_cut.specs.declared.step.ByteAt.TheVariants as places
use Rattle.morsel_cut.specs.declared.pass.PlaceRun.{PlaceRun}
use Rattle.morsel_grammar.proofs.StateLemmas.{state_after-append, last_place-append, last_place-within}

-- none of these bytes is a quote
abbrev pub AreUnquoted : Option ℕ → List ℕ → Type 0
AreUnquoted quote bytes = (k : ℕ) → k < length bytes → is_quote quote (get_or bytes k 0) ≡ false

unquoted_behind : (quote : Option ℕ) (b : ℕ) (bs : List ℕ) → AreUnquoted quote (b ∷ bs) → AreUnquoted quote bs
unquoted_behind quote b bs unquoted = λ k below. unquoted (suc k) (omega arith)

pub outside_step : (o : Dialect) (place : CutPlace) (b : ℕ) → IsOutside place → is_quote o.quote b ≡ false → place_step o place b ≡ plain_step o b
outside_step o AfterMark b outside other = rw other refl
outside_step o AfterEol b outside other = rw other refl
outside_step o AfterSeparator b outside other = rw other refl
outside_step o InPlain b outside other = refl
outside_step o place b outside other = absurd outside

pub plain_outside : (o : Dialect) (b : ℕ) → IsOutside (plain_step o b)
plain_outside o b = by (b == o.separator) (b == o.eol)
  where
    by : (s e : Bool) → IsOutside (if s then AfterSeparator else (if e then AfterEol else InPlain))
    by true e = tt
    by false true = tt
    by false false = tt

-- the place after some bytes that are no quotes is that after the last one
pub outside_after : (o : Dialect) (place : CutPlace) (bytes : List ℕ) (n : ℕ) → IsOutside place → AreUnquoted o.quote bytes → length bytes ≡ suc n
    → state_after (place_step o) place bytes ≡ plain_step o (get_or bytes n 0)
outside_after o place [] n outside unquoted size = absurd (omega arith)
outside_after o place (b ∷ []) zero outside unquoted size = outside_step o place b outside (unquoted 0 (omega arith))
outside_after o place (b ∷ []) (suc n) outside unquoted size = absurd (omega arith)
outside_after o place (b ∷ c ∷ bs) zero outside unquoted size = absurd (omega arith)
outside_after o place (b ∷ c ∷ bs) (suc n) outside unquoted size =
    ap (λ p. state_after (place_step o) p (c ∷ bs)) (outside_step o place b outside (unquoted 0 (omega arith)))
    ∙ outside_after o (plain_step o b) (c ∷ bs) n (plain_outside o b) (unquoted_behind o.quote b (c ∷ bs) unquoted) (omega arith)

-- a test that is true after an eol byte alone
outside_last : (o : Dialect) (test : CutPlace → Bool) (place : CutPlace) (bytes : List ℕ) → ((b : ℕ) → test (plain_step o b) ≡ (b == o.eol))
    → IsOutside place → AreUnquoted o.quote bytes → last_place (place_step o) test place bytes ≡ up_to_last o.eol bytes
outside_last o test place [] tests outside unquoted = refl
outside_last o test place (b ∷ bs) tests outside unquoted =
    ap (λ p. place_or_later (test p) (last_place (place_step o) test p bs)) (outside_step o place b outside (unquoted 0 (omega arith)))
    ∙ ap (λ t. place_or_later t (last_place (place_step o) test (plain_step o b) bs)) (tests b)
    ∙ ap (place_or_later (b == o.eol)) (outside_last o test (plain_step o b) bs tests (plain_outside o b) (unquoted_behind o.quote b bs unquoted))

same_byte : (a b : ℕ) → (a == b) ≡ true → a ≡ b
same_byte a b is = (Decides-eqb a b).0 is

pub ends_at_eol : (o : Dialect) → o.separator ≢ o.eol → (b : ℕ) → is_after_eol (plain_step o b) ≡ (b == o.eol)
ends_at_eol o apart b = by (b == o.separator) (b == o.eol) refl refl
  where
    by : (s e : Bool) → (b == o.separator) ≡ s → (b == o.eol) ≡ e → is_after_eol (if s then AfterSeparator else (if e then AfterEol else InPlain)) ≡ e
    by true true one other = absurd (apart (sym (same_byte b o.separator one) ∙ same_byte b o.eol other))
    by true false one other = refl
    by false true one other = refl
    by false false one other = refl

begins_at_eol : (o : Dialect) → o.separator ≢ o.eol → (b : ℕ) → begins_record (plain_step o b) ≡ (b == o.eol)
begins_at_eol o apart b = by (b == o.separator) (b == o.eol) refl refl
  where
    by : (s e : Bool) → (b == o.separator) ≡ s → (b == o.eol) ≡ e → begins_record (if s then AfterSeparator else (if e then AfterEol else InPlain)) ≡ e
    by true true one other = absurd (apart (sym (same_byte b o.separator one) ∙ same_byte b o.eol other))
    by true false one other = refl
    by false true one other = refl
    by false false one other = refl

pub outside_end : (o : Dialect) (place : CutPlace) (bytes : List ℕ) → o.separator ≢ o.eol → IsOutside place → AreUnquoted o.quote bytes
    → last_place (place_step o) is_after_eol place bytes ≡ up_to_last o.eol bytes
outside_end o place bytes apart outside unquoted = outside_last o is_after_eol place bytes (ends_at_eol o apart) outside unquoted

pub outside_begin : (o : Dialect) (place : CutPlace) (bytes : List ℕ) → o.separator ≢ o.eol → IsOutside place → AreUnquoted o.quote bytes
    → last_place (place_step o) begins_record place bytes ≡ up_to_last o.eol bytes
outside_begin o place bytes apart outside unquoted = outside_last o begins_record place bytes (begins_at_eol o apart) outside unquoted

-- in quotes, bytes that are no quotes change nothing
pub quotes_after : (o : Dialect) (bytes : List ℕ) → AreUnquoted o.quote bytes → state_after (place_step o) InQuotes bytes ≡ InQuotes
quotes_after o [] unquoted = refl
quotes_after o (b ∷ bs) unquoted =
    let still : place_step o InQuotes b ≡ InQuotes = rw (unquoted 0 (omega arith)) refl in
    ap (λ p. state_after (place_step o) p bs) still ∙ quotes_after o bs (unquoted_behind o.quote b bs unquoted)

pub quotes_last : (o : Dialect) (test : CutPlace → Bool) (bytes : List ℕ) → test InQuotes ≡ false → AreUnquoted o.quote bytes → last_place (place_step o) test InQuotes bytes ≡ 0
quotes_last o test [] ends unquoted = refl
quotes_last o test (b ∷ bs) ends unquoted =
    let still : place_step o InQuotes b ≡ InQuotes = rw (unquoted 0 (omega arith)) refl in
    ap (λ p. place_or_later (test p) (last_place (place_step o) test p bs)) still
    ∙ ap (λ t. place_or_later t (last_place (place_step o) test InQuotes bs)) ends
    ∙ ap (place_or_later false) (quotes_last o test bs ends (unquoted_behind o.quote b bs unquoted))

-- the last of a text that is this byte
pub up_to_last-none : (byte : ℕ) (text : List ℕ) → ((k : ℕ) → k < length text → (get_or text k 0 == byte) ≡ true → ⊥) → up_to_last byte text ≡ 0
up_to_last-none byte [] none = refl
up_to_last-none byte (b ∷ bs) none =
    ap (place_or_later (b == byte)) (up_to_last-none byte bs (λ k below. none (suc k) (omega arith)))
    ∙ by (b == byte) (none 0 (omega arith))
  where
    by : (t : Bool) → (t ≡ true → ⊥) → place_or_later t 0 ≡ 0
    by true never = absurd (never refl)
    by false never = refl

pub up_to_last-at : (byte : ℕ) (text : List ℕ) (at : ℕ) → at < length text → (get_or text at 0 == byte) ≡ true
    → ((k : ℕ) → at < k → k < length text → (get_or text k 0 == byte) ≡ true → ⊥) → up_to_last byte text ≡ suc at
up_to_last-at byte [] at within is after = absurd (omega arith)
up_to_last-at byte (b ∷ bs) zero within is after =
    ap (place_or_later (b == byte)) (up_to_last-none byte bs (λ k below. after (suc k) (omega arith) (omega arith)))
    ∙ ap (λ t. place_or_later t 0) is
up_to_last-at byte (b ∷ bs) (suc at) within is after =
    ap (place_or_later (b == byte)) (up_to_last-at byte bs at (omega arith) is (λ k behind below. after (suc k) (omega arith) (omega arith)))

-- the same of the front of a text
pub unquoted_front : (quote : Option ℕ) (text : List ℕ) (n : ℕ) → ((k : ℕ) → k < n → is_quote quote (get_or text k 0) ≡ false) → AreUnquoted quote (take n text)
unquoted_front quote text n unquoted = λ k below.
    let before : k < n = omega (arith, length-take n text) in
    ap (is_quote quote) (get_or-take n text k 0 before) ∙ unquoted k before

pub quotes_run : (o : Dialect) (from : ByteAt) (bytes : List ℕ) → from ≡ places.InQuotes → AreUnquoted o.quote bytes
    → RunsTo o (cut_place from) bytes (record { place = from; end = 0; begin = 0 })
quotes_run o from bytes is unquoted =
    let P : ByteAt → Type 0 = λ f. RunsTo o (cut_place f) bytes (record { place = f; end = 0; begin = 0 }) in
    subst P (sym is) (record {
      place_is = sym (quotes_after o bytes unquoted);
      end_is = sym (quotes_last o is_after_eol bytes refl unquoted);
      begin_is = sym (quotes_last o begins_record bytes refl unquoted);
    })

-- two runs are one
pub run_then : (o : Dialect) (place : CutPlace) (front back : List ℕ) (run next both : PlaceRun) → RunsTo o place front run → RunsTo o (cut_place run.place) back next
    → both.place ≡ next.place → both.end ≡ joined_place run.end (length front) next.end → both.begin ≡ joined_place run.begin (length front) next.begin
    → RunsTo o place (front ++ back) both
run_then o place front back run next both first second place_is end_is begin_is = record {
  place_is = ap cut_place place_is ∙ second.place_is ∙ ap (λ p. state_after (place_step o) p back) first.place_is ∙ sym (state_after-append (place_step o) place front back);
  end_is = end_is ∙ ap (λ n. joined_place n (length front) next.end) first.end_is
      ∙ ap (joined_place (last_place (place_step o) is_after_eol place front) (length front))
      (second.end_is ∙ ap (λ p. last_place (place_step o) is_after_eol p back) first.place_is)
      ∙ sym (last_place-append (place_step o) is_after_eol place front back);
  begin_is = begin_is ∙ ap (λ n. joined_place n (length front) next.begin) first.begin_is
      ∙ ap (joined_place (last_place (place_step o) begins_record place front) (length front))
      (second.begin_is ∙ ap (λ p. last_place (place_step o) begins_record p back) first.place_is)
      ∙ sym (last_place-append (place_step o) begins_record place front back);
}

-- a run of the front of what is left of a text
pub run_on : (o : Dialect) (place : CutPlace) (text : List ℕ) (at len : ℕ) (run next both : PlaceRun) → at ≤ length text → RunsTo o place (take at text) run
    → RunsTo o (cut_place run.place) (take len (take (length text - at) (drop at text))) next
    → both.place ≡ next.place → both.end ≡ joined_place run.end at next.end → both.begin ≡ joined_place run.begin at next.begin
    → RunsTo o place (take (at + len) text) both
run_on o place text at len run next both within first second place_is end_is begin_is =
    let size = sym (length-take-le at text within) in
    subst (λ (bytes : List ℕ). RunsTo o place bytes both) (sym (take-add at len text))
    (run_then o place (take at text) (take len (drop at text)) run next both first
    (subst (λ (rest : List ℕ). RunsTo o (cut_place run.place) (take len rest) next) (take_rest text at) second)
    place_is (end_is ∙ ap (λ (n : ℕ). joined_place run.end n next.end) size) (begin_is ∙ ap (λ (n : ℕ). joined_place run.begin n next.begin) size))

-- no end is behind the bytes
pub run_end-le : (o : Dialect) (place : CutPlace) (bytes : List ℕ) (run : PlaceRun) → RunsTo o place bytes run → run.end ≤ length bytes
run_end-le o place bytes run runs = omega (arith, runs.end_is, last_place-within (place_step o) is_after_eol place bytes)

pub run_begin-le : (o : Dialect) (place : CutPlace) (bytes : List ℕ) (run : PlaceRun) → RunsTo o place bytes run → run.begin ≤ length bytes
run_begin-le o place bytes run runs = omega (arith, runs.begin_is, last_place-within (place_step o) begins_record place bytes)
