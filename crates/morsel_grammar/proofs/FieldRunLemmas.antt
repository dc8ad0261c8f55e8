-- The machine that finds cuts goes over the field that is read at the front of a text.
use Rattle.std.proofs.Common.{◌≡◌, ℕ, ap, sym, refl, ◌∙◌, append_assoc}
use Rattle.std.specs.Prelude.{Bool, true, false, ◌==◌, if◌then◌else◌, Option, Some, None, List, [], ◌∷◌, ◌++◌}
use Rattle.morsel_grammar.specs.Dialect.{Dialect, IsWithout}
use Rattle.morsel_grammar.specs.Split.{is_quote, plain_at, quoted_at, with_byte, in_quotes, plain_field, field_at}
use Rattle.morsel_grammar.specs.Machine.{CutPlace, AfterSeparator, InPlain, InQuotes, AfterQuote, plain_step, first_step, place_step}
use Rattle.morsel_grammar.proofs.ByteLemmas.{other_byte}
use Rattle.morsel_grammar.proofs.PlainFieldLemmas.{IsStop, IsPlainText, plain_at-read, quote_is}
use Rattle.morsel_grammar.proofs.RunLemmas.{lone, IsRun, run_nothing, run_append, run_on}

-- content without quotes
pub plain_step-on : (o : Dialect) (b : ℕ) → (b == o.separator) ≡ false → (b == o.eol) ≡ false → plain_step o b ≡ InPlain
plain_step-on o b no_separator no_eol = rw (no_separator, no_eol) refl

pub first_step-plain : (o : Dialect) (b : ℕ) → is_quote o.quote b ≡ false → first_step o b ≡ plain_step o b
first_step-plain o b no_quote = rw no_quote refl

pub plain_run : (o : Dialect) (bytes : List ℕ) → IsWithout o.separator bytes → IsWithout o.eol bytes → IsRun o (lone InPlain) bytes (lone InPlain)
plain_run o [] no_separator no_eol = run_nothing o (lone InPlain)
plain_run o (b ∷ bs) no_separator no_eol =
    run_append o (lone InPlain) (lone InPlain) (lone InPlain) (b ∷ []) bs
    (run_on o InPlain InPlain b (plain_step-on o b (other_byte b o.separator no_separator.0) (other_byte b o.eol no_eol.0)) refl)
    (plain_run o bs no_separator.1 no_eol.1)

-- what follows an unquoted field ends it, and what follows a closing quote is no quote
abbrev pub Follows : Dialect → CutPlace → List ℕ → Type 0
Follows o AfterSeparator after = IsStop o after
Follows o InPlain after = IsStop o after
Follows o AfterQuote [] = Unit {0}
Follows o AfterQuote (b ∷ after) = is_quote o.quote b ≡ false
Follows o place after = ⊥

-- the text is a field that the machine goes over, and what follows; without a field it is in quotes up to its end
abbrev pub RunsField : {F : Type 0} → Dialect → List ℕ → Option (F × List ℕ) → Type 0
RunsField o text None = IsRun o (lone AfterSeparator) text (lone InQuotes)
RunsField o text (Some found) = (spelled : List ℕ) × (place : CutPlace) × (text ≡ spelled ++ found.1)
    × IsRun o (lone AfterSeparator) spelled (lone place) × Follows o place found.1

plain_content : (o : Dialect) (b : ℕ) (bs bytes after : List ℕ) → is_quote o.quote b ≡ false → IsPlainText o (b ∷ bs) (bytes, after)
    → (place : CutPlace) × IsRun o (lone AfterSeparator) bytes (lone place) × Follows o place after
plain_content o b bs [] after no_quote is = (AfterSeparator, run_nothing o (lone AfterSeparator), is.stop)
plain_content o b bs (c ∷ bytes) after no_quote is =
    let same : b ≡ c = first_of b c bs (bytes ++ after) is.is in
    let plain : place_step o AfterSeparator c ≡ InPlain =
    first_step-plain o c (ap (is_quote o.quote) (sym same) ∙ no_quote)
    ∙ plain_step-on o c (other_byte c o.separator is.no_separator.0) (other_byte c o.eol is.no_eol.0) in (
      InPlain,
      run_append o (lone AfterSeparator) (lone InPlain) (lone InPlain) (c ∷ []) bytes
          (run_on o AfterSeparator InPlain c plain refl)
          (plain_run o bytes is.no_separator.1 is.no_eol.1),
      is.stop,
    )
  where
    first_of : (x y : ℕ) (xs ys : List ℕ) → x ∷ xs ≡ y ∷ ys → x ≡ y
    first_of x y xs ys e = cc

plain_field_run : (o : Dialect) (b : ℕ) (bs : List ℕ) (found : List ℕ × List ℕ) → is_quote o.quote b ≡ false → IsPlainText o (b ∷ bs) found → RunsField o (b ∷ bs) (plain_field found)
plain_field_run o b bs found no_quote is =
    let content = plain_content o b bs found.0 found.1 no_quote is in (found.0, content.0, is.is, content.1, content.2)

-- content in quotes
quote_step : (o : Dialect) (q b : ℕ) → o.quote ≡ Some q → is_quote o.quote b ≡ (b == q)
quote_step o q b asked = ap (λ (x : Option ℕ). is_quote x b) asked

in_quotes_on : (o : Dialect) (q b : ℕ) → o.quote ≡ Some q → (b == q) ≡ false → IsRun o (lone InQuotes) (b ∷ []) (lone InQuotes)
in_quotes_on o q b asked other = run_on o InQuotes InQuotes b (ap (λ (t : Bool). if t then AfterQuote else InQuotes) (quote_step o q b asked ∙ other)) refl

in_quotes_quote : (o : Dialect) (q b : ℕ) → o.quote ≡ Some q → (b == q) ≡ true → IsRun o (lone InQuotes) (b ∷ []) (lone AfterQuote)
in_quotes_quote o q b asked is = run_on o InQuotes AfterQuote b (ap (λ (t : Bool). if t then AfterQuote else InQuotes) (quote_step o q b asked ∙ is)) refl

quote_again : (o : Dialect) (q b : ℕ) → o.quote ≡ Some q → (b == q) ≡ true → IsRun o (lone AfterQuote) (b ∷ []) (lone InQuotes)
quote_again o q b asked is = run_on o AfterQuote InQuotes b (rw (quote_step o q b asked ∙ is) refl) refl

-- the content that is found up to the closing quote; without one the machine stays in quotes
abbrev RunsQuoted : Dialect → List ℕ → Option (List ℕ × List ℕ) → Type 0
RunsQuoted o text None = IsRun o (lone InQuotes) text (lone InQuotes)
RunsQuoted o text (Some found) = (front : List ℕ) × (text ≡ front ++ found.1) × IsRun o (lone InQuotes) front (lone AfterQuote) × Follows o AfterQuote found.1

quoted_behind : (o : Dialect) (b : ℕ) (front text : List ℕ) (found : Option (List ℕ × List ℕ)) → IsRun o (lone InQuotes) front (lone InQuotes)
    → RunsQuoted o text found → RunsQuoted o (front ++ text) (with_byte b found)
quoted_behind o b front text None run later = run_append o (lone InQuotes) (lone InQuotes) (lone InQuotes) front text run later
quoted_behind o b front text (Some found) run later = (
  front ++ later.0,
  ap (λ (x : List ℕ). front ++ x) later.1 ∙ sym (append_assoc front later.0 found.1),
  run_append o (lone InQuotes) (lone InQuotes) (lone AfterQuote) front later.0 run later.2,
  later.3,
)

quoted_last : (o : Dialect) (q b : ℕ) (t : Bool) → o.quote ≡ Some q → (b == q) ≡ t → RunsQuoted o (b ∷ []) (if t then Some ([], []) else None)
quoted_last o q b true asked is = (b ∷ [], refl, in_quotes_quote o q b asked is, tt)
quoted_last o q b false asked is = in_quotes_on o q b asked is

quoted_two : (o : Dialect) (q b c : ℕ) (bs : List ℕ) (behind next : Option (List ℕ × List ℕ)) (t u : Bool) → o.quote ≡ Some q → (b == q) ≡ t → (c == q) ≡ u
    → RunsQuoted o bs behind → RunsQuoted o (c ∷ bs) next
    → RunsQuoted o (b ∷ c ∷ bs) (if t then (if u then with_byte q behind else Some ([], c ∷ bs)) else with_byte b next)
quoted_two o q b c bs behind next true true asked b_is c_is later other =
    quoted_behind o q (b ∷ c ∷ []) bs behind
    (run_append o (lone InQuotes) (lone AfterQuote) (lone InQuotes) (b ∷ []) (c ∷ []) (in_quotes_quote o q b asked b_is) (quote_again o q c asked c_is)) later
quoted_two o q b c bs behind next true false asked b_is c_is later other =
    (b ∷ [], refl, in_quotes_quote o q b asked b_is, quote_step o q c asked ∙ c_is)
quoted_two o q b c bs behind next false u asked b_is c_is later other = quoted_behind o b (b ∷ []) (c ∷ bs) next (in_quotes_on o q b asked b_is) other

quoted_at-run : (o : Dialect) (q : ℕ) (text : List ℕ) → o.quote ≡ Some q → RunsQuoted o text (quoted_at q text)
quoted_at-run o q [] asked = run_nothing o (lone InQuotes)
quoted_at-run o q (b ∷ []) asked = quoted_last o q b (b == q) asked refl
quoted_at-run o q (b ∷ c ∷ bs) asked =
    quoted_two o q b c bs (quoted_at q bs) (quoted_at q (c ∷ bs)) (b == q) (c == q) asked refl refl (quoted_at-run o q bs asked) (quoted_at-run o q (c ∷ bs) asked)

quoted_field_run : (o : Dialect) (b : ℕ) (bs : List ℕ) (found : Option (List ℕ × List ℕ)) → IsRun o (lone AfterSeparator) (b ∷ []) (lone InQuotes)
    → RunsQuoted o bs found → RunsField o (b ∷ bs) (in_quotes found)
quoted_field_run o b bs None opens is = run_append o (lone AfterSeparator) (lone InQuotes) (lone InQuotes) (b ∷ []) bs opens is
quoted_field_run o b bs (Some found) opens is = (
  b ∷ is.0,
  AfterQuote,
  ap (λ (x : List ℕ). b ∷ x) is.1,
  run_append o (lone AfterSeparator) (lone InQuotes) (lone AfterQuote) (b ∷ []) is.0 opens is.2,
  is.3,
)

first_run : (o : Dialect) (b : ℕ) (bs : List ℕ) (t : Bool) → is_quote o.quote b ≡ t
    → RunsField o (b ∷ bs) (if t then in_quotes (quoted_at b bs) else plain_field (plain_at o (b ∷ bs)))
first_run o b bs true is =
    quoted_field_run o b bs (quoted_at b bs) (run_on o AfterSeparator InQuotes b (rw is refl) refl) (quoted_at-run o b bs (quote_is o.quote b is))
first_run o b bs false is = plain_field_run o b bs (plain_at o (b ∷ bs)) is (plain_at-read o (b ∷ bs))

-- the field that is read at the front of a text
pub field_at-run : (o : Dialect) (text : List ℕ) → RunsField o text (field_at o text)
field_at-run o [] = ([], AfterSeparator, refl, run_nothing o (lone AfterSeparator), tt)
field_at-run o (b ∷ bs) = first_run o b bs (is_quote o.quote b) refl
