-- Quotes told by their number: where each stands as it mostly does, what is told of a byte is what the machine knows of it.
use Rattle.std.proofs.Common.{◌≡◌, ℕ, zero, suc, ◌∙◌, sym, ap, ap₂, refl, arith, subst, Bool, true, false, not, ◌&&◌, ◌||◌, ◌==◌, List, [], ◌∷◌, length, get_or}
use Rattle.std.specs.Prelude.{if◌then◌else◌}
use Rattle.morsel_grammar.specs.Dialect.{Dialect, IsDialect}
use Rattle.morsel_grammar.specs.Split.{is_quote}
use Rattle.morsel_grammar.specs.Machine.{CutPlace, AfterMark, AfterEol, AfterSeparator, InPlain, InQuotes, AfterQuote, AfterReturn, BrokenQuote, state_after, place_step, plain_step, is_after_eol}
use Rattle.morsel_cut.specs.Blocks.{is_in_plain, is_in_quotes, is_after_quote, IsAmongFields, tests_after}
use Rattle.morsel_cut.proofs.BlankLemmas.{separator_no_eol, quote_no_eol}

-- what the bytes before a place tell of it
pub record Told : Type 0 where
  pub before : Bool  -- a quote may open here: a separator, an eol byte or a quote is before it
  pub inside : Bool  -- the number of quotes before it is odd
  pub closed : Bool  -- a quote that closes is before it

-- a quote turns whether a place is inside quotes
abbrev pub turned : Bool → Bool → Bool
turned true quoted = not quoted
turned false quoted = quoted

-- with one byte more: whether it is a quote, a separator, an eol byte
abbrev told_by : (is_quote is_separator is_eol : Bool) → Told → Told
told_by q s e t = record { before = (s || e) || q; inside = turned q t.inside; closed = q && not (turned q t.inside) }

-- a quote that opens where none may, or a closing one that is followed by something else
abbrev fault_by : (is_quote is_separator is_eol : Bool) → Told → Bool
fault_by q s e t = (q && turned q t.inside && not t.before) || (t.closed && not ((s || e) || q))

abbrev pub told_step : Dialect → Told → ℕ → Told
told_step o t b = told_by (is_quote o.quote b) (b == o.separator) (b == o.eol) t

abbrev pub is_fault : Dialect → Told → ℕ → Bool
is_fault o t b = fault_by (is_quote o.quote b) (b == o.separator) (b == o.eol) t

abbrev pub told_after : Dialect → Told → List ℕ → Told
told_after o t bytes = state_after (told_step o) t bytes

-- no byte is a fault
abbrev pub is_sound : Dialect → Told → List ℕ → Bool
is_sound o t [] = true
is_sound o t (b ∷ bs) = not (is_fault o t b) && is_sound o (told_step o t b) bs

-- after each byte, whether it is an eol byte outside quotes
abbrev pub ends_told : Dialect → Bool → List ℕ → List Bool
ends_told o inside [] = []
ends_told o inside (b ∷ bs) = (b == o.eol && not (turned (is_quote o.quote b) inside)) ∷ ends_told o (turned (is_quote o.quote b) inside) bs

-- what is told is what the machine knows
pub record Tells (p : CutPlace) (t : Told) : Type 0 where
  pub among : IsAmongFields p
  pub inside : t.inside ≡ is_in_quotes p
  pub closed : t.closed ≡ is_after_quote p
  pub before : is_in_quotes p ≡ false → t.before ≡ not (is_in_plain p)

-- a place after a byte, and what is told of it
record Moves (q s e : Bool) (plain next : CutPlace) (inside : Bool) : Type 0 where
  among : IsAmongFields next
  inside_is : turned q inside ≡ is_in_quotes next
  closed_is : (q && not (turned q inside)) ≡ is_after_quote next
  before_is : is_in_quotes next ≡ false → ((s || e) || q) ≡ not (is_in_plain next)
  ends_is : (e && not (turned q inside)) ≡ is_after_eol next
  last_is : is_in_quotes next ≡ false → is_after_quote next ≡ false → next ≡ plain

abbrev plain_by : (is_separator is_eol : Bool) → CutPlace
plain_by s e = if s then AfterSeparator else (if e then AfterEol else InPlain)

-- the machine's step, by what the byte is
abbrev next_by : CutPlace → (is_quote is_separator is_eol is_return : Bool) → CutPlace
next_by InPlain q s e r = plain_by s e
next_by InQuotes q s e r = if q then AfterQuote else InQuotes
next_by AfterQuote q s e r = if q then InQuotes else (if s then AfterSeparator else (if e then AfterEol else (if r then AfterReturn else BrokenQuote)))
next_by place q s e r = if q then InQuotes else plain_by s e

next_is : (o : Dialect) (p : CutPlace) (b : ℕ) → IsAmongFields p
    → place_step o p b ≡ next_by p (is_quote o.quote b) (b == o.separator) (b == o.eol) (b == 13 && o.eol == 10)
next_is o AfterMark b among = refl
next_is o AfterEol b among = refl
next_is o AfterSeparator b among = refl
next_is o InPlain b among = refl
next_is o InQuotes b among = refl
next_is o AfterQuote b among = refl
next_is o p b among = absurd among

-- a byte that is no quote, outside quotes
plain_moves : (s e : Bool) → (s && e) ≡ false → Moves false s e (plain_by s e) (plain_by s e) false
plain_moves true true apart = cc
plain_moves true false apart = record { among = tt; inside_is = refl; closed_is = refl; before_is = λ out. refl; ends_is = refl; last_is = λ out off. refl }
plain_moves false true apart = record { among = tt; inside_is = refl; closed_is = refl; before_is = λ out. refl; ends_is = refl; last_is = λ out off. refl }
plain_moves false false apart = record { among = tt; inside_is = refl; closed_is = refl; before_is = λ out. refl; ends_is = refl; last_is = λ out off. refl }

-- a quote that opens
open_moves : (s e : Bool) (plain : CutPlace) → e ≡ false → Moves true s e plain InQuotes false
open_moves s true plain other = cc
open_moves s false plain other = record { among = tt; inside_is = refl; closed_is = refl; before_is = λ out. cc; ends_is = refl; last_is = λ out off. cc }

either_and_more : (s : Bool) → ((s || false) || true) ≡ true
either_and_more true = refl
either_and_more false = refl

-- a quote in quotes
close_moves : (s e : Bool) (plain : CutPlace) → e ≡ false → Moves true s e plain AfterQuote true
close_moves s true plain other = cc
close_moves s false plain other =
    record { among = tt; inside_is = refl; closed_is = refl; before_is = λ out. either_and_more s; ends_is = refl; last_is = λ out off. cc }

-- another byte in quotes
within_moves : (s e : Bool) (plain : CutPlace) → Moves false s e plain InQuotes true
within_moves s true plain = record { among = tt; inside_is = refl; closed_is = refl; before_is = λ out. cc; ends_is = refl; last_is = λ out off. cc }
within_moves s false plain = record { among = tt; inside_is = refl; closed_is = refl; before_is = λ out. cc; ends_is = refl; last_is = λ out off. cc }

-- the place of a field's first byte
first_moves : (q s e : Bool) → (q ≡ true → e ≡ false) → (s && e) ≡ false → Moves q s e (plain_by s e) (if q then InQuotes else plain_by s e) false
first_moves true s e other apart = open_moves s e (plain_by s e) (other refl)
first_moves false s e other apart = plain_moves s e apart

plain_place : (q s e : Bool) (before closed : Bool) → before ≡ false → fault_by q s e (record { before = before; inside = false; closed = closed }) ≡ false
    → (s && e) ≡ false → Moves q s e (plain_by s e) (plain_by s e) false
plain_place true s e true closed is sound apart = cc
plain_place true s e false closed is sound apart = cc
plain_place false s e before closed is sound apart = plain_moves s e apart

quotes_place : (q s e : Bool) → (q ≡ true → e ≡ false) → Moves q s e (plain_by s e) (if q then AfterQuote else InQuotes) true
quotes_place true s e other = close_moves s e (plain_by s e) (other refl)
quotes_place false s e other = within_moves s e (plain_by s e)

closed_place : (q s e r : Bool) (before : Bool) → (q ≡ true → e ≡ false) → (s && e) ≡ false → fault_by q s e (record { before = before; inside = false; closed = true }) ≡ false
    → Moves q s e (plain_by s e) (if q then InQuotes else (if s then AfterSeparator else (if e then AfterEol else (if r then AfterReturn else BrokenQuote)))) false
closed_place true s e r before other apart sound = open_moves s e (plain_by s e) (other refl)
closed_place false true e r before other apart sound = plain_moves true e apart
closed_place false false true r before other apart sound = plain_moves false true apart
closed_place false false false r before other apart sound = cc

moves : (p : CutPlace) (q s e r before : Bool) → IsAmongFields p → (is_in_quotes p ≡ false → before ≡ not (is_in_plain p)) → (q ≡ true → e ≡ false) → (s && e) ≡ false
    → fault_by q s e (record { before = before; inside = is_in_quotes p; closed = is_after_quote p }) ≡ false → Moves q s e (plain_by s e) (next_by p q s e r) (is_in_quotes p)
moves AfterMark q s e r before among told other apart sound = first_moves q s e other apart
moves AfterEol q s e r before among told other apart sound = first_moves q s e other apart
moves AfterSeparator q s e r before among told other apart sound = first_moves q s e other apart
moves InPlain q s e r before among told other apart sound = plain_place q s e before false (told refl) sound apart
moves InQuotes q s e r before among told other apart sound = quotes_place q s e other
moves AfterQuote q s e r before among told other apart sound = closed_place q s e r before other apart sound
moves p q s e r before among told other apart sound = absurd among

-- one byte that is no fault
pub record Steps (o : Dialect) (p : CutPlace) (t : Told) (b : ℕ) : Type 0 where
  pub tells : Tells (place_step o p b) (told_step o t b)
  pub ends : (b == o.eol && not (turned (is_quote o.quote b) t.inside)) ≡ is_after_eol (place_step o p b)
  pub last : is_in_quotes (place_step o p b) ≡ false → is_after_quote (place_step o p b) ≡ false → place_step o p b ≡ plain_step o b

not_both : (s e : Bool) → (s ≡ true → e ≡ false) → (s && e) ≡ false
not_both true e apart = apart refl
not_both false e apart = refl

pub steps : (o : Dialect) (p : CutPlace) (t : Told) (b : ℕ) → IsDialect o → Tells p t → is_fault o t b ≡ false → Steps o p t b
steps o p t b fit tells sound =
    let q = is_quote o.quote b in
    let s = b == o.separator in
    let e = b == o.eol in
    let r = b == 13 && o.eol == 10 in
    let made : Bool → Bool → Told = λ i c. record { before = t.before; inside = i; closed = c } in
    let sound_here : fault_by q s e (made (is_in_quotes p) (is_after_quote p)) ≡ false = ap₂ (λ (i c : Bool). fault_by q s e (made i c)) (sym tells.inside) (sym tells.closed) ∙ sound in
    let m = moves p q s e r t.before tells.among tells.before (quote_no_eol o b fit) (not_both s e (separator_no_eol o b fit)) sound_here in
    let next = next_is o p b tells.among in
    let inside : turned q t.inside ≡ turned q (is_in_quotes p) = ap (turned q) tells.inside in
    record {
      tells = subst (λ (n : CutPlace). Tells n (told_step o t b)) (sym next) (record {
        among = m.among;
        inside = inside ∙ m.inside_is;
        closed = ap (λ (i : Bool). q && not i) inside ∙ m.closed_is;
        before = m.before_is;
      });
      ends = ap (λ (i : Bool). e && not i) inside ∙ m.ends_is ∙ ap is_after_eol (sym next);
      last = subst (λ (n : CutPlace). is_in_quotes n ≡ false → is_after_quote n ≡ false → n ≡ plain_step o b) (sym next) m.last_is;
    }

-- bytes that are no faults
pub record StepsAll (o : Dialect) (p : CutPlace) (t : Told) (bytes : List ℕ) : Type 0 where
  pub tells : Tells (state_after (place_step o) p bytes) (told_after o t bytes)
  pub ends : ends_told o t.inside bytes ≡ tests_after (place_step o) is_after_eol p bytes
  pub last : (n : ℕ) → length bytes ≡ suc n → is_in_quotes (state_after (place_step o) p bytes) ≡ false → is_after_quote (state_after (place_step o) p bytes) ≡ false
      → state_after (place_step o) p bytes ≡ plain_step o (get_or bytes n 0)

both_so : (t u : Bool) → (not t && u) ≡ true → (t ≡ false) × (u ≡ true)
both_so true u is = cc
both_so false u is = (refl, is)

pub steps_all : (o : Dialect) (p : CutPlace) (t : Told) (bytes : List ℕ) → IsDialect o → Tells p t → is_sound o t bytes ≡ true → StepsAll o p t bytes
steps_all o p t [] fit tells sound = record { tells = tells; ends = refl; last = λ n size. absurd (omega arith) }
steps_all o p t (b ∷ bs) fit tells sound =
    let parts = both_so (is_fault o t b) (is_sound o (told_step o t b) bs) sound in
    let first = steps o p t b fit tells parts.0 in
    let rest = steps_all o (place_step o p b) (told_step o t b) bs fit first.tells parts.1 in
    record {
      tells = rest.tells;
      ends = ap₂ (λ (x : Bool) (xs : List Bool). x ∷ xs) first.ends rest.ends;
      last = last_of o p b bs first.last rest.last;
    }
  where
    last_of : (o : Dialect) (p : CutPlace) (b : ℕ) (bs : List ℕ)
        → (is_in_quotes (place_step o p b) ≡ false → is_after_quote (place_step o p b) ≡ false → place_step o p b ≡ plain_step o b)
        → ((n : ℕ) → length bs ≡ suc n → is_in_quotes (state_after (place_step o) (place_step o p b) bs) ≡ false
        → is_after_quote (state_after (place_step o) (place_step o p b) bs) ≡ false → state_after (place_step o) (place_step o p b) bs ≡ plain_step o (get_or bs n 0))
        → (n : ℕ) → suc (length bs) ≡ suc n → is_in_quotes (state_after (place_step o) (place_step o p b) bs) ≡ false
        → is_after_quote (state_after (place_step o) (place_step o p b) bs) ≡ false → state_after (place_step o) (place_step o p b) bs ≡ plain_step o (get_or (b ∷ bs) n 0)
    last_of o p b [] first later zero size = first
    last_of o p b [] first later (suc n) size = absurd (omega arith)
    last_of o p b (c ∷ cs) first later zero size = absurd (omega arith)
    last_of o p b (c ∷ cs) first later (suc n) size = later n (omega arith)

-- what the machine knows, as what is told
abbrev pub told_at : CutPlace → Told
told_at p = record { before = not (is_in_plain p); inside = is_in_quotes p; closed = is_after_quote p }

pub tells_at : (p : CutPlace) → IsAmongFields p → Tells p (told_at p)
tells_at p among = record { among = among; inside = refl; closed = refl; before = λ out. refl }

-- the place is known by what is told of it, and by the last byte
pub known_place : (p plain : CutPlace) → IsAmongFields p → (is_in_quotes p ≡ false → is_after_quote p ≡ false → p ≡ plain)
    → (if is_in_quotes p then InQuotes else (if is_after_quote p then AfterQuote else plain)) ≡ p
known_place AfterMark plain among is = sym (is refl refl)
known_place AfterEol plain among is = sym (is refl refl)
known_place AfterSeparator plain among is = sym (is refl refl)
known_place InPlain plain among is = sym (is refl refl)
known_place InQuotes plain among is = refl
known_place AfterQuote plain among is = refl
known_place p plain among is = absurd among
