-- The number that a text writes is the one that std reads from it, and the one that its digits give one by one.
use Rattle.std.proofs.Common.{◌≡◌, ◌≢◌, ℕ, zero, suc, ◌+◌, ◌-◌, ◌*◌, ◌^◌, ◌<◌, ◌≤◌, ◌∙◌, sym, ap, refl, arith, Bool, true, false, ◌&&◌, ◌==◌, List, [], ◌∷◌, length, take, get_or, pos, ℤ, neg_ℤ}
use Rattle.std.proofs.lemmas.Bool.{eqb-true, eqb-false, ne_eqb, ltb-true, leb-true, lt-ltb, and_parts, and_from, and_left, and_right}
use Rattle.std.proofs.lemmas.Int.Digits.{digits_more, digits_value_more}
use Rattle.std.proofs.lemmas.Str.{digit_value_digit}
use Rattle.std.proofs.lemmas.Str.Parse.{IsNumeralModel, numerals_by_value, tells_all_ascii_digits, digits_value_short, parse_signed_plain, parse_signed_plus, parse_signed_minus}
use Rattle.std.specs.Prelude.{Some, None, Result, Ok, Err, nat_lt, if◌then◌else◌}
use Rattle.std.specs.Char.{is_ascii_digit, digit_value}
use Rattle.std.specs.Int.{w64, IsInRange}
use Rattle.std.specs.Result.{result_ok, OkIff}
use Rattle.std.specs.Str.{all_ascii_digits}
use Rattle.std.specs.Str.Parse.{digits_value, ParsesSigned}
use Rattle.morsel_grammar.specs.Cells.{number_below, short_number, signed, int_of}

own : IsNumeralModel (λ ds. all_ascii_digits ds ≡ true) (digits_value 10)
own = numerals_by_value (λ ds. all_ascii_digits ds ≡ true) tells_all_ascii_digits

abbrev IsBelow : ℕ → List ℕ → Type 0
IsBelow bound ds = (all_ascii_digits ds ≡ true) × (0 < length ds) × (digits_value 10 ds < bound)

is_below : (bound : ℕ) (ds : List ℕ) → IsBelow bound ds → number_below bound ds ≡ Some (digits_value 10 ds)
is_below bound ds parts =
    rw (and_from (all_ascii_digits ds) _ parts.0 (and_from (nat_lt 0 (length ds)) (nat_lt (digits_value 10 ds) bound)
    (lt-ltb 0 (length ds) parts.1) (lt-ltb (digits_value 10 ds) bound parts.2)))

some_unless : (t : Bool) (n : ℕ) → (t ≡ true → ⊥) → (if t then Some n else None) ≡ None
some_unless true n never = absurd (never refl)
some_unless false n never = refl

not_below : (bound : ℕ) (ds : List ℕ) → (IsBelow bound ds → ⊥) → number_below bound ds ≡ None
not_below bound ds never = some_unless _ (digits_value 10 ds) (λ all.
    let outer = and_parts (all_ascii_digits ds) (nat_lt 0 (length ds) && nat_lt (digits_value 10 ds) bound) all in
    let inner = and_parts (nat_lt 0 (length ds)) (nat_lt (digits_value 10 ds) bound) outer.1 in
    never (outer.0, ltb-true 0 (length ds) inner.0, ltb-true (digits_value 10 ds) bound inner.1))

-- at a bound, what std answers
by_bound : {E : Type 0} (negative : Bool) (bound : ℕ) (ds : List ℕ) (r : Result ℤ E) (z : ℤ) → signed negative (Some (digits_value 10 ds)) ≡ Some z
    → OkIff r (IsBelow bound ds) z → result_ok r ≡ signed negative (number_below bound ds)
by_bound negative bound ds (Ok x) z is parts = ap Some parts.1 ∙ sym is ∙ ap (signed negative) (sym (is_below bound ds parts.0))
by_bound true bound ds (Err e) z is never = ap (signed true) (sym (not_below bound ds never))
by_bound false bound ds (Err e) z is never = ap (signed false) (sym (not_below bound ds never))

same_parts : {E : Type 0} (r : Result ℤ E) (P Q : Type 0) (z : ℤ) → (P → Q) → (Q → P) → OkIff r P z → OkIff r Q z
same_parts (Ok x) P Q z to from parts = (to parts.0, parts.1)
same_parts (Err e) P Q z to from never = λ q. never (from q)

minus : {E : Type 0} (b : ℕ) (bs : List ℕ) (r : Result ℤ E) → ParsesSigned w64 10 (b ∷ bs) r → b ≡ 45
    → result_ok r ≡ signed true (number_below (2 ^ 63 + 1) bs)
minus b bs r parsed is = by_bound true (2 ^ 63 + 1) bs r (neg_ℤ (pos (digits_value 10 bs))) refl
    (same_parts r ((all_ascii_digits bs ≡ true) × (0 < length bs) × (digits_value 10 bs ≤ 2 ^ 63)) (IsBelow (2 ^ 63 + 1) bs) _
    (λ p. (p.0, p.1, omega arith)) (λ p. (p.0, p.1, omega arith)) (parse_signed_minus own w64 (b ∷ bs) r parsed is))

plus : {E : Type 0} (b : ℕ) (bs : List ℕ) (r : Result ℤ E) → ParsesSigned w64 10 (b ∷ bs) r → b ≡ 43
    → result_ok r ≡ signed false (number_below (2 ^ 63) bs)
plus b bs r parsed is = by_bound false (2 ^ 63) bs r (pos (digits_value 10 bs)) refl (parse_signed_plus own w64 (b ∷ bs) r parsed is)

plain : {E : Type 0} (bs : List ℕ) (r : Result ℤ E) → ParsesSigned w64 10 bs r → get_or bs 0 0 ≢ 43 → get_or bs 0 0 ≢ 45
    → result_ok r ≡ signed false (number_below (2 ^ 63) bs)
plain bs r parsed no_plus no_minus = by_bound false (2 ^ 63) bs r (pos (digits_value 10 bs)) refl (parse_signed_plain own w64 bs r parsed no_plus no_minus)

by_first : {E : Type 0} (b : ℕ) (bs : List ℕ) (r : Result ℤ E) → ParsesSigned w64 10 (b ∷ bs) r → (t u : Bool) → (b == 45) ≡ t → (b == 43) ≡ u
    → result_ok r ≡ int_of (b ∷ bs)
by_first b bs r parsed true u is other = rw is (minus b bs r parsed (eqb-true b 45 is))
by_first b bs r parsed false true is other = rw (is, other) (plus b bs r parsed (eqb-true b 43 other))
by_first b bs r parsed false false is other = rw (is, other) (plain (b ∷ bs) r parsed (eqb-false b 43 other) (eqb-false b 45 is))

-- std's answer is the definition's
pub int_parsed : {E : Type 0} (bs : List ℕ) (r : Result ℤ E) → ParsesSigned w64 10 bs r → result_ok r ≡ int_of bs
int_parsed [] r parsed = plain [] r parsed (λ e. cc) (λ e. cc)
int_parsed (b ∷ bs) r parsed = by_first b bs r parsed (b == 45) (b == 43) refl refl

in_range : (c : ℕ) → is_ascii_digit c ≡ true → IsInRange 48 57 c
in_range c is = let both = and_parts _ _ is in (leb-true 48 c both.0, leb-true c 57 both.1)

-- digits up to a place are below 10 to the power of their number
pub below_power : (bs : List ℕ) (k : ℕ) → all_ascii_digits bs ≡ true → length bs ≤ k → digits_value 10 bs < 10 ^ k
below_power bs k digits size = digits_value_short own bs k digits size

-- one more digit
pub one_more_digit : (bs : List ℕ) (i : ℕ) → i < length bs → all_ascii_digits (take i bs) ≡ true → is_ascii_digit (get_or bs i 0) ≡ true
    → all_ascii_digits (take (i + 1) bs) ≡ true
one_more_digit bs i within before is =
    let value : digit_value (get_or bs i 0) + 48 ≡ get_or bs i 0 = digit_value_digit (get_or bs i 0) (in_range _ is) in
    let range : IsInRange 48 57 (get_or bs i 0) = in_range (get_or bs i 0) is in
    own.from _ (digits_more 10 bs i within (own.to _ before) (omega (arith, range.1)))

-- and its value
pub one_more_value : (bs : List ℕ) (i n : ℕ) → i < length bs → is_ascii_digit (get_or bs i 0) ≡ true → n ≡ digits_value 10 (take i bs)
    → n * 10 + (get_or bs i 0 - 48) ≡ digits_value 10 (take (i + 1) bs)
one_more_value bs i n within is before =
    let value : digit_value (get_or bs i 0) + 48 ≡ get_or bs i 0 = digit_value_digit (get_or bs i 0) (in_range _ is) in
    let same : get_or bs i 0 - 48 ≡ digit_value (get_or bs i 0) = omega arith in
    rw (before, same) (sym (digits_value_more 10 bs i within))

other_byte : (bs : List ℕ) (i : ℕ) → i < length bs → is_ascii_digit (get_or bs i 0) ≡ false → all_ascii_digits bs ≡ false
other_byte [] i within is = absurd (omega arith)
other_byte (b ∷ bs) zero within is = and_left (is_ascii_digit b) (all_ascii_digits bs) is
other_byte (b ∷ bs) (suc i) within is = and_right (is_ascii_digit b) (all_ascii_digits bs) (other_byte bs i (omega arith) is)

-- a byte that is no digit
pub no_short_number : (bs : List ℕ) (i : ℕ) → i < length bs → is_ascii_digit (get_or bs i 0) ≡ false → short_number bs ≡ None
no_short_number bs i within is = rw (and_left _ (nat_lt 0 (length bs) && nat_lt (length bs) 19) (other_byte bs i within is))

some_where : (t : Bool) (m n : ℕ) → (if t then Some m else None) ≡ Some n → (t ≡ true) × (m ≡ n)
some_where true m n is = (refl, cc)
some_where false m n is = absurd cc

-- up to 18 digits without a sign are below the bound
pub short_is_int : (bs : List ℕ) (n : ℕ) → short_number bs ≡ Some n → (int_of bs ≡ Some (pos n)) × (n < 10 ^ 18)
short_is_int [] n is = absurd cc
short_is_int (b ∷ bs) n is =
    let parts = some_where (all_ascii_digits (b ∷ bs) && (nat_lt 0 (length (b ∷ bs)) && nat_lt (length (b ∷ bs)) 19)) (digits_value 10 (b ∷ bs)) n is in
    let outer = and_parts (all_ascii_digits (b ∷ bs)) (nat_lt 0 (length (b ∷ bs)) && nat_lt (length (b ∷ bs)) 19) parts.0 in
    let sizes = and_parts (nat_lt 0 (length (b ∷ bs))) (nat_lt (length (b ∷ bs)) 19) outer.1 in
    let short : length (b ∷ bs) < 19 = ltb-true (length (b ∷ bs)) 19 sizes.1 in
    let first : IsInRange 48 57 b = in_range b (and_parts (is_ascii_digit b) (all_ascii_digits bs) outer.0).0 in
    let below : digits_value 10 (b ∷ bs) < 10 ^ 18 = below_power (b ∷ bs) 18 outer.0 (omega arith) in
    let no_minus : (b == 45) ≡ false = ne_eqb b 45 (λ e. omega (arith, first.0)) in
    let no_plus : (b == 43) ≡ false = ne_eqb b 43 (λ e. omega (arith, first.0)) in (
      rw (no_minus, no_plus) (ap (signed false) (is_below (2 ^ 63) (b ∷ bs) (outer.0, omega arith, omega arith)) ∙ ap (λ (m : ℕ). Some (pos m)) parts.1),
      omega (arith, parts.1),
    )
