-- What the masks of 64 bytes tell of quotes is what is told of them one after the other.
use Rattle.std.proofs.Common.{◌≡◌, refl, ℕ, zero, suc, ◌+◌, ◌-◌, ◌*◌, ◌/◌, ◌%◌, ◌^◌, ◌<◌, ◌∙◌, sym, ap, ap₂, arith, Bool, true, false, cond, not, ◌&&◌, ◌||◌, ◌==◌, eqb, List, [], ◌∷◌, length, get_or, map, add-one, lt_of_le_of_lt}
use Rattle.std.proofs.lemmas.Nat.{or_lt, and_le_l}
use Rattle.std.proofs.lemmas.Nat.Bits.{bit_at-zero, bit_at_xor, bit_at_ones}
use Rattle.std.proofs.lemmas.Simd.{bit_mask_l}
use Rattle.std.specs.Int.{bit_at}
use Rattle.std.specs.Int.RustNames.{bit_and, bit_or, bit_xor}
use Rattle.std.specs.Simd.Lanes.{mask_l}
use Rattle.std.specs.Prelude.{if◌then◌else◌}
use Rattle.morsel_grammar.specs.Dialect.{Dialect, IsDialect}
use Rattle.morsel_grammar.specs.Split.{is_quote}
use Rattle.morsel_grammar.specs.Machine.{CutPlace, AfterMark, AfterEol, AfterSeparator, InPlain, InQuotes, AfterQuote, state_after, place_step, plain_step, is_after_eol}
use Rattle.morsel_cut.specs.Places.{cut_place, IsOutside}
use Rattle.morsel_cut.specs.Blocks.{is_in_plain, is_in_quotes, is_after_quote, IsAmongFields, tests_after, ones_below, DoesBlock, has_blank}
use Rattle.morsel_cut.specs.declared.step.ByteAt.{ByteAt}
use Rattle.morsel_cut.proofs.RunLemmas.{AreUnquoted, outside_after, outside_step, plain_outside, ends_at_eol}
use Rattle.morsel_cut.proofs.MarkLemmas.{Is, and_is, or_is, not_is, same_is, has, mask_is, mask_from_bits, shifted_is, none_marked}
use Rattle.morsel_cut.proofs.QuoteLemmas.{Told, turned, told_step, told_after, is_fault, is_sound, ends_told, told_at, tells_at, steps_all, known_place}

-- what is told after so many of the bytes
abbrev so_far : Dialect → Told → List ℕ → ℕ → Told
so_far o t bytes zero = t
so_far o t [] (suc k) = t
so_far o t (b ∷ bs) (suc k) = so_far o (told_step o t b) bs k

abbrev quote_test : Dialect → ℕ → Bool
quote_test o b = is_quote o.quote b

abbrev separator_test : Dialect → ℕ → Bool
separator_test o b = b == o.separator

abbrev eol_test : Dialect → ℕ → Bool
eol_test o b = b == o.eol

-- for each byte, whether it is a fault
abbrev faults : Dialect → Told → List ℕ → List Bool
faults o t [] = []
faults o t (b ∷ bs) = is_fault o t b ∷ faults o (told_step o t b) bs

inside_next : (o : Dialect) (t : Told) (bytes : List ℕ) (k : ℕ) → (so_far o t bytes (suc k)).inside ≡ turned (has (quote_test o) bytes k) (so_far o t bytes k).inside
inside_next o t [] zero = refl
inside_next o t [] (suc k) = refl
inside_next o t (b ∷ bs) zero = refl
inside_next o t (b ∷ bs) (suc k) = inside_next o (told_step o t b) bs k

before_next : (o : Dialect) (t : Told) (bytes : List ℕ) (k : ℕ) → k < length bytes
    → (so_far o t bytes (suc k)).before ≡ ((has (separator_test o) bytes k || has (eol_test o) bytes k) || has (quote_test o) bytes k)
before_next o t [] k below = absurd (omega arith)
before_next o t (b ∷ bs) zero below = refl
before_next o t (b ∷ bs) (suc k) below = before_next o (told_step o t b) bs k (omega arith)

closed_next : (o : Dialect) (t : Told) (bytes : List ℕ) (k : ℕ) → k < length bytes
    → (so_far o t bytes (suc k)).closed ≡ (has (quote_test o) bytes k && not (so_far o t bytes (suc k)).inside)
closed_next o t [] k below = absurd (omega arith)
closed_next o t (b ∷ bs) zero below = refl
closed_next o t (b ∷ bs) (suc k) below = closed_next o (told_step o t b) bs k (omega arith)

ended_at : (o : Dialect) (t : Told) (bytes : List ℕ) (k : ℕ) → (has (eol_test o) bytes k && not (so_far o t bytes (suc k)).inside) ≡ get_or (ends_told o t.inside bytes) k false
ended_at o t [] zero = refl
ended_at o t [] (suc k) = refl
ended_at o t (b ∷ bs) zero = refl
ended_at o t (b ∷ bs) (suc k) = ended_at o (told_step o t b) bs k

fault_at : (o : Dialect) (t : Told) (bytes : List ℕ) (k : ℕ) → k < length bytes
    → ((has (quote_test o) bytes k && (so_far o t bytes (suc k)).inside && not (so_far o t bytes k).before)
    || ((so_far o t bytes k).closed && not ((has (separator_test o) bytes k || has (eol_test o) bytes k) || has (quote_test o) bytes k))) ≡ get_or (faults o t bytes) k false
fault_at o t [] k below = absurd (omega arith)
fault_at o t (b ∷ bs) zero below = refl
fault_at o t (b ∷ bs) (suc k) below = fault_at o (told_step o t b) bs k (omega arith)

told_all : (o : Dialect) (t : Told) (bytes : List ℕ) → so_far o t bytes (length bytes) ≡ told_after o t bytes
told_all o t [] = refl
told_all o t (b ∷ bs) = told_all o (told_step o t b) bs

length_ends : (o : Dialect) (inside : Bool) (bytes : List ℕ) → length (ends_told o inside bytes) ≡ length bytes
length_ends o inside [] = refl
length_ends o inside (b ∷ bs) = ap suc (length_ends o (turned (is_quote o.quote b) inside) bs)

length_faults : (o : Dialect) (t : Told) (bytes : List ℕ) → length (faults o t bytes) ≡ length bytes
length_faults o t [] = refl
length_faults o t (b ∷ bs) = ap suc (length_faults o (told_step o t b) bs)

-- the quotes so far turn what is told before them
turned_num : (t within : Bool) → (cond within 1 0 + cond t 1 0) % 2 ≡ cond (turned t within) 1 0
turned_num true true = refl
turned_num true false = refl
turned_num false true = refl
turned_num false false = refl

more_parity : (a b c d e : ℕ) → (a + c) % 2 ≡ d → (d + b) % 2 ≡ e → (a + b + c) % 2 ≡ e
more_parity a b c d e one two = omega arith

num_small : (t : Bool) → (0 + cond t 1 0) % 2 ≡ cond t 1 0
num_small true = refl
num_small false = refl

parity : (o : Dialect) (t : Told) (bytes : List ℕ) (quotes : ℕ) → quotes ≡ mask_l (map (quote_test o) bytes) → (k : ℕ)
    → (ones_below quotes k + cond t.inside 1 0) % 2 ≡ cond (so_far o t bytes k).inside 1 0
parity o t bytes quotes is zero = num_small t.inside
parity o t bytes quotes is (suc k) =
    more_parity (ones_below quotes k) (bit_at quotes k) (cond t.inside 1 0) _ _ (parity o t bytes quotes is k)
    (ap (λ (n : ℕ). (cond (so_far o t bytes k).inside 1 0 + n) % 2) (mask_is (quote_test o) bytes quotes k is).bit
    ∙ turned_num (has (quote_test o) bytes k) (so_far o t bytes k).inside
    ∙ ap (λ (x : Bool). cond x 1 0) (sym (inside_next o t bytes k)))

spread_bit : (t : Bool) (k : ℕ) → k < 64 → bit_at (cond t 18446744073709551615 0) k ≡ cond t 1 0
spread_bit true k below = bit_at_ones 64 k below
spread_bit false k below = bit_at-zero k

mod_sum : (a b : ℕ) → (a % 2 + b) % 2 ≡ (a + b) % 2
mod_sum a b = omega arith

-- the prefix xor of the quotes, turned where the bytes before them end inside quotes
inside_is : (o : Dialect) (t : Told) (bytes : List ℕ) (quotes ladder all : ℕ) → quotes ≡ mask_l (map (quote_test o) bytes)
    → ((k : ℕ) → k < 64 → bit_at ladder k ≡ ones_below quotes (k + 1) % 2) → all ≡ cond t.inside 18446744073709551615 0
    → (k : ℕ) → k < 64 → Is (bit_xor ladder all) k (so_far o t bytes (suc k)).inside
inside_is o t bytes quotes ladder all is ladder_is all_is k below = record {
  bit = bit_at_xor ladder all k
      ∙ ap₂ (λ (x y : ℕ). (x + y) % 2) (ladder_is k below) (ap (λ (x : ℕ). bit_at x k) all_is ∙ spread_bit t.inside k below)
      ∙ mod_sum (ones_below quotes (k + 1)) (cond t.inside 1 0)
      ∙ ap (λ (n : ℕ). (ones_below quotes n + cond t.inside 1 0) % 2) (add-one k)
      ∙ parity o t bytes quotes is (suc k);
}

-- no fault
none_set : (t : Bool) (m : ℕ) → cond t 1 0 + 2 * m ≡ 0 → (t ≡ false) × (m ≡ 0)
none_set true m none = absurd (omega arith)
none_set false m none = (refl, omega arith)

sound_mask : (o : Dialect) (t : Told) (bytes : List ℕ) → mask_l (faults o t bytes) ≡ 0 → is_sound o t bytes ≡ true
sound_mask o t [] none = refl
sound_mask o t (b ∷ bs) none =
    let parts = none_set (is_fault o t b) (mask_l (faults o (told_step o t b) bs)) none in
    ap₂ (λ (f r : Bool). not f && r) parts.0 (sound_mask o (told_step o t b) bs parts.1)

-- the highest bit
num_is_one : (t : Bool) → eqb (cond t 1 0) 1 ≡ t
num_is_one true = refl
num_is_one false = refl

top_is : (m : ℕ) (t : Bool) → m < 2 ^ 64 → Is m 63 t → eqb (m / 9223372036854775808) 1 ≡ t
top_is m t fits is =
    let whole : m / 9223372036854775808 ≡ m / 9223372036854775808 % 2 = omega arith in
    ap (λ (n : ℕ). eqb n 1) (whole ∙ is.bit) ∙ num_is_one t

-- the masks of 64 bytes: of separators, of eol bytes, of quotes; which bytes are in quotes, which may be opening quotes and which follow closing ones
pub record AreMasks (o : Dialect) (t : Told) (bytes : List ℕ) (separators eols quotes turns opening following : ℕ) : Type 0 where
  pub size : length bytes ≡ 64
  pub separators_are : separators ≡ mask_l (map (separator_test o) bytes)
  pub eols_are : eols ≡ mask_l (map (eol_test o) bytes)
  pub quotes_are : quotes ≡ mask_l (map (quote_test o) bytes)
  pub turns_are : (k : ℕ) → k < 64 → Is turns k (so_far o t bytes (suc k)).inside
  pub opening_first : bit_at opening 0 ≡ cond t.before 1 0
  pub opening_more : (j : ℕ) → j + 1 < 64 → bit_at opening (j + 1) ≡ bit_at (bit_or (bit_or separators eols) quotes) j
  pub following_first : bit_at following 0 ≡ cond t.closed 1 0
  pub following_more : (j : ℕ) → j + 1 < 64 → bit_at following (j + 1) ≡ bit_at (bit_and quotes (18446744073709551615 - turns)) j
  pub fits_separators : separators < 2 ^ 64
  pub fits_eols : eols < 2 ^ 64
  pub fits_quotes : quotes < 2 ^ 64
  pub fits_turns : turns < 2 ^ 64
  pub fits_opening : opening < 2 ^ 64
  pub fits_following : following < 2 ^ 64

faults_found : (o : Dialect) (t : Told) (bytes : List ℕ) (separators eols quotes turns opening following : ℕ) → AreMasks o t bytes separators eols quotes turns opening following
    → bit_or (bit_and (bit_and quotes turns) (18446744073709551615 - opening)) (bit_and following (18446744073709551615 - bit_or (bit_or separators eols) quotes)) ≡ 0
    → is_sound o t bytes ≡ true
faults_found o t bytes separators eols quotes turns opening following masks none =
    sound_mask o t bytes (sym (mask_from_bits (faults o t bytes) 0 (omega (arith, length_faults o t bytes, masks.size)) (omega arith) (λ k below. by k below)))
  where
    by : (k : ℕ) → k < 64 → Is 0 k (get_or (faults o t bytes) k false)
    by k below =
        let quote_is = mask_is (quote_test o) bytes quotes k masks.quotes_are in
        let near_at = λ (j : ℕ).
        or_is (or_is (mask_is (separator_test o) bytes separators j masks.separators_are) (mask_is (eol_test o) bytes eols j masks.eols_are)) (mask_is (quote_test o) bytes quotes j masks.quotes_are) in
        let fits_near = or_lt 64 _ _ (or_lt 64 _ _ masks.fits_separators masks.fits_eols) masks.fits_quotes in
        let open_is = shifted_is (bit_or (bit_or separators eols) quotes) opening k t.before (λ (j : ℕ). (so_far o t bytes j).before) masks.opening_first masks.opening_more refl
        (λ j less. same_is (sym (before_next o t bytes j (omega (arith, masks.size)))) (near_at j)) below in
        let follow_is = shifted_is (bit_and quotes (18446744073709551615 - turns)) following k t.closed (λ (j : ℕ). (so_far o t bytes j).closed) masks.following_first masks.following_more refl
        (λ j less. same_is (sym (closed_next o t bytes j (omega (arith, masks.size))))
        (and_is (mask_is (quote_test o) bytes quotes j masks.quotes_are) (not_is masks.fits_turns (omega arith) (masks.turns_are j (omega arith))))) below in
        let all = same_is (fault_at o t bytes k (omega (arith, masks.size)))
        (or_is (and_is (and_is quote_is (masks.turns_are k below)) (not_is masks.fits_opening below open_is)) (and_is follow_is (not_is fits_near below (near_at k)))) in
        record { bit = ap (λ (x : ℕ). bit_at x k) (sym none) ∙ all.bit }

told_last : (o : Dialect) (t : Told) (bytes : List ℕ) → length bytes ≡ 64 → so_far o t bytes 64 ≡ told_after o t bytes
told_last o t bytes size = ap (so_far o t bytes) (sym size) ∙ told_all o t bytes

-- what the bytes do
pub quoted_does : (o : Dialect) (p : CutPlace) (place : ByteAt) (bytes : List ℕ) (separators eols quotes turns opening following : ℕ) → IsDialect o → IsAmongFields p
    → AreMasks o (told_at p) bytes separators eols quotes turns opening following
    → bit_or (bit_and (bit_and quotes turns) (18446744073709551615 - opening)) (bit_and following (18446744073709551615 - bit_or (bit_or separators eols) quotes)) ≡ 0
    → cut_place place ≡ (if eqb (turns / 9223372036854775808) 1 then InQuotes
    else (if eqb (bit_and quotes (18446744073709551615 - turns) / 9223372036854775808) 1 then AfterQuote else plain_step o (get_or bytes 63 0)))
    → DoesBlock o p bytes (record { ends = bit_and eols (18446744073709551615 - turns); place = place })
quoted_does o p place bytes separators eols quotes turns opening following fit among masks none place_is =
    let t = told_at p in
    let sound = faults_found o t bytes separators eols quotes turns opening following masks none in
    let all = steps_all o p t bytes fit (tells_at p among) sound in
    let next = state_after (place_step o) p bytes in
    let last = told_last o t bytes masks.size in
    let fits_ends : bit_and eols (18446744073709551615 - turns) < 2 ^ 64 = lt_of_le_of_lt (and_le_l _ _) masks.fits_eols in
    let inside : eqb (turns / 9223372036854775808) 1 ≡ is_in_quotes next =
    top_is turns _ masks.fits_turns (masks.turns_are 63 (omega arith)) ∙ ap (λ (x : Told). x.inside) last ∙ all.tells.inside in
    let closed : eqb (bit_and quotes (18446744073709551615 - turns) / 9223372036854775808) 1 ≡ is_after_quote next =
    top_is _ _ (lt_of_le_of_lt (and_le_l _ _) masks.fits_quotes)
    (and_is (mask_is (quote_test o) bytes quotes 63 masks.quotes_are) (not_is masks.fits_turns (omega arith) (masks.turns_are 63 (omega arith))))
    ∙ sym (closed_next o t bytes 63 (omega (arith, masks.size))) ∙ ap (λ (x : Told). x.closed) last ∙ all.tells.closed in
    record {
      begins = among;
      place_is = place_is
          ∙ ap₂ (λ (i c : Bool). if i then InQuotes else (if c then AfterQuote else plain_step o (get_or bytes 63 0))) inside closed
          ∙ known_place next (plain_step o (get_or bytes 63 0)) all.tells.among (all.last 63 (omega (arith, masks.size)));
      ends_are = mask_from_bits (ends_told o t.inside bytes) _ (omega (arith, length_ends o t.inside bytes, masks.size)) fits_ends
          (λ k below. same_is (ended_at o t bytes k) (and_is (mask_is (eol_test o) bytes eols k masks.eols_are) (not_is masks.fits_turns below (masks.turns_are k below))))
          ∙ ap mask_l all.ends;
    }

pub masks_are : (o : Dialect) (p : CutPlace) (bytes : List ℕ) (separators eols quotes ladder all opening following : ℕ) (in_quotes_is after_quote_is before_is : Bool) → length bytes ≡ 64
    → separators ≡ mask_l (map (λ (b : ℕ). b == o.separator) bytes) → eols ≡ mask_l (map (λ (b : ℕ). b == o.eol) bytes) → quotes ≡ mask_l (map (is_quote o.quote) bytes)
    → ((k : ℕ) → k < 64 → bit_at ladder k ≡ ones_below quotes (k + 1) % 2) → all ≡ (if in_quotes_is then 18446744073709551615 else 0) → in_quotes_is ≡ is_in_quotes p
    → bit_at opening 0 ≡ (if before_is then 1 else 0) → before_is ≡ not (is_in_plain p)
    → ((j : ℕ) → j + 1 < 64 → bit_at opening (j + 1) ≡ bit_at (bit_or (bit_or separators eols) quotes) j)
    → bit_at following 0 ≡ (if after_quote_is then 1 else 0) → after_quote_is ≡ is_after_quote p
    → ((j : ℕ) → j + 1 < 64 → bit_at following (j + 1) ≡ bit_at (bit_and quotes (18446744073709551615 - bit_xor ladder all)) j)
    → separators < 2 ^ 64 → eols < 2 ^ 64 → quotes < 2 ^ 64 → bit_xor ladder all < 2 ^ 64 → opening < 2 ^ 64 → following < 2 ^ 64
    → AreMasks o (told_at p) bytes separators eols quotes (bit_xor ladder all) opening following
masks_are o p bytes separators eols quotes ladder all opening following in_quotes_is after_quote_is before_is size is_s is_e is_q ladder_is all_is inside open_first before open_more follow_first closed follow_more fits_s fits_e fits_q fits_t fits_o fits_f =
    record {
      size = size;
      separators_are = is_s;
      eols_are = is_e;
      quotes_are = is_q;
      turns_are = inside_is o (told_at p) bytes quotes ladder all is_q ladder_is (all_is ∙ ap (λ (t : Bool). cond t 18446744073709551615 0) inside);
      opening_first = open_first ∙ ap (λ (t : Bool). cond t 1 0) before;
      opening_more = open_more;
      following_first = follow_first ∙ ap (λ (t : Bool). cond t 1 0) closed;
      following_more = follow_more;
      fits_separators = fits_s;
      fits_eols = fits_e;
      fits_quotes = fits_q;
      fits_turns = fits_t;
      fits_opening = fits_o;
      fits_following = fits_f;
    }

-- 64 bytes without a quote, outside quotes
tests_outside : (o : Dialect) (place : CutPlace) (bytes : List ℕ) → IsDialect o → IsOutside place → AreUnquoted o.quote bytes
    → tests_after (place_step o) is_after_eol place bytes ≡ map (λ (b : ℕ). b == o.eol) bytes
tests_outside o place [] fit outside unquoted = refl
tests_outside o place (b ∷ bs) fit outside unquoted =
    let next = outside_step o place b outside (unquoted 0 (omega arith)) in
    ap₂ (λ (x : Bool) (xs : List Bool). x ∷ xs) (ap is_after_eol next ∙ ends_at_eol o fit.apart b)
    (ap (λ (p : CutPlace). tests_after (place_step o) is_after_eol p bs) next
    ∙ tests_outside o (plain_step o b) bs fit (plain_outside o b) (λ k below. unquoted (suc k) (omega arith)))

outside_among : (place : CutPlace) → IsOutside place → IsAmongFields place
outside_among AfterMark outside = tt
outside_among AfterEol outside = tt
outside_among AfterSeparator outside = tt
outside_among InPlain outside = tt
outside_among place outside = absurd outside

pub plain_does : (o : Dialect) (p : CutPlace) (place : ByteAt) (bytes : List ℕ) (quotes eols : ℕ) → IsDialect o → IsOutside p → length bytes ≡ 64
    → quotes ≡ mask_l (map (is_quote o.quote) bytes) → quotes ≡ 0 → eols ≡ mask_l (map (λ (b : ℕ). b == o.eol) bytes)
    → cut_place place ≡ plain_step o (get_or bytes 63 0) → DoesBlock o p bytes (record { ends = eols; place = place })
plain_does o p place bytes quotes eols fit outside size is_q none is_e place_is =
    let unquoted : AreUnquoted o.quote bytes = none_marked (is_quote o.quote) bytes (sym is_q ∙ none) in
    record {
      begins = outside_among p outside;
      place_is = place_is ∙ sym (outside_after o p bytes 63 outside unquoted (omega (arith, size)));
      ends_are = is_e ∙ ap mask_l (sym (tests_outside o p bytes fit outside unquoted));
    }

-- for each byte, whether a record begins with it that begins as a blank one
abbrev blank_marks : Dialect → CutPlace → List ℕ → List Bool
blank_marks o p [] = []
blank_marks o p (b ∷ bs) = (is_after_eol p && (b == o.eol || b == 13)) ∷ blank_marks o (place_step o p b) bs

blank_at : (o : Dialect) (p : CutPlace) (bytes : List ℕ) (k : ℕ) → k < length bytes
    → (get_or (is_after_eol p ∷ tests_after (place_step o) is_after_eol p bytes) k false && (has (eol_test o) bytes k || has (λ (b : ℕ). b == 13) bytes k))
    ≡ get_or (blank_marks o p bytes) k false
blank_at o p [] k below = absurd (omega arith)
blank_at o p (b ∷ bs) zero below = refl
blank_at o p (b ∷ bs) (suc k) below = blank_at o (place_step o p b) bs k (omega arith)

length_blanks : (o : Dialect) (p : CutPlace) (bytes : List ℕ) → length (blank_marks o p bytes) ≡ length bytes
length_blanks o p [] = refl
length_blanks o p (b ∷ bs) = ap suc (length_blanks o (place_step o p b) bs)

no_blank : (o : Dialect) (p : CutPlace) (bytes : List ℕ) → mask_l (blank_marks o p bytes) ≡ 0 → has_blank o p bytes ≡ false
no_blank o p [] none = refl
no_blank o p (b ∷ bs) none =
    let parts = none_set (is_after_eol p && (b == o.eol || b == 13)) (mask_l (blank_marks o (place_step o p b) bs)) none in
    ap₂ (λ (t u : Bool). t || u) parts.0 (no_blank o (place_step o p b) bs parts.1)

-- no bit of those that begin a record is one of a blank
pub without_blanks : (o : Dialect) (p : CutPlace) (bytes : List ℕ) (ends begins eols returns : ℕ) (first : Bool) → length bytes ≡ 64
    → ends ≡ mask_l (tests_after (place_step o) is_after_eol p bytes) → first ≡ is_after_eol p → bit_at begins 0 ≡ (if first then 1 else 0)
    → ((k : ℕ) → k + 1 < 64 → bit_at begins (k + 1) ≡ bit_at ends k)
    → eols ≡ mask_l (map (λ (b : ℕ). b == o.eol) bytes) → returns ≡ mask_l (map (λ (b : ℕ). b == 13) bytes)
    → bit_and begins (bit_or eols returns) ≡ 0 → has_blank o p bytes ≡ false
without_blanks o p bytes ends begins eols returns first size ends_are first_is low high is_e is_r none =
    no_blank o p bytes (sym (mask_from_bits (blank_marks o p bytes) 0 (omega (arith, length_blanks o p bytes, size)) (omega arith) (λ k below. by k below)))
  where
    by : (k : ℕ) → k < 64 → Is 0 k (get_or (blank_marks o p bytes) k false)
    by k below =
        let tests = tests_after (place_step o) is_after_eol p bytes in
        let begin_is = shifted_is ends begins k first (λ (j : ℕ). get_or (is_after_eol p ∷ tests) j false) low high first_is
        (λ j less. record { bit = ap (λ (x : ℕ). bit_at x j) ends_are ∙ bit_mask_l tests j }) below in
        let all = same_is (blank_at o p bytes k (omega (arith, size)))
        (and_is begin_is (or_is (mask_is (eol_test o) bytes eols k is_e) (mask_is (λ (b : ℕ). b == 13) bytes returns k is_r))) in
        record { bit = ap (λ (x : ℕ). bit_at x k) (sym none) ∙ all.bit }
