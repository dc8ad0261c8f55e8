-- What 64 bytes tell, bit by bit.
use Rattle.std.proofs.Common.{◌≡◌, ◌⊎◌, inl, inr, refl, ℕ, zero, suc, ◌+◌, ◌-◌, ◌*◌, ◌/◌, ◌%◌, ◌^◌, ◌<◌, ◌≤◌, ◌∙◌, sym, ap, ap₂, arith, min, Bool, true, false, cond, not, ◌&&◌, ◌||◌, ◌==◌, eqb, List, [], ◌∷◌, length, get_or, map, ne_eqb, eq-eqb, add-one}
use Rattle.std.proofs.Math.Nat.{min-zero, zero-min}
use Rattle.std.proofs.lemmas.Bool.{cases_lt, cases_eq}
use Rattle.std.proofs.lemmas.Nat.Bits.{bit_at-zero, bit_at_and, bit_at_xor, bit_at_ones, bit_at_ones_above, same_from_bits_below}
use Rattle.std.proofs.lemmas.Simd.{bit_mask_l}
use Rattle.std.specs.Int.{bit_at}
use Rattle.std.specs.Int.RustNames.{bit_and, bit_or, bit_xor}
use Rattle.std.specs.Simd.Lanes.{mask_l}
use Rattle.morsel_marks.specs.declared.look.QuoteState.{QuoteState}
use Rattle.morsel_marks.specs.Marks.{quoted_after, with_place, marks_from, quote_step, is_misquoted, quotes_after, is_sound_from, set_places}
use Rattle.morsel_cut.specs.Blocks.{ones_below}
use Rattle.morsel_cut.proofs.MarkLemmas.{Is, and_is, or_is, not_is, same_is, has, mask_is, shifted_is}
use Rattle.morsel_marks.proofs.MaskLemmas.{mask_half, mask_low, short_mask, no_bit}
use Rattle.morsel_marks.proofs.PlaceLemmas.{no_places}

-- under a bit that is set, and under one that is not
whole_is : {m n k : ℕ} {a : Bool} → Is m k a → Is n k true → Is (bit_and m n) k a
whole_is {m} {n} {k} {a} x y = record { bit = bit_at_and m n k ∙ ap₂ min x.bit y.bit ∙ by a }
  where
    by : (t : Bool) → min (cond t 1 0) 1 ≡ cond t 1 0
    by true = refl
    by false = refl

none_left : {m k : ℕ} (n : ℕ) → Is m k false → Is (bit_and m n) k false
none_left {m} {k} n x = record { bit = bit_at_and m n k ∙ ap (λ (i : ℕ). min i (bit_at n k)) x.bit ∙ zero-min (bit_at n k) }

none_right : {n k : ℕ} (m : ℕ) → Is n k false → Is (bit_and m n) k false
none_right {n} {k} m x = record { bit = bit_at_and m n k ∙ ap (min (bit_at m k)) x.bit ∙ min-zero (bit_at m k) }

-- the state after so many bytes
abbrev pub state_at : (ℕ → Bool) → (ℕ → Bool) → QuoteState → List ℕ → ℕ → QuoteState
state_at q s st bytes zero = st
state_at q s st [] (suc k) = st
state_at q s st (b ∷ bs) (suc k) = state_at q s (quote_step q s st b) bs k

-- for each byte, whether it ends a field
abbrev pub marked : (ℕ → Bool) → (ℕ → Bool) → Bool → List ℕ → List Bool
marked q s within [] = []
marked q s within (b ∷ bs) = (s b && not (quoted_after (q b) within)) ∷ marked q s (quoted_after (q b) within) bs

-- for each byte, whether it is misquoted
abbrev pub faults : (ℕ → Bool) → (ℕ → Bool) → QuoteState → List ℕ → List Bool
faults q s st [] = []
faults q s st (b ∷ bs) = is_misquoted q s st b ∷ faults q s (quote_step q s st b) bs

inside_next : (q s : ℕ → Bool) (st : QuoteState) (bytes : List ℕ) (k : ℕ) → (state_at q s st bytes (suc k)).inside ≡ quoted_after (has q bytes k) (state_at q s st bytes k).inside
inside_next q s st [] zero = refl
inside_next q s st [] (suc k) = refl
inside_next q s st (b ∷ bs) zero = refl
inside_next q s st (b ∷ bs) (suc k) = inside_next q s (quote_step q s st b) bs k

before_next : (q s : ℕ → Bool) (st : QuoteState) (bytes : List ℕ) (k : ℕ) → k < length bytes → (state_at q s st bytes (suc k)).before ≡ (has s bytes k || has q bytes k)
before_next q s st [] k below = absurd (omega arith)
before_next q s st (b ∷ bs) zero below = refl
before_next q s st (b ∷ bs) (suc k) below = before_next q s (quote_step q s st b) bs k (omega arith)

closed_next : (q s : ℕ → Bool) (st : QuoteState) (bytes : List ℕ) (k : ℕ) → k < length bytes
    → (state_at q s st bytes (suc k)).closed ≡ (has q bytes k && not (state_at q s st bytes (suc k)).inside)
closed_next q s st [] k below = absurd (omega arith)
closed_next q s st (b ∷ bs) zero below = refl
closed_next q s st (b ∷ bs) (suc k) below = closed_next q s (quote_step q s st b) bs k (omega arith)

marked_at : (q s : ℕ → Bool) (st : QuoteState) (bytes : List ℕ) (k : ℕ) → (has s bytes k && not (state_at q s st bytes (suc k)).inside) ≡ get_or (marked q s st.inside bytes) k false
marked_at q s st [] zero = refl
marked_at q s st [] (suc k) = refl
marked_at q s st (b ∷ bs) zero = refl
marked_at q s st (b ∷ bs) (suc k) = marked_at q s (quote_step q s st b) bs k

faults_at : (q s : ℕ → Bool) (st : QuoteState) (bytes : List ℕ) (k : ℕ) → k < length bytes
    → ((has q bytes k && (state_at q s st bytes (suc k)).inside && not (state_at q s st bytes k).before)
    || ((state_at q s st bytes k).closed && not (has s bytes k || has q bytes k || has (λ b. b == 13) bytes k))) ≡ get_or (faults q s st bytes) k false
faults_at q s st [] k below = absurd (omega arith)
faults_at q s st (b ∷ bs) zero below = refl
faults_at q s st (b ∷ bs) (suc k) below = faults_at q s (quote_step q s st b) bs k (omega arith)

faults_past : (q s : ℕ → Bool) (st : QuoteState) (bytes : List ℕ) (k : ℕ) → length bytes ≤ k → get_or (faults q s st bytes) k false ≡ false
faults_past q s st [] zero past = refl
faults_past q s st [] (suc k) past = refl
faults_past q s st (b ∷ bs) zero past = absurd (omega arith)
faults_past q s st (b ∷ bs) (suc k) past = faults_past q s (quote_step q s st b) bs k (omega arith)

has_past : (test : ℕ → Bool) (bytes : List ℕ) (k : ℕ) → length bytes ≤ k → has test bytes k ≡ false
has_past test [] zero past = refl
has_past test [] (suc k) past = refl
has_past test (b ∷ bs) zero past = absurd (omega arith)
has_past test (b ∷ bs) (suc k) past = has_past test bs k (omega arith)

pub after_all : (q s : ℕ → Bool) (st : QuoteState) (bytes : List ℕ) (k : ℕ) → length bytes ≤ k → state_at q s st bytes k ≡ quotes_after q s st bytes
after_all q s st [] zero past = refl
after_all q s st [] (suc k) past = refl
after_all q s st (b ∷ bs) zero past = absurd (omega arith)
after_all q s st (b ∷ bs) (suc k) past = after_all q s (quote_step q s st b) bs k (omega arith)

length_marked : (q s : ℕ → Bool) (within : Bool) (bytes : List ℕ) → length (marked q s within bytes) ≡ length bytes
length_marked q s within [] = refl
length_marked q s within (b ∷ bs) = ap suc (length_marked q s (quoted_after (q b) within) bs)

length_faults : (q s : ℕ → Bool) (st : QuoteState) (bytes : List ℕ) → length (faults q s st bytes) ≡ length bytes
length_faults q s st [] = refl
length_faults q s st (b ∷ bs) = ap suc (length_faults q s (quote_step q s st b) bs)

-- ---- inside quotes

turned_num : (t within : Bool) → (cond within 1 0 + cond t 1 0) % 2 ≡ cond (quoted_after t within) 1 0
turned_num true true = refl
turned_num true false = refl
turned_num false true = refl
turned_num false false = refl

more_parity : (a b c d e : ℕ) → (a + c) % 2 ≡ d → (d + b) % 2 ≡ e → (a + b + c) % 2 ≡ e
more_parity a b c d e one two = omega arith

num_small : (t : Bool) → (0 + cond t 1 0) % 2 ≡ cond t 1 0
num_small true = refl
num_small false = refl

-- the quotes so far turn the state that stood before
parity : (q s : ℕ → Bool) (st : QuoteState) (bytes : List ℕ) (quotes : ℕ) → quotes ≡ mask_l (map q bytes) → (k : ℕ)
    → (ones_below quotes k + cond st.inside 1 0) % 2 ≡ cond (state_at q s st bytes k).inside 1 0
parity q s st bytes quotes is zero = num_small st.inside
parity q s st bytes quotes is (suc k) =
    more_parity (ones_below quotes k) (bit_at quotes k) (cond st.inside 1 0) _ _ (parity q s st bytes quotes is k)
    (ap (λ (n : ℕ). (cond (state_at q s st bytes k).inside 1 0 + n) % 2) (mask_is q bytes quotes k is).bit
    ∙ turned_num (has q bytes k) (state_at q s st bytes k).inside
    ∙ ap (λ (t : Bool). cond t 1 0) (sym (inside_next q s st bytes k)))

spread_bit : (t : Bool) (k : ℕ) → k < 64 → bit_at (cond t 18446744073709551615 0) k ≡ cond t 1 0
spread_bit true k below = bit_at_ones 64 k below
spread_bit false k below = bit_at-zero k

mod_sum : (a b : ℕ) → (a % 2 + b) % 2 ≡ (a + b) % 2
mod_sum a b = omega arith

-- the prefix xor of the quotes, turned where the text before them ends inside quotes
pub inside_is : (q s : ℕ → Bool) (st : QuoteState) (bytes : List ℕ) (quotes ladder all : ℕ) → quotes ≡ mask_l (map q bytes)
    → ((k : ℕ) → k < 64 → bit_at ladder k ≡ ones_below quotes (k + 1) % 2) → all ≡ cond st.inside 18446744073709551615 0
    → (k : ℕ) → k < 64 → Is (bit_xor ladder all) k (state_at q s st bytes (suc k)).inside
inside_is q s st bytes quotes ladder all is ladder_is all_is k below = record {
  bit = bit_at_xor ladder all k
      ∙ ap₂ (λ (x y : ℕ). (x + y) % 2) (ladder_is k below) (ap (λ (x : ℕ). bit_at x k) all_is ∙ spread_bit st.inside k below)
      ∙ mod_sum (ones_below quotes (k + 1)) (cond st.inside 1 0)
      ∙ ap (λ (n : ℕ). (ones_below quotes n + cond st.inside 1 0) % 2) (add-one k)
      ∙ parity q s st bytes quotes is (suc k);
}

-- ---- marks

put_place : (t : Bool) (n at m : ℕ) (places : List ℕ) → set_places n (at + 1) m ≡ places → set_places (suc n) at (cond t 1 0 + 2 * m) ≡ with_place t at places
unfolding set_places
put_place t n at m places is =
    ap₂ (λ (low half : ℕ). with_place (low == 1) at (set_places n (at + 1) half)) (mask_low t m) (mask_half t m) ∙ by t
  where
    by : (t : Bool) → with_place (cond t 1 0 == 1) at (set_places n (at + 1) m) ≡ with_place t at places
    by true = ap (λ (xs : List ℕ). at ∷ xs) is
    by false = is

marked_places : (q s : ℕ → Bool) (n at : ℕ) (within : Bool) (bytes : List ℕ) → length bytes ≤ n → set_places n at (mask_l (marked q s within bytes)) ≡ marks_from q s at within bytes
marked_places q s n at within [] most = no_places n at
marked_places q s zero at within (b ∷ bs) most = absurd (omega arith)
marked_places q s (suc n) at within (b ∷ bs) most =
    put_place (s b && not (quoted_after (q b) within)) n at (mask_l (marked q s (quoted_after (q b) within) bs)) _ (marked_places q s n (at + 1) (quoted_after (q b) within) bs (omega arith))

pub marks_found : (q s : ℕ → Bool) (st : QuoteState) (bytes : List ℕ) (stops turns : ℕ) → length bytes ≤ 64 → stops < 2 ^ 64 → turns < 2 ^ 64 → stops ≡ mask_l (map s bytes)
    → ((k : ℕ) → k < 64 → Is turns k (state_at q s st bytes (suc k)).inside) → bit_and stops (18446744073709551615 - turns) < 2 ^ 64
    → (at : ℕ) → set_places 64 at (bit_and stops (18446744073709551615 - turns)) ≡ marks_from q s at st.inside bytes
marks_found q s st bytes stops turns most fits fits_turns is turns_is fits_all at =
    ap (set_places 64 at) (same_from_bits_below 64 _ (mask_l (marked q s st.inside bytes)) fits_all (short_mask _ (omega (arith, length_marked q s st.inside bytes)))
    (λ k below. (same_is (marked_at q s st bytes k) (and_is (mask_is s bytes stops k is) (not_is fits_turns below (turns_is k below)))).bit
    ∙ sym (bit_mask_l (marked q s st.inside bytes) k)))
    ∙ marked_places q s 64 at st.inside bytes most

-- ---- faults

zero_mask : (t : Bool) (m : ℕ) → eqb (cond t 1 0 + 2 * m) 0 ≡ (not t && eqb m 0)
zero_mask true m = ne_eqb _ _ (λ e. absurd (omega arith))
zero_mask false m = by (cases_eq m 0)
  where
    by : (m ≡ 0) ⊎ (m ≡ 0 → ⊥) → eqb (0 + 2 * m) 0 ≡ eqb m 0
    by (inl none) = eq-eqb _ _ (omega arith) ∙ sym (eq-eqb m 0 none)
    by (inr some) = ne_eqb _ _ (λ e. some (omega arith)) ∙ sym (ne_eqb m 0 some)

sound_mask : (q s : ℕ → Bool) (st : QuoteState) (bytes : List ℕ) → eqb (mask_l (faults q s st bytes)) 0 ≡ is_sound_from q s st bytes
sound_mask q s st [] = refl
sound_mask q s st (b ∷ bs) =
    zero_mask (is_misquoted q s st b) (mask_l (faults q s (quote_step q s st b) bs)) ∙ ap (λ (t : Bool). not (is_misquoted q s st b) && t) (sound_mask q s (quote_step q s st b) bs)

-- ---- the last bit

num_is_one : (t : Bool) → eqb (cond t 1 0) 1 ≡ t
num_is_one true = refl
num_is_one false = refl

pub top_is : (m : ℕ) (t : Bool) → m < 2 ^ 64 → Is m 63 t → eqb (m / 9223372036854775808) 1 ≡ t
top_is m t fits is =
    let whole : m / 9223372036854775808 ≡ m / 9223372036854775808 % 2 = omega arith in
    ap (λ (n : ℕ). eqb n 1) (whole ∙ is.bit) ∙ num_is_one t

pub faults_found : (q s : ℕ → Bool) (st : QuoteState) (bytes : List ℕ) (quotes stops returns turns opening closing low : ℕ) → length bytes ≤ 64
    → quotes ≡ mask_l (map q bytes) → stops ≡ mask_l (map s bytes) → returns ≡ mask_l (map (λ b. b == 13) bytes) → low ≡ 2 ^ length bytes - 1
    → ((k : ℕ) → k < 64 → Is turns k (state_at q s st bytes (suc k)).inside)
    → bit_at opening 0 ≡ cond st.before 1 0 → ((j : ℕ) → j + 1 < 64 → bit_at opening (j + 1) ≡ bit_at (bit_or stops quotes) j)
    → bit_at closing 0 ≡ cond st.closed 1 0 → ((j : ℕ) → j + 1 < 64 → bit_at closing (j + 1) ≡ bit_at (bit_and quotes (18446744073709551615 - turns)) j)
    → turns < 2 ^ 64 → opening < 2 ^ 64 → bit_or (bit_or stops quotes) returns < 2 ^ 64
    → bit_or (bit_and (bit_and quotes turns) (18446744073709551615 - opening)) (bit_and (bit_and closing (18446744073709551615 - bit_or (bit_or stops quotes) returns)) low) < 2 ^ 64
    → eqb (bit_or (bit_and (bit_and quotes turns) (18446744073709551615 - opening)) (bit_and (bit_and closing (18446744073709551615 - bit_or (bit_or stops quotes) returns)) low)) 0
    ≡ is_sound_from q s st bytes
faults_found q s st bytes quotes stops returns turns opening closing low most is_q is_s is_r is_low turns_is open_low open_high close_low close_high fits_turns fits_open fits_near fits_all =
    ap (λ (m : ℕ). eqb m 0) (same_from_bits_below 64 _ (mask_l (faults q s st bytes)) fits_all (short_mask _ (omega (arith, length_faults q s st bytes)))
    (λ k below. (by k below (cases_lt k (length bytes))).bit ∙ sym (bit_mask_l (faults q s st bytes) k)))
    ∙ sound_mask q s st bytes
  where
    by : (k : ℕ) → k < 64 → (k < length bytes) ⊎ (length bytes ≤ k)
        → Is (bit_or (bit_and (bit_and quotes turns) (18446744073709551615 - opening)) (bit_and (bit_and closing (18446744073709551615 - bit_or (bit_or stops quotes) returns)) low)) k
        (get_or (faults q s st bytes) k false)
    by k below (inl here) =
        let quote_is = mask_is q bytes quotes k is_q in
        let near_is = or_is (or_is (mask_is s bytes stops k is_s) quote_is) (mask_is (λ (b : ℕ). b == 13) bytes returns k is_r) in
        let open_is = shifted_is (bit_or stops quotes) opening k st.before (λ (j : ℕ). (state_at q s st bytes j).before) open_low open_high refl
        (λ j less. same_is (sym (before_next q s st bytes j (omega arith))) (or_is (mask_is s bytes stops j is_s) (mask_is q bytes quotes j is_q))) below in
        let close_is = shifted_is (bit_and quotes (18446744073709551615 - turns)) closing k st.closed (λ (j : ℕ). (state_at q s st bytes j).closed) close_low close_high refl
        (λ j less. same_is (sym (closed_next q s st bytes j (omega arith))) (and_is (mask_is q bytes quotes j is_q) (not_is fits_turns (omega arith) (turns_is j (omega arith))))) below in
        let low_is : Is low k true = record { bit = ap (λ (x : ℕ). bit_at x k) is_low ∙ bit_at_ones (length bytes) k here } in
        same_is (faults_at q s st bytes k here)
        (or_is (and_is (and_is quote_is (turns_is k below)) (not_is fits_open below open_is)) (whole_is (and_is close_is (not_is fits_near below near_is)) low_is))
    by k below (inr past) =
        let low_is : Is low k false = record { bit = ap (λ (x : ℕ). bit_at x k) is_low ∙ bit_at_ones_above (length bytes) k past } in
        let none_is : Is quotes k false = same_is (has_past q bytes k past) (mask_is q bytes quotes k is_q) in
        same_is (sym (faults_past q s st bytes k past)) (or_is (none_left (18446744073709551615 - opening) (none_left turns none_is)) (none_right (bit_and closing (18446744073709551615 - bit_or (bit_or stops quotes) returns)) low_is))

-- ---- the state after

pub same_state : (a b : QuoteState) → a.before ≡ b.before → a.inside ≡ b.inside → a.closed ≡ b.closed → a ≡ b
same_state a b e f g =
    ap₂ (λ (x y : Bool). let t : QuoteState = record { before = x; inside = y; closed = a.closed } in t) e f
    ∙ ap (λ (z : Bool). let t : QuoteState = record { before = b.before; inside = b.inside; closed = z } in t) g

pub inside_after : (q s : ℕ → Bool) (st : QuoteState) (bytes : List ℕ) (turns : ℕ) → length bytes ≤ 64 → turns < 2 ^ 64
    → ((k : ℕ) → k < 64 → Is turns k (state_at q s st bytes (suc k)).inside) → eqb (turns / 9223372036854775808) 1 ≡ (quotes_after q s st bytes).inside
inside_after q s st bytes turns most fits turns_is =
    top_is turns _ fits (turns_is 63 (omega arith)) ∙ ap (λ (t : QuoteState). t.inside) (after_all q s st bytes 64 most)

pub before_after : (q s : ℕ → Bool) (st : QuoteState) (bytes : List ℕ) (near : ℕ) → length bytes ≡ 64 → near < 2 ^ 64
    → Is near 63 (has s bytes 63 || has q bytes 63) → eqb (near / 9223372036854775808) 1 ≡ (quotes_after q s st bytes).before
before_after q s st bytes near long fits near_is =
    top_is near _ fits near_is ∙ sym (before_next q s st bytes 63 (omega arith)) ∙ ap (λ (t : QuoteState). t.before) (after_all q s st bytes 64 (omega arith))

pub next_found : (q s : ℕ → Bool) (st : QuoteState) (bytes : List ℕ) (quotes stops turns : ℕ) → length bytes ≡ 64
    → quotes ≡ mask_l (map q bytes) → stops ≡ mask_l (map s bytes)
    → ((k : ℕ) → k < 64 → Is turns k (state_at q s st bytes (suc k)).inside)
    → turns < 2 ^ 64 → bit_or stops quotes < 2 ^ 64 → bit_and quotes (18446744073709551615 - turns) < 2 ^ 64
    → ◌≡◌ {A = QuoteState} (record {
      before = eqb (bit_or stops quotes / 9223372036854775808) 1;
      inside = eqb (turns / 9223372036854775808) 1;
      closed = eqb (bit_and quotes (18446744073709551615 - turns) / 9223372036854775808) 1;
    }) (quotes_after q s st bytes)
next_found q s st bytes quotes stops turns long is_q is_s turns_is fits_turns fits_near fits_close =
    let quote_is = mask_is q bytes quotes 63 is_q in
    same_state _ _
    (before_after q s st bytes (bit_or stops quotes) long fits_near (or_is (mask_is s bytes stops 63 is_s) quote_is))
    (inside_after q s st bytes turns (omega arith) fits_turns turns_is)
    (top_is _ _ fits_close (and_is quote_is (not_is fits_turns (omega arith) (turns_is 63 (omega arith))))
    ∙ sym (closed_next q s st bytes 63 (omega arith)) ∙ ap (λ (t : QuoteState). t.closed) (after_all q s st bytes 64 (omega arith)))

-- ---- no quotes

-- bytes after which the next one stands outside quotes, and all of whose stops are marks
pub record StaysOutside (q s : ℕ → Bool) (st : QuoteState) (bytes : List ℕ) : Type 0 where
  pub sound : is_sound_from q s st bytes ≡ true
  pub inside : (quotes_after q s st bytes).inside ≡ false
  pub closed : (quotes_after q s st bytes).closed ≡ false
  pub marks : marked q s st.inside bytes ≡ map s bytes

and_true : (t : Bool) → (t && true) ≡ t
and_true true = refl
and_true false = refl

-- bytes without a quote, outside quotes
pub outside : (q s : ℕ → Bool) (st : QuoteState) (bytes : List ℕ) → mask_l (map q bytes) ≡ 0 → st.inside ≡ false → st.closed ≡ false → StaysOutside q s st bytes
outside q s st [] none out apart = record { sound = refl; inside = out; closed = apart; marks = refl }
outside q s st (b ∷ bs) none out apart =
    let parts = no_bit (q b) (mask_l (map q bs)) none in
    let inside_is : quoted_after (q b) st.inside ≡ false = ap (λ (t : Bool). quoted_after t st.inside) parts.0 ∙ out in
    let closed_is : (q b && not (quoted_after (q b) st.inside)) ≡ false = ap (λ (t : Bool). t && not (quoted_after t st.inside)) parts.0 in
    let fault_is : is_misquoted q s st b ≡ false =
    ap₂ (λ (t c : Bool). (t && quoted_after t st.inside && not st.before) || (c && not (s b || q b || b == 13))) parts.0 apart in
    let rest = outside q s (quote_step q s st b) bs parts.1 inside_is closed_is in
    record {
      sound = ap₂ (λ (f r : Bool). not f && r) fault_is rest.sound;
      inside = rest.inside;
      closed = rest.closed;
      marks = ap₂ (λ (t : Bool) (ts : List Bool). t ∷ ts) (ap (λ (t : Bool). s b && not t) inside_is ∙ and_true (s b)) rest.marks;
    }

-- what the code answers there
pub outside_marks : (q s : ℕ → Bool) (st : QuoteState) (bytes : List ℕ) (quotes stops : ℕ) → length bytes ≤ 64 → quotes ≡ mask_l (map q bytes) → stops ≡ mask_l (map s bytes)
    → quotes ≡ 0 → st.inside ≡ false → st.closed ≡ false → (at : ℕ) → set_places 64 at stops ≡ marks_from q s at st.inside bytes
outside_marks q s st bytes quotes stops most is_q is_s none out apart at =
    ap (set_places 64 at) (is_s ∙ ap mask_l (sym (outside q s st bytes (sym is_q ∙ none) out apart).marks)) ∙ marked_places q s 64 at st.inside bytes most

or_none : (t : Bool) → t ≡ (t || false)
or_none true = refl
or_none false = refl

pub outside_next : (q s : ℕ → Bool) (st : QuoteState) (bytes : List ℕ) (quotes stops : ℕ) → length bytes ≡ 64 → quotes ≡ mask_l (map q bytes) → stops ≡ mask_l (map s bytes)
    → quotes ≡ 0 → st.inside ≡ false → st.closed ≡ false → stops < 2 ^ 64
    → ◌≡◌ {A = QuoteState} (record { before = eqb (stops / 9223372036854775808) 1; inside = false; closed = false }) (quotes_after q s st bytes)
outside_next q s st bytes quotes stops long is_q is_s none out apart fits =
    let there = outside q s st bytes (sym is_q ∙ none) out apart in
    let no_quote : has q bytes 63 ≡ false = by (has q bytes 63) (sym (ap (λ (x : ℕ). bit_at x 63) none) ∙ (mask_is q bytes quotes 63 is_q).bit) in
    same_state _ _
    (before_after q s st bytes stops long fits (same_is (or_none (has s bytes 63) ∙ ap (λ (t : Bool). has s bytes 63 || t) (sym no_quote)) (mask_is s bytes stops 63 is_s)))
    (sym there.inside) (sym there.closed)
  where
    by : (t : Bool) → ◌≡◌ {A = ℕ} 0 (cond t 1 0) → t ≡ false
    by true one = absurd (omega arith)
    by false one = refl
