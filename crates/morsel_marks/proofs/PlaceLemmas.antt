-- The places of the bits that are set.
use Rattle.std.proofs.Common.{◌≡◌, ◌⊎◌, inl, inr, refl, ℕ, zero, suc, ◌+◌, ◌-◌, ◌*◌, ◌/◌, ◌%◌, ◌^◌, ◌<◌, ◌≤◌, ◌∙◌, sym, ap, ap₂, arith, Bool, true, false, List, [], ◌∷◌, ◌++◌, length, pow-suc, take, set, length-append, length-take-le, append_assoc, min}
use Rattle.std.proofs.lemmas.Grind.{take-set_at}
use Rattle.std.specs.Int.Bits.{and_self}
use Rattle.std.specs.Int.RustNames.{bit_and}
use Rattle.std.specs.Int.Count.{count_trailing_zeros, ones, ones_step}
use Rattle.std.proofs.lemmas.Nat.{and_block}
use Rattle.std.proofs.lemmas.Bool.{cases_eq}
use Rattle.std.proofs.Math.Nat.{min-eq_left}
use Rattle.morsel_marks.specs.Marks.{with_place, set_places}

and_pred_odd : (m : ℕ) → m % 2 ≡ 1 → bit_and m (m - 1) ≡ m / 2 * 2
and_pred_odd m odd =
    let first : m ≡ m / 2 * 2 + 1 = omega arith in
    let second : m - 1 ≡ m / 2 * 2 + 0 = omega arith in
    ap₂ bit_and first second ∙ and_block 1 (m / 2) (m / 2) 1 0 (omega arith) (omega arith) ∙ ap (λ (x : ℕ). x * 2 + 0) (and_self (m / 2)) ∙ omega arith

and_pred_even : (m : ℕ) → m % 2 ≡ 0 → 0 < m → bit_and m (m - 1) ≡ bit_and (m / 2) (m / 2 - 1) * 2
and_pred_even m even some =
    let first : m ≡ m / 2 * 2 + 0 = omega arith in
    let second : m - 1 ≡ (m / 2 - 1) * 2 + 1 = omega arith in
    ap₂ bit_and first second ∙ and_block 1 (m / 2) (m / 2 - 1) 0 1 (omega arith) (omega arith) ∙ omega arith

twice : (n : ℕ) → (n * 2 % 2 ≡ 0) × (n * 2 / 2 ≡ n)
twice n = (omega arith, omega arith)

odd_or_even : (m : ℕ) → (m % 2 ≡ 1) ⊎ (m % 2 ≡ 0)
odd_or_even m = by (m % 2) (omega arith)
  where
    by : (r : ℕ) → r < 2 → (r ≡ 1) ⊎ (r ≡ 0)
    by zero below = inr refl
    by (suc zero) below = inl refl
    by (suc (suc r)) below = absurd (omega arith)

skipped : (n at m x : ℕ) → m % 2 ≡ 0 → m / 2 ≡ x → set_places (suc n) at m ≡ set_places n (at + 1) x
unfolding set_places
skipped n at m x even half = rw (even, half)

taken : (n at m x : ℕ) → m % 2 ≡ 1 → m / 2 ≡ x → set_places (suc n) at m ≡ at ∷ set_places n (at + 1) x
unfolding set_places
taken n at m x odd half = rw (odd, half)

no_zeros : (k m : ℕ) → m % 2 ≡ 1 → count_trailing_zeros (suc k) m ≡ 0
unfolding count_trailing_zeros
no_zeros k m odd = rw odd

more_zeros : (k m : ℕ) → m % 2 ≡ 0 → count_trailing_zeros (suc k) m ≡ suc (count_trailing_zeros k (m / 2))
unfolding count_trailing_zeros
more_zeros k m even = rw even

lowest_odd : (n at m : ℕ) → m % 2 ≡ 1 → set_places (suc n) at m ≡ (at + count_trailing_zeros (suc n) m) ∷ set_places (suc n) at (bit_and m (m - 1))
lowest_odd n at m odd =
    let half : bit_and m (m - 1) / 2 ≡ m / 2 = ap (λ (x : ℕ). x / 2) (and_pred_odd m odd) ∙ (twice (m / 2)).1 in
    let even : bit_and m (m - 1) % 2 ≡ 0 = ap (λ (x : ℕ). x % 2) (and_pred_odd m odd) ∙ (twice (m / 2)).0 in
    let here : at ≡ at + count_trailing_zeros (suc n) m = omega (arith, no_zeros n m odd) in
    taken n at m (m / 2) odd refl ∙ ap₂ (λ (x : ℕ) (xs : List ℕ). x ∷ xs) here (sym (skipped n at (bit_and m (m - 1)) (m / 2) even half))

lowest_even : (n at m : ℕ) → m % 2 ≡ 0 → 0 < m
    → set_places n (at + 1) (m / 2) ≡ (at + 1 + count_trailing_zeros n (m / 2)) ∷ set_places n (at + 1) (bit_and (m / 2) (m / 2 - 1))
    → set_places (suc n) at m ≡ (at + count_trailing_zeros (suc n) m) ∷ set_places (suc n) at (bit_and m (m - 1))
lowest_even n at m even some rest =
    let half : bit_and m (m - 1) / 2 ≡ bit_and (m / 2) (m / 2 - 1) = ap (λ (x : ℕ). x / 2) (and_pred_even m even some) ∙ (twice _).1 in
    let none : bit_and m (m - 1) % 2 ≡ 0 = ap (λ (x : ℕ). x % 2) (and_pred_even m even some) ∙ (twice _).0 in
    let here : at + 1 + count_trailing_zeros n (m / 2) ≡ at + count_trailing_zeros (suc n) m = omega (arith, more_zeros n m even) in
    skipped n at m (m / 2) even refl ∙ rest
    ∙ ap₂ (λ (x : ℕ) (xs : List ℕ). x ∷ xs) here (sym (skipped n at (bit_and m (m - 1)) (bit_and (m / 2) (m / 2 - 1)) none half))

half_below : (n m : ℕ) → m < 2 ^ suc n → m / 2 < 2 ^ n
half_below n m below = omega (arith, pow-suc 2 n)

-- the lowest bit, and the others
pub lowest_place : (n at m : ℕ) → 0 < m → m < 2 ^ n → set_places n at m ≡ (at + count_trailing_zeros n m) ∷ set_places n at (bit_and m (m - 1))
lowest_place zero at m some below = absurd (omega arith)
lowest_place (suc n) at m some below = by (λ some_half. lowest_place n (at + 1) (m / 2) some_half (half_below n m below)) (odd_or_even m)
  where
    by : (0 < m / 2 → set_places n (at + 1) (m / 2) ≡ (at + 1 + count_trailing_zeros n (m / 2)) ∷ set_places n (at + 1) (bit_and (m / 2) (m / 2 - 1)))
        → (m % 2 ≡ 1) ⊎ (m % 2 ≡ 0) → set_places (suc n) at m ≡ (at + count_trailing_zeros (suc n) m) ∷ set_places (suc n) at (bit_and m (m - 1))
    by rest (inl odd) = lowest_odd n at m odd
    by rest (inr even) = lowest_even n at m even some (rest (omega arith))

pub no_places : (n at : ℕ) → set_places n at 0 ≡ []
unfolding set_places
no_places zero at = refl
no_places (suc n) at = no_places n (at + 1)

with_place_most : (t : Bool) (at n : ℕ) (xs : List ℕ) → length xs ≤ n → length (with_place t at xs) ≤ suc n
with_place_most true at n xs most = omega arith
with_place_most false at n xs most = omega arith

pub most_places : (n at m : ℕ) → length (set_places n at m) ≤ n
unfolding set_places
most_places zero at m = omega arith
most_places (suc n) at m = with_place_most _ at n _ (most_places n (at + 1) (m / 2))

counted : (next count : ℕ) (out before places all : List ℕ) → next ≤ length out → count ≤ length before → take next out ++ places ≡ take count before ++ all
    → next + length places ≡ count + length all
counted next count out before places all within room is =
    let one : length (take next out ++ places) ≡ next + length places = omega (arith, length-append (take next out) places, length-take-le next out within) in
    let two : length (take count before ++ all) ≡ count + length all = omega (arith, length-append (take count before) all, length-take-le count before room) in
    sym one ∙ ap length is ∙ two

-- the places that are left have room
pub room_left : (next count at left bits : ℕ) (out before : List ℕ) → length out ≡ length before → next ≤ length out → count + 64 ≤ length before
    → take next out ++ set_places 64 at left ≡ take count before ++ set_places 64 at bits → next + length (set_places 64 at left) ≤ count + 64
room_left next count at left bits out before kept within room is =
    omega (arith, counted next count out before (set_places 64 at left) (set_places 64 at bits) within (omega arith) is, most_places 64 at bits)

pub some_left : (at left : ℕ) → 0 < left → left < 2 ^ 64 → 0 < length (set_places 64 at left)
some_left at left some fits = omega (arith, ap length (lowest_place 64 at left some fits))

-- the lowest place is written after the others
pub place_put : (next at left : ℕ) (out : List ℕ) → next < length out → 0 < left → left < 2 ^ 64
    → take (next + 1) (set out next (at + count_trailing_zeros 64 left)) ++ set_places 64 at (bit_and left (left - 1)) ≡ take next out ++ set_places 64 at left
place_put next at left out within some fits =
    let v = at + count_trailing_zeros 64 left in
    ap (λ (xs : List ℕ). xs ++ set_places 64 at (bit_and left (left - 1))) (take-set_at out next (next + 1) v refl within)
    ∙ append_assoc (take next out) (v ∷ []) (set_places 64 at (bit_and left (left - 1)))
    ∙ ap (λ (xs : List ℕ). take next out ++ xs) (sym (lowest_place 64 at left some fits))

-- the places of some bits are written up to `to`, and those of the bits that are left come after; `next` is the count when all are
pub record Placed (count at bits : ℕ) (before : List ℕ) (next to left : ℕ) (out : List ℕ) : Type 0 where
  pub written : take (min to next) out ++ set_places 64 at left ≡ take count before ++ set_places 64 at bits
  pub missing : min to next + length (set_places 64 at left) ≡ next

below_one : (m : ℕ) → m < 1 → 0 ≡ ones m
unfolding ones
below_one zero below = refl
below_one (suc m) below = absurd (omega arith)

-- as many as there are bits
pub places_counted : (n at m : ℕ) → m < 2 ^ n → length (set_places n at m) ≡ ones m
unfolding set_places
places_counted zero at m below = below_one m below
places_counted (suc n) at m below = by (odd_or_even m) (places_counted n (at + 1) (m / 2) (half_below n m below))
  where
    by : (m % 2 ≡ 1) ⊎ (m % 2 ≡ 0) → length (set_places n (at + 1) (m / 2)) ≡ ones (m / 2) → length (set_places (suc n) at m) ≡ ones m
    by (inl odd) rest = omega (arith, ap length (taken n at m (m / 2) odd refl), ones_step m)
    by (inr even) rest = omega (arith, ap length (skipped n at m (m / 2) even refl), ones_step m)

pub placed_none : (count at bits : ℕ) (before : List ℕ) → bits < 2 ^ 64 → Placed count at bits before (count + ones bits) count bits before
placed_none count at bits before fits =
    let first : min count (count + ones bits) ≡ count = min-eq_left (omega arith) in
    record {
      written = ap (λ (k : ℕ). take k before ++ set_places 64 at bits) first;
      missing = ap (λ (k : ℕ). k + length (set_places 64 at bits)) first ∙ ap (λ (k : ℕ). count + k) (places_counted 64 at bits fits);
    }

pub placed_more : (count at bits next to left rest : ℕ) (before out new : List ℕ) → left < 2 ^ 64 → to < length out → length new ≡ length out
    → (0 < left → take (to + 1) new ++ set_places 64 at rest ≡ take to out ++ set_places 64 at left) → (left ≡ 0 → rest ≡ 0) → ((n : ℕ) → n ≤ to → take n new ≡ take n out)
    → Placed count at bits before next to left out → Placed count at bits before next (to + 1) rest new
placed_more count at bits next to left rest before out new fits room kept some none front placed = by (cases_eq left 0)
  where
    by : (left ≡ 0) ⊎ (left ≡ 0 → ⊥) → Placed count at bits before next (to + 1) rest new
    by (inl empty) =
        let no_left : set_places 64 at left ≡ [] = ap (set_places 64 at) empty ∙ no_places 64 at in
        let no_rest : set_places 64 at rest ≡ [] = ap (set_places 64 at) (none empty) ∙ no_places 64 at in
        let full : min to next ≡ next = omega (arith, placed.missing, ap length no_left) in
        let past : min (to + 1) next ≡ next = omega arith in
        record {
          written = ap₂ (λ (k : ℕ) (xs : List ℕ). take k new ++ xs) past no_rest ∙ ap (λ (xs : List ℕ). xs ++ []) (front next (omega arith))
              ∙ sym (ap₂ (λ (k : ℕ) (xs : List ℕ). take k out ++ xs) full no_left) ∙ placed.written;
          missing = ap₂ (λ (k : ℕ) (xs : List ℕ). k + length xs) past no_rest ∙ omega arith;
        }
    by (inr bit) =
        let more = some_left at left (omega arith) fits in
        let here : min to next ≡ to = omega (arith, placed.missing) in
        let quote_step : min (to + 1) next ≡ to + 1 = omega (arith, placed.missing) in
        let is = some (omega arith) in
        let count_is = counted (to + 1) to new out (set_places 64 at rest) (set_places 64 at left) (omega arith) (omega arith) is in
        record {
          written = ap (λ (k : ℕ). take k new ++ set_places 64 at rest) quote_step ∙ is ∙ sym (ap (λ (k : ℕ). take k out ++ set_places 64 at left) here) ∙ placed.written;
          missing = omega (arith, placed.missing);
        }
