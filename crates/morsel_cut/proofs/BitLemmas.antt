-- Masks of 64 bits, bit by bit.
use Rattle.std.proofs.Common.{◌≡◌, ◌⊎◌, inl, inr, refl, subst, ℕ, ◌+◌, ◌-◌, ◌*◌, ◌%◌, ◌^◌, ◌<◌, ◌≤◌, ◌∙◌, sym, ap, ap₂, arith, min, max, add-zero, add-one, pow_pos, pow_mono, pow-suc, Bool, true, false, cond, ◌||◌}
use Rattle.std.proofs.lemmas.Bool.{cases_lt}
use Rattle.std.proofs.lemmas.Nat.{and_mask, leading_length}
use lib.Count.{count_leading_zeros}
use Rattle.std.proofs.lemmas.Nat.Bits.{bit_at-lt, bit_at-zero, bit_at_and, bit_at_or, bit_at_xor, bit_at_ones, bit_at_cat_low, bit_at_cat_high, bit_at_above}
use Rattle.std.proofs.Math.Nat.{min-eq_left, max-zero}
use Rattle.std.specs.Int.{bit_at}
use Rattle.std.specs.Int.RustNames.{bit_or, bit_xor}
use mir.Val.{bool_byte}
use Rattle.morsel_cut.specs.Blocks.{ones_below}

-- bits below a width stand through a cut at it
pub bit_at_cut : (w n k : ℕ) → k < w → bit_at (n % 2 ^ w) k ≡ bit_at n k
bit_at_cut w n k below =
    ap (λ (x : ℕ). bit_at x k) (sym (and_mask n w))
    ∙ bit_at_and n (2 ^ w - 1) k
    ∙ ap (min (bit_at n k)) (bit_at_ones w k below)
    ∙ min-eq_left (omega (arith, bit_at-lt n k))

-- `x << s` at 64 bits
pub bit_at_shl_low : (x s k : ℕ) → k < s → s ≤ 64 → bit_at (x * 2 ^ s % 2 ^ 64) k ≡ 0
bit_at_shl_low x s k below most =
    bit_at_cut 64 (x * 2 ^ s) k (omega arith)
    ∙ ap (λ (n : ℕ). bit_at n k) (sym (add-zero (x * 2 ^ s)))
    ∙ bit_at_cat_low x s 0 k below ∙ bit_at-zero k

pub bit_at_shl_high : (x s k : ℕ) → s ≤ k → k < 64 → bit_at (x * 2 ^ s % 2 ^ 64) k ≡ bit_at x (k - s)
bit_at_shl_high x s k above below =
    bit_at_cut 64 (x * 2 ^ s) k below
    ∙ ap (λ (n : ℕ). bit_at n k) (sym (add-zero (x * 2 ^ s)))
    ∙ bit_at_cat_high x s 0 k (pow_pos s) above

-- bit `k` is the parity of the counts `p` from `w` places before it up to it
abbrev pub Ladder : (ℕ → ℕ) → ℕ → ℕ → Type 0
Ladder p w m = (k : ℕ) → k < 64 → bit_at m k ≡ (p (k + 1) + p (k + 1 - w)) % 2

odd_sum : (a b c : ℕ) → ((a + b) % 2 + (b + c) % 2) % 2 ≡ (a + c) % 2
odd_sum a b c = omega arith

odd_none : (a b c d : ℕ) → a ≡ (b + c) % 2 → d ≡ 0 → (a + d) % 2 ≡ (b + c) % 2
odd_none a b c d is none = omega arith

pub ladder_step : (p : ℕ → ℕ) (w m : ℕ) → w ≤ 64 → Ladder p w m → Ladder p (w + w) (bit_xor m (m * 2 ^ w % 2 ^ 64))
ladder_step p w m most is = λ k below. bit_at_xor m (m * 2 ^ w % 2 ^ 64) k ∙ by k below (cases_lt k w)
  where
    by : (k : ℕ) → k < 64 → (k < w) ⊎ (w ≤ k) → (bit_at m k + bit_at (m * 2 ^ w % 2 ^ 64) k) % 2 ≡ (p (k + 1) + p (k + 1 - (w + w))) % 2
    by k below (inl low) =
        let none : k + 1 - w ≡ k + 1 - (w + w) = omega arith in
        odd_none _ _ _ _ (is k below) (bit_at_shl_low m w k low most) ∙ ap (λ (j : ℕ). (p (k + 1) + p j) % 2) none
    by k below (inr high) =
        let first : k - w + 1 ≡ k + 1 - w = omega arith in
        let second : k - w + 1 - w ≡ k + 1 - (w + w) = omega arith in
        ap₂ (λ (x y : ℕ). (x + y) % 2) (is k below) (bit_at_shl_high m w k high below ∙ is (k - w) (omega arith) ∙ ap₂ (λ (i j : ℕ). (p i + p j) % 2) first second)
        ∙ odd_sum (p (k + 1)) (p (k + 1 - w)) (p (k + 1 - (w + w)))

one_more : (bits k : ℕ) → ones_below bits (k + 1) ≡ ones_below bits k + bit_at bits k
one_more bits k = ap (ones_below bits) (add-one k)

pub ladder_start : (bits : ℕ) → Ladder (ones_below bits) 1 bits
ladder_start bits = λ k below.
    let back : k + 1 - 1 ≡ k = omega arith in
    sym (ap₂ (λ (x y : ℕ). (x + y) % 2) (one_more bits k) (ap (ones_below bits) back) ∙ twice (ones_below bits k) (bit_at bits k) (bit_at-lt bits k))
  where
    twice : (a b : ℕ) → b < 2 → (a + b + a) % 2 ≡ b
    twice a b below = omega arith

pub ladder_end : (bits m : ℕ) → Ladder (ones_below bits) 64 m → (k : ℕ) → k < 64 → bit_at m k ≡ ones_below bits (k + 1) % 2
ladder_end bits m is k below =
    let none : k + 1 - 64 ≡ 0 = omega arith in
    is k below ∙ ap (λ (j : ℕ). (ones_below bits (k + 1) + ones_below bits j) % 2) none ∙ ap (λ (n : ℕ). n % 2) (add-zero _)

num_max : (a b : Bool) → max (cond a 1 0) (cond b 1 0) ≡ cond (a || b) 1 0
num_max true true = refl
num_max true false = refl
num_max false true = refl
num_max false false = refl

-- `x << 1 | c`
pub one_on_low : (x c : ℕ) (b : Bool) → c ≡ cond b 1 0 → bit_at (bit_or (x * 2 % 18446744073709551616) c) 0 ≡ cond b 1 0
one_on_low x c b is =
    bit_at_or _ c 0 ∙ ap₂ max (bit_at_shl_low x 1 0 (omega arith) (omega arith)) (ap (λ (n : ℕ). bit_at n 0) is) ∙ by b
  where
    by : (t : Bool) → max 0 (bit_at (cond t 1 0) 0) ≡ cond t 1 0
    by true = refl
    by false = refl

pub one_on_high : (x c : ℕ) (b : Bool) → c ≡ cond b 1 0 → (k : ℕ) → k + 1 < 64 → bit_at (bit_or (x * 2 % 18446744073709551616) c) (k + 1) ≡ bit_at x k
one_on_high x c b is k below =
    let back : k + 1 - 1 ≡ k = omega arith in
    bit_at_or _ c (k + 1)
    ∙ ap₂ max (bit_at_shl_high x 1 (k + 1) (omega arith) below ∙ ap (bit_at x) back) (bit_at_above c 1 (k + 1) (by b is) (omega arith))
    ∙ max-zero (bit_at x k)
  where
    by : (t : Bool) → c ≡ cond t 1 0 → c < 2
    by true one = omega arith
    by false none = omega arith

pub bool_bit : (b : Bool) → bool_byte b ≡ cond b 1 0
bool_bit true = refl
bool_bit false = refl

-- how many bits a number has: no other number of bits is enough and not too many
abbrev pub HasBits : ℕ → ℕ → Type 0
HasBits m n = (m < 2 ^ n) × (2 ^ n ≤ 2 * m + 1)

not_more : (m a b : ℕ) → 2 ^ a ≤ 2 * m + 1 → m < 2 ^ b → a ≤ b
not_more m a b above below = by (cases_lt b a)
  where
    by : (b < a) ⊎ (a ≤ b) → a ≤ b
    by (inl less) =
        let more : 2 ^ (b + 1) ≤ 2 ^ a = pow_mono (omega arith) in
        let twice : 2 ^ (b + 1) ≡ 2 ^ b * 2 = ap (λ (n : ℕ). 2 ^ n) (add-one b) ∙ pow-suc 2 b in
        absurd (omega (arith, more, twice))
    by (inr is) = is

pub same_bits : (m a b : ℕ) → HasBits m a → HasBits m b → a ≡ b
same_bits m a b first second = let one = not_more m a b first.1 second.0 in let other = not_more m b a second.1 first.0 in omega (arith, one, other)

pub has_bits : (m : ℕ) → m < 2 ^ 64 → HasBits m (64 - count_leading_zeros 64 m)
has_bits m fits =
    let found = leading_length 64 m fits in
    let is : found.0 ≡ 64 - count_leading_zeros 64 m = omega (arith, found.1) in
    subst (HasBits m) is (found.2, found.3)
