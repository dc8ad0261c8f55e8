-- Masks of 64 bytes: what each bit tells, and how many bits there are.
use Rattle.std.proofs.Common.{◌≡◌, refl, ℕ, zero, suc, ◌+◌, ◌-◌, ◌*◌, ◌^◌, ◌<◌, ◌≤◌, ◌∙◌, sym, ap, ap₂, arith, min, max, Bool, true, false, cond, not, ◌&&◌, ◌||◌, List, [], ◌∷◌, length, get_or, map, add-one, pow_mono, lt_of_lt_of_le, pow-suc}
use Rattle.std.proofs.lemmas.Nat.Bits.{bit_at_and, bit_at_or, bit_at_not, same_from_bits_below}
use Rattle.std.proofs.lemmas.Simd.{bit_mask_l, mask_l-lt, ones-mask_l, ones-mask_l_cons}
use Rattle.std.specs.Int.{bit_at, w64}
use Rattle.std.specs.Int.RustNames.{bit_and, bit_or, count_ones}
use Rattle.std.specs.Simd.Lanes.{mask_l}
use Rattle.morsel_grammar.specs.Machine.{place_or_later, last_place}
use Rattle.morsel_cut.specs.Blocks.{tests_after, count_after}
use Rattle.morsel_cut.proofs.BitLemmas.{HasBits}

-- one bit of a number
pub record Is (m k : ℕ) (b : Bool) : Type 0 where
  pub bit : bit_at m k ≡ cond b 1 0

num_min : (a b : Bool) → min (cond a 1 0) (cond b 1 0) ≡ cond (a && b) 1 0
num_min true true = refl
num_min true false = refl
num_min false true = refl
num_min false false = refl

num_max : (a b : Bool) → max (cond a 1 0) (cond b 1 0) ≡ cond (a || b) 1 0
num_max true true = refl
num_max true false = refl
num_max false true = refl
num_max false false = refl

num_not : (a : Bool) → 1 - cond a 1 0 ≡ cond (not a) 1 0
num_not true = refl
num_not false = refl

pub and_is : {m n k : ℕ} {a b : Bool} → Is m k a → Is n k b → Is (bit_and m n) k (a && b)
and_is {m} {n} {k} {a} {b} x y = record { bit = bit_at_and m n k ∙ ap₂ min x.bit y.bit ∙ num_min a b }

pub or_is : {m n k : ℕ} {a b : Bool} → Is m k a → Is n k b → Is (bit_or m n) k (a || b)
or_is {m} {n} {k} {a} {b} x y = record { bit = bit_at_or m n k ∙ ap₂ max x.bit y.bit ∙ num_max a b }

pub not_is : {m k : ℕ} {a : Bool} → m < 2 ^ 64 → k < 64 → Is m k a → Is (18446744073709551615 - m) k (not a)
not_is {m} {k} {a} fits below x = record { bit = bit_at_not w64 m k fits below ∙ ap (λ (n : ℕ). 1 - n) x.bit ∙ num_not a }

pub same_is : {m k : ℕ} {a b : Bool} → a ≡ b → Is m k a → Is m k b
same_is {m} {k} {a} {b} e x = record { bit = x.bit ∙ ap (λ (t : Bool). cond t 1 0) e }

-- whether the byte at a place passes a test
abbrev pub has : (ℕ → Bool) → List ℕ → ℕ → Bool
has test bytes k = get_or (map test bytes) k false

pub mask_is : (test : ℕ → Bool) (bytes : List ℕ) (m k : ℕ) → m ≡ mask_l (map test bytes) → Is m k (has test bytes k)
mask_is test bytes m k is = record { bit = ap (λ (x : ℕ). bit_at x k) is ∙ bit_mask_l (map test bytes) k }

short_mask : (marks : List Bool) → length marks ≤ 64 → mask_l marks < 2 ^ 64
short_mask marks most = lt_of_lt_of_le (mask_l-lt marks) (pow_mono most)

-- a number whose bits are these marks
pub mask_from_bits : (marks : List Bool) (m : ℕ) → length marks ≤ 64 → m < 2 ^ 64 → ((k : ℕ) → k < 64 → Is m k (get_or marks k false)) → m ≡ mask_l marks
mask_from_bits marks m most fits is = same_from_bits_below 64 m (mask_l marks) fits (short_mask marks most) (λ k below. (is k below).bit ∙ sym (bit_mask_l marks k))

-- the bits one place on tell of the bytes before
pub shifted_is : (bits moved k : ℕ) (first : Bool) (f : ℕ → Bool) → bit_at moved 0 ≡ cond first 1 0 → ((j : ℕ) → j + 1 < 64 → bit_at moved (j + 1) ≡ bit_at bits j)
    → first ≡ f 0 → ((j : ℕ) → j < k → Is bits j (f (suc j))) → k < 64 → Is moved k (f k)
shifted_is bits moved zero first f low high begins later below = same_is begins (record { bit = low })
shifted_is bits moved (suc j) first f low high begins later below =
    record { bit = ap (bit_at moved) (sym (add-one j)) ∙ high j (omega arith) ∙ (later j (omega arith)).bit }

-- no mark is set
no_bit : (t : Bool) (m : ℕ) → cond t 1 0 + 2 * m ≡ 0 → (t ≡ false) × (m ≡ 0)
no_bit true m none = absurd (omega arith)
no_bit false m none = (refl, omega arith)

pub none_marked : (test : ℕ → Bool) (bytes : List ℕ) → mask_l (map test bytes) ≡ 0 → (k : ℕ) → k < length bytes → test (get_or bytes k 0) ≡ false
none_marked test [] none k below = absurd (omega arith)
none_marked test (b ∷ bs) none zero below = (no_bit (test b) (mask_l (map test bs)) none).0
none_marked test (b ∷ bs) none (suc k) below = none_marked test bs (no_bit (test b) (mask_l (map test bs)) none).1 k (omega arith)

pub length_tests : {S : Type 0} (step : S → ℕ → S) (test : S → Bool) (s : S) (bytes : List ℕ) → length (tests_after step test s bytes) ≡ length bytes
length_tests step test s [] = refl
length_tests step test s (b ∷ bs) = ap suc (length_tests step test (step s b) bs)

-- as many bits as places
pub ones_tests : {S : Type 0} (step : S → ℕ → S) (test : S → Bool) (s : S) (bytes : List ℕ) → count_ones (mask_l (tests_after step test s bytes)) ≡ count_after step test s bytes
ones_tests step test s [] = ones-mask_l {X = ℕ} (λ (b : ℕ). false) []
ones_tests step test s (b ∷ bs) =
    ones-mask_l_cons (test (step s b)) (tests_after step test (step s b) bs) ∙ ap (λ (n : ℕ). cond (test (step s b)) 1 0 + n) (ones_tests step test (step s b) bs)

-- and as many bits up to the highest as bytes up to the last place
last_bits : (t : Bool) (m last : ℕ) → HasBits m last → HasBits (cond t 1 0 + 2 * m) (place_or_later t last)
last_bits true m zero bits = (omega arith, omega arith)
last_bits false m zero bits = (omega arith, omega arith)
last_bits t m (suc last) bits =
    let one : 2 ^ suc last ≡ 2 ^ last * 2 = pow-suc 2 last in
    let two : 2 ^ suc (suc last) ≡ 2 ^ suc last * 2 = pow-suc 2 (suc last) in
    by t one two
  where
    by : (t : Bool) → 2 ^ suc last ≡ 2 ^ last * 2 → 2 ^ suc (suc last) ≡ 2 ^ suc last * 2 → HasBits (cond t 1 0 + 2 * m) (suc (suc last))
    by true one two = (omega (arith, bits.0, one, two), omega (arith, bits.1, one, two))
    by false one two = (omega (arith, bits.0, one, two), omega (arith, bits.1, one, two))

pub last_tests : {S : Type 0} (step : S → ℕ → S) (test : S → Bool) (s : S) (bytes : List ℕ) → HasBits (mask_l (tests_after step test s bytes)) (last_place step test s bytes)
last_tests step test s [] = (omega arith, omega arith)
last_tests step test s (b ∷ bs) = last_bits (test (step s b)) (mask_l (tests_after step test (step s b) bs)) (last_place step test (step s b) bs) (last_tests step test (step s b) bs)

pub mask_none : (bytes : List ℕ) → mask_l (map (λ (b : ℕ). false) bytes) ≡ 0
mask_none [] = refl
mask_none (b ∷ bs) = omega (arith, mask_none bs)
