-- The steps of a random permutation, each of which keeps two places apart.
use Rattle.std.proofs.Common.{◌≡◌, ℕ, zero, suc, ◌+◌, ◌*◌, ◌-◌, ◌/◌, ◌%◌, ◌^◌, ◌<◌, ◌≤◌, sym, ap, ◌∙◌, subst, arith}
use Rattle.std.specs.Prelude.{bit_xor}
use Prim.Native.Nat.{◌∣◌}
use Rattle.std.proofs.Math.Nat.{mod-mod_of_dvd, dvd-mul_left, mod-add-mod, add-mul-mod_self_right, mod-eq_of_lt, mod-one, div-add-mod'}
use Rattle.std.proofs.Math.Numerals.{add-one}
use Rattle.std.proofs.lemmas.Nat.{pow_pos, pow-add, shr-shr, shr_le, mod-pow-add, xor_mod, xor_shr, mul-mod, mod_below}
use Rattle.std.proofs.lemmas.Nat.Bits.{bit_at_xor, bit_at-lt, bit_at-zero, same_from_bits}
use Rattle.std.specs.Int.{bit_at}
use Rattle.morsel_exec.specs.declared.permutation.Plan.{Plan}
use Rattle.morsel_exec.specs.Permutation.{mixed, shift_of}

-- the low bits of a word are those of the number that was cut to it
low_of_word : (n k : ℕ) → k ≤ 32 → n % 2 ^ 32 % 2 ^ k ≡ n % 2 ^ k
low_of_word n k short = mod-mod_of_dvd (2 ^ k) n divides
  where
    whole : 2 ^ 32 ≡ 2 ^ (32 - k) * 2 ^ k
    whole = ap (λ j. 2 ^ j) (let e : 32 ≡ (32 - k) + k = omega arith in e) ∙ pow-add 2 (32 - k) k

    divides : 2 ^ k ∣ 2 ^ 32
    divides = subst (λ n. 2 ^ k ∣ n) (sym whole) (dvd-mul_left (2 ^ k) (2 ^ (32 - k)))

-- ---- a sum

-- what is added can be taken away
taken_away : (m a c : ℕ) → 0 < m → ((a + c) % m + (m - c % m)) % m ≡ a % m
taken_away m a c positive = mod-add-mod (a + c) m (m - c % m) ∙ ap (λ n. n % m) regrouped ∙ add-mul-mod_self_right a (c / m + 1) m
  where
    regrouped : (a + c) + (m - c % m) ≡ a + (c / m + 1) * m
    regrouped = let whole = div-add-mod' c m in let small = mod_below c m positive in omega arith

same_from_sums : (m a b c : ℕ) → 0 < m → (a + c) % m ≡ (b + c) % m → a % m ≡ b % m
same_from_sums m a b c positive same =
    sym (taken_away m a c positive) ∙ ap (λ n. (n + (m - c % m)) % m) same ∙ taken_away m b c positive

-- ---- a product with an odd number

-- the lowest bit, and the others
low_split : (n k : ℕ) → n % 2 ^ suc k ≡ n / 2 % 2 ^ k * 2 + n % 2
low_split n k = subst (λ j. n % 2 ^ j ≡ n / 2 % 2 ^ k * 2 + n % 2) (add-one k) (mod-pow-add n k 1)

same_parts : (n m k : ℕ) → n % 2 ^ suc k ≡ m % 2 ^ suc k → (n % 2 ≡ m % 2) × (n / 2 % 2 ^ k ≡ m / 2 % 2 ^ k)
same_parts n m k same =
    let left = low_split n k in
    let right = low_split m k in
    (omega arith, omega arith)

odd_low : (a o : ℕ) → o % 2 ≡ 1 → a * o % 2 ≡ a % 2
odd_low a o odd = mul-mod a o 2 ∙ ap (λ r. a % 2 * r % 2) odd ∙ omega arith

odd_high : (a o : ℕ) → a * o / 2 ≡ a / 2 * o + a % 2 * o / 2
odd_high a o =
    let parts : a ≡ a / 2 * 2 + a % 2 = omega arith in
    let product = ap (λ n. n * o) parts in
    halves (a * o) (a / 2 * o) (a % 2 * o) (product ∙ omega arith)
  where
    halves : (n x y : ℕ) → n ≡ x * 2 + y → n / 2 ≡ x + y / 2
    halves n x y same = omega arith

same_from_products : (k a b o : ℕ) → o % 2 ≡ 1 → a * o % 2 ^ k ≡ b * o % 2 ^ k → a % 2 ^ k ≡ b % 2 ^ k
same_from_products zero a b o odd same = mod-one a ∙ sym (mod-one b)
same_from_products (suc k) a b o odd same =
    let parts = same_parts (a * o) (b * o) k same in
    let low : a % 2 ≡ b % 2 = sym (odd_low a o odd) ∙ parts.0 ∙ odd_low b o odd in
    let high = sym (ap (λ n. n % 2 ^ k) (odd_high a o)) ∙ parts.1 ∙ ap (λ n. n % 2 ^ k) (odd_high b o) in
    let high_same = subst (λ r. (a / 2 * o + a % 2 * o / 2) % 2 ^ k ≡ (b / 2 * o + r * o / 2) % 2 ^ k) (sym low) high in
    let halves = same_from_products k (a / 2) (b / 2) o odd (same_from_sums (2 ^ k) (a / 2 * o) (b / 2 * o) (a % 2 * o / 2) (pow_pos k) high_same) in
    let left = low_split a k in
    let right = low_split b k in
    omega arith

-- ---- a number folded with its own high bits

same_from_xor : (a b : ℕ) → bit_xor a b ≡ 0 → a ≡ b
same_from_xor a b none = same_from_bits a b (λ i.
    let both = sym (bit_at_xor a b i) ∙ ap (λ n. bit_at n i) none ∙ bit_at-zero i in
    let below_a = bit_at-lt a i in
    let below_b = bit_at-lt b i in
    bits_same (bit_at a i) (bit_at b i) below_a below_b both)
  where
    bits_same : (x y : ℕ) → x < 2 → y < 2 → (x + y) % 2 ≡ 0 → x ≡ y
    bits_same x y below_x below_y even = omega arith

-- a number that is its own upper part is 0
zero_from_shift : (n h : ℕ) → 0 < h → n ≡ n / 2 ^ h → n ≡ 0
zero_from_shift n zero positive same = absurd (omega arith)
zero_from_shift n (suc j) positive same =
    let split = shr-shr n 1 j in
    let less = shr_le (n / 2) j in
    let same_here = subst (λ i. n ≡ n / 2 ^ i) (suc_as_sum j) same in
    omega arith
  where
    suc_as_sum : (j : ℕ) → suc j ≡ 1 + j
    suc_as_sum j = omega arith

same_from_folded : (a b h : ℕ) → 0 < h → bit_xor a (a / 2 ^ h) ≡ bit_xor b (b / 2 ^ h) → a ≡ b
same_from_folded a b h positive same = same_from_xor a b (zero_from_shift (bit_xor a b) h positive (crossed ∙ sym (xor_shr a b h)))
  where
    bits_crossed : (w x y z : ℕ) → w < 2 → x < 2 → y < 2 → z < 2 → (w + x) % 2 ≡ (y + z) % 2 → (w + y) % 2 ≡ (x + z) % 2
    bits_crossed w x y z below_w below_x below_y below_z e = omega arith

    crossed : bit_xor a b ≡ bit_xor (a / 2 ^ h) (b / 2 ^ h)
    crossed = same_from_bits (bit_xor a b) (bit_xor (a / 2 ^ h) (b / 2 ^ h)) (λ i.
        bit_at_xor a b i
        ∙ bits_crossed (bit_at a i) (bit_at (a / 2 ^ h) i) (bit_at b i) (bit_at (b / 2 ^ h) i) (bit_at-lt a i) (bit_at-lt (a / 2 ^ h) i) (bit_at-lt b i) (bit_at-lt (b / 2 ^ h) i)
        (sym (bit_at_xor a (a / 2 ^ h) i) ∙ ap (λ n. bit_at n i) same ∙ bit_at_xor b (b / 2 ^ h) i)
        ∙ sym (bit_at_xor (a / 2 ^ h) (b / 2 ^ h) i))

-- the low bits of a word that is folded with the high ones of its low bits
low_of_folded : (y k h : ℕ) → bit_xor y (y % 2 ^ k / 2 ^ h) % 2 ^ k ≡ bit_xor (y % 2 ^ k) (y % 2 ^ k / 2 ^ h)
low_of_folded y k h =
    let small = mod_below y (2 ^ k) (pow_pos k) in
    let less = shr_le (y % 2 ^ k) h in
    xor_mod y (y % 2 ^ k / 2 ^ h) k ∙ ap (λ n. bit_xor (y % 2 ^ k) n) (mod-eq_of_lt (omega arith))

-- ---- all steps

pub mixed_below : (p : Plan) (at : ℕ) → mixed p at < 2 ^ p.width
mixed_below p at = mod_below _ (2 ^ p.width) (pow_pos p.width)

-- two places that go to one number are one
pub same_from_mixed : (p : Plan) (i j : ℕ) → p.width ≤ 32 → p.odd1 % 2 ≡ 1 → p.odd2 % 2 ≡ 1 → i < 2 ^ p.width → j < 2 ^ p.width → mixed p i ≡ mixed p j → i ≡ j
same_from_mixed p i j short odd1 odd2 below_i below_j same =
    let k = p.width in
    let sum : ℕ → ℕ = λ at. (at + p.displace) % 2 ^ 32 in
    let product : ℕ → ℕ = λ at. sum at * p.odd1 % 2 ^ 32 in
    let folded : ℕ → ℕ = λ at. bit_xor (product at) (product at % 2 ^ k / 2 ^ shift_of k) in
    let low_folded = same_from_products k (folded i) (folded j) p.odd2 odd2 (sym (low_of_word (folded i * p.odd2) k short) ∙ same ∙ low_of_word (folded j * p.odd2) k short) in
    let low_product = same_from_folded (product i % 2 ^ k) (product j % 2 ^ k) (shift_of k) (omega arith) (sym (low_of_folded (product i) k (shift_of k)) ∙ low_folded ∙ low_of_folded (product j) k (shift_of k)) in
    let low_sum = same_from_products k (sum i) (sum j) p.odd1 odd1 (sym (low_of_word (sum i * p.odd1) k short) ∙ low_product ∙ low_of_word (sum j * p.odd1) k short) in
    let low_place = same_from_sums (2 ^ k) i j p.displace (pow_pos k) (sym (low_of_word (i + p.displace) k short) ∙ low_sum ∙ low_of_word (j + p.displace) k short) in
    sym (mod-eq_of_lt below_i) ∙ low_place ∙ mod-eq_of_lt below_j
