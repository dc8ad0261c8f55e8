-- Masks of 64 bytes.
use Rattle.std.proofs.Common.{◌≡◌, refl, ℕ, zero, suc, ◌+◌, ◌-◌, ◌*◌, ◌/◌, ◌%◌, ◌^◌, ◌<◌, ◌≤◌, ◌∙◌, ap, ap₂, arith, Bool, true, false, cond, ◌||◌, ◌==◌, List, [], ◌∷◌, length, take, map, replicate, bit_or, eqb, take-take, bit_and, pow_mono, lt_of_lt_of_le}
use Rattle.std.proofs.lemmas.Nat.{mod-pow-add, and_mask}
use Rattle.std.proofs.lemmas.List.{length-map}
use Rattle.std.proofs.lemmas.Simd.{zip2_splat, zip2_of_maps, mask_l-mod, mask_l-lt}
use Rattle.std.specs.Simd.Lanes.{mask_l, zip2, top}

-- how a comparison of lanes tells: all bits, or none
abbrev all_bits : Bool → ℕ
all_bits b = cond b 255 0

any_of : (a b : Bool) → top 7 (bit_or (all_bits a) (all_bits b)) ≡ (a || b)
any_of true true = refl
any_of true false = refl
any_of false true = refl
any_of false false = refl

each_compared : (a b : ℕ) (lane : List ℕ) → map (top 7) (map (λ (x : ℕ). bit_or (all_bits (eqb x a)) (all_bits (eqb x b))) lane) ≡ map (λ (x : ℕ). x == a || x == b) lane
each_compared a b [] = refl
each_compared a b (x ∷ lane) = ap₂ (λ (y : Bool) (ys : List Bool). y ∷ ys) (any_of (eqb x a) (eqb x b)) (each_compared a b lane)

-- two comparisons of a lane, as the code makes them
pub either_of_lane : (a b : ℕ) (lane : List ℕ) → length lane ≡ 64
    → mask_l (map (top 7) (zip2 bit_or (zip2 (λ x y. all_bits (eqb x y)) lane (replicate 64 a)) (zip2 (λ x y. all_bits (eqb x y)) lane (replicate 64 b)))) % 2 ^ 64
    ≡ mask_l (map (λ (x : ℕ). x == a || x == b) lane)
either_of_lane a b lane long =
    let first = zip2_splat (λ (x y : ℕ). all_bits (eqb x y)) lane 64 a long in
    let second = zip2_splat (λ (x y : ℕ). all_bits (eqb x y)) lane 64 b long in
    ap (λ (l : List ℕ). mask_l (map (top 7) l) % 2 ^ 64) (zip2_of_maps bit_or _ _ lane first second)
    ∙ (ap (λ (l : List Bool). mask_l l % 2 ^ 64) (each_compared a b lane)
    ∙ mask_l-mod (map (λ (x : ℕ). x == a || x == b) lane) 64 (omega (arith, length-map lane (λ (x : ℕ). x == a || x == b), long)))

pub mask_half : (b : Bool) (m : ℕ) → (cond b 1 0 + 2 * m) / 2 ≡ m
mask_half true m = omega arith
mask_half false m = omega arith

pub mask_low : (b : Bool) (m : ℕ) → (cond b 1 0 + 2 * m) % 2 ≡ cond b 1 0
mask_low true m = omega arith
mask_low false m = omega arith

-- a mask of at most 64 marks is a number of 64 bits
pub short_mask : (bits : List Bool) → length bits ≤ 64 → mask_l bits < 2 ^ 64
short_mask bits most = lt_of_lt_of_le (mask_l-lt bits) (pow_mono most)

-- no bit of the number is set
pub no_bit : (t : Bool) (m : ℕ) → cond t 1 0 + 2 * m ≡ 0 → (t ≡ false) × (m ≡ 0)
no_bit true m none = absurd (omega arith)
no_bit false m none = (refl, omega arith)

-- a mask of fewer bytes
pub mask_cut : (test : ℕ → Bool) (n : ℕ) (xs : List ℕ) → mask_l (map test xs) % 2 ^ n ≡ mask_l (map test (take n xs))
mask_cut test zero xs = omega arith
mask_cut test (suc n) [] = mask_l-mod [] (suc n) (omega arith)
mask_cut test (suc n) (x ∷ xs) =
    let m = cond (test x) 1 0 + 2 * mask_l (map test xs) in
    let more : suc n ≡ n + 1 = omega arith in
    ap (λ (k : ℕ). m % 2 ^ k) more
    ∙ mod-pow-add m n 1
    ∙ ap₂ (λ (h l : ℕ). h % 2 ^ n * 2 + l) (mask_half (test x) (mask_l (map test xs))) (mask_low (test x) (mask_l (map test xs)))
    ∙ ap (λ (h : ℕ). h * 2 + cond (test x) 1 0) (mask_cut test n xs)
    ∙ omega arith

-- a mask under the lowest bits
pub mask_under : (test : ℕ → Bool) (n m low : ℕ) (xs : List ℕ) → n ≤ 64 → m ≡ mask_l (map test (take 64 xs)) → low ≡ 2 ^ n - 1 → bit_and m low ≡ mask_l (map test (take n xs))
mask_under test n m low xs most is lowest =
    ap₂ bit_and is lowest ∙ and_mask (mask_l (map test (take 64 xs))) n ∙ mask_cut test n (take 64 xs) ∙ ap (λ (ys : List ℕ). mask_l (map test ys)) (take-take n 64 xs most)
