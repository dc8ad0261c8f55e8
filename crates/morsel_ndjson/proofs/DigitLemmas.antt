-- Numbers as digits, three at a time.
use Rattle.std.proofs.Common.{◌≡◌, ℕ, zero, suc, ◌+◌, ◌-◌, ◌*◌, ◌/◌, ◌%◌, ◌^◌, ◌<◌, ◌≤◌, Bool, true, false, ◌&&◌, T, eqb, List, [], ◌∷◌, ◌++◌, length, get_or, drop, length-drop, ◌∙◌, inl, inr, refl, arith, eq-zero-or-pos, eqb→eq, append_assoc, take, ap, sym, decimal}
use Rattle.std.proofs.lemmas.Fmt.{decimal_digit, decimal_step, length-decimal-le}
use Rattle.itoa.proofs.Decimal.{pair, decimal_two, decimal_pair}
use Rattle.std.proofs.lemmas.Bool.{cases_lt}
use lib.Ieee.Fits.{and_l, and_r}
use Rattle.morsel_ndjson.specs.Digits.{group}
use Rattle.morsel_ndjson.specs.declared.digits.TheConstants.{HEADS, GROUPS}
use Rattle.morsel_ndjson.proofs.PutLemmas.{cut_words}

-- whether two texts are the same
are_same : List ℕ → List ℕ → Bool
are_same [] [] = true
are_same [] (y ∷ ys) = false
are_same (x ∷ xs) [] = false
are_same (x ∷ xs) (y ∷ ys) = eqb x y && are_same xs ys

same_of : (xs ys : List ℕ) → T (are_same xs ys) → xs ≡ ys
unfolding are_same
same_of [] [] t = refl
same_of [] (y ∷ ys) t = absurd t
same_of (x ∷ xs) [] t = absurd t
same_of (x ∷ xs) (y ∷ ys) t = rw (eqb→eq x y (and_l _ (are_same xs ys) t), same_of xs ys (and_r _ (are_same xs ys) t)) refl

-- a number from its first digit on, as the table has it
abbrev head_at : ℕ → List ℕ
head_at n = take (get_or HEADS (n * 4 + 3) 0) (drop (n * 4) HEADS)

is_count : ℕ → List ℕ → Bool
is_count n text = eqb (get_or HEADS (n * 4 + 3) 0) (length text)

-- so many from one on have these digits
are_heads : (ℕ → List ℕ) → ℕ → ℕ → Bool
are_heads digits from zero = true
are_heads digits from (suc k) =
    (are_same (head_at (from + k)) (digits (from + k)) && is_count (from + k) (digits (from + k))) && are_heads digits from k

heads_below : (digits : ℕ → List ℕ) (from m n : ℕ) → T (are_heads digits from m) → from ≤ n → n < from + m
    → (head_at n ≡ digits n) × (get_or HEADS (n * 4 + 3) 0 ≡ length (digits n))
unfolding are_heads is_count
heads_below digits from zero n t low h = absurd (omega arith)
heads_below digits from (suc k) n t low h =
    let m : ℕ = from + k in
    elim (eq-zero-or-pos (m - n)) [
      | inl z ↦
          let e : n ≡ from + k = omega arith in
          let a = and_l (are_same (head_at m) (digits m) && is_count m (digits m)) (are_heads digits from k) t in
          rw e (
            same_of (head_at m) (digits m) (and_l (are_same (head_at m) (digits m)) (is_count m (digits m)) a),
            eqb→eq (get_or HEADS (m * 4 + 3) 0) (length (digits m)) (and_r (are_same (head_at m) (digits m)) (is_count m (digits m)) a),
          )
      | inr g ↦ heads_below digits from k n (and_r (are_same (head_at m) (digits m) && is_count m (digits m)) (are_heads digits from k) t) low (omega arith)
    ]

abbrev one_digit : ℕ → List ℕ
one_digit n = (48 + n) ∷ []

of_hundreds : (n : ℕ) → 100 ≤ n → n < 1000 → decimal n ≡ group n
of_hundreds n above below = rw (decimal_pair n above (omega arith), decimal_digit (n / 100) (omega arith)) refl

pub HEADS_at : (n : ℕ) → n < 1000 → (head_at n ≡ decimal n) × (get_or HEADS (n * 4 + 3) 0 ≡ length (decimal n))
unfolding are_heads is_count are_same
HEADS_at n h =
    elim (cases_lt n 10) [
      | inl one ↦ rw (decimal_digit n one) (heads_below one_digit 0 10 n tt (omega arith) (omega arith))
      | inr more ↦
          elim (cases_lt n 100) [
            | inl two ↦ rw (decimal_two n more two) (heads_below pair 10 90 n tt more (omega arith))
            | inr three ↦ rw (of_hundreds n three h) (heads_below group 100 900 n tt three (omega arith))
          ]
    ]

-- three digits, as the table has them
abbrev group_at : ℕ → List ℕ
group_at n = take 3 (drop (n * 4) GROUPS)

are_groups : ℕ → Bool
are_groups zero = true
are_groups (suc n) = are_same (group_at n) (group n) && are_groups n

groups_below : (m n : ℕ) → T (are_groups m) → n < m → group_at n ≡ group n
unfolding are_groups
groups_below zero n t h = absurd (omega arith)
groups_below (suc m) n t h =
    elim (eq-zero-or-pos (m - n)) [
      | inl z ↦
          let e : n ≡ m = omega arith in
          rw e (same_of (group_at m) (group m) (and_l (are_same (group_at m) (group m)) (are_groups m) t))
      | inr g ↦ groups_below m n (and_r (are_same (group_at m) (group m)) (are_groups m) t) (omega arith)
    ]

pub GROUPS_at : (n : ℕ) → n < 1000 → group_at n ≡ group n
unfolding are_groups are_same
GROUPS_at n h = groups_below 1000 n tt h

-- one part after another
pub two_parts : (old one now : List ℕ) (at : ℕ) (a b whole : List ℕ) → one ≡ take at old ++ a → now ≡ one ++ b → whole ≡ a ++ b → now ≡ take at old ++ whole
two_parts old one now at a b whole first second is =
    second ∙ (ap (λ (s : List ℕ). s ++ b) first ∙ (append_assoc (take at old) a b ∙ ap (λ (s : List ℕ). take at old ++ s) (sym is)))

-- the last three digits come after the others
pub of_group : (n : ℕ) → 1000 ≤ n → n < 2 ^ 64 → decimal n ≡ decimal (n / 1000) ++ group (n % 1000)
of_group n above fits =
    let a : n / 100 / 10 ≡ n / 1000 = omega arith in
    let b : n / 100 % 10 ≡ n % 1000 / 100 = omega arith in
    let c : n % 100 / 10 ≡ n % 1000 % 100 / 10 = omega arith in
    let d : n % 100 % 10 ≡ n % 1000 % 100 % 10 = omega arith in
    rw (decimal_pair n (omega arith) fits, decimal_step (n / 100) (omega arith) (omega arith), append_assoc, a, b, c, d) refl

pub of_groups : (n : ℕ) → 1000000 ≤ n → n < 2 ^ 64 → decimal n ≡ (decimal (n / 1000000) ++ group (n / 1000 % 1000)) ++ group (n % 1000)
of_groups n above fits =
    let a : n / 1000 / 1000 ≡ n / 1000000 = omega arith in
    of_group n (omega arith) fits
    ∙ ap (λ (s : List ℕ). s ++ group (n % 1000)) (of_group (n / 1000) (omega arith) (omega arith) ∙ ap (λ (m : ℕ). decimal m ++ group (n / 1000 % 1000)) a)

-- the first `len` bytes of an entry
cut_entry : (old now table : List ℕ) (at from len : ℕ) → len ≤ 4 → at ≤ length old → from + 4 ≤ length table → at + 4 ≤ length now
    → take (at + 4) now ≡ take at old ++ take 4 (drop from table) → take (at + len) now ≡ take at old ++ take len (drop from table)
cut_entry old now table at from len short was within room put =
    cut_words old now (drop from table) at 4 len short was (omega (arith, length-drop from table, within)) room put

pub head_put : (old now : List ℕ) (at n : ℕ) → n < 1000 → at ≤ length old → at + 4 ≤ length now
    → take (at + 4) now ≡ take at old ++ take 4 (drop (n * 4) HEADS) → take (at + get_or HEADS (n * 4 + 3) 0) now ≡ take at old ++ decimal n
head_put old now at n below was room put =
    let long : length HEADS ≡ 4000 = refl in
    let here = HEADS_at n below in
    let short : length (decimal n) ≤ 3 = length-decimal-le 3 n (omega arith) below (omega arith) in
    cut_entry old now HEADS at (n * 4) (get_or HEADS (n * 4 + 3) 0) (omega (arith, here.1, short)) was (omega (arith, long)) room put
    ∙ ap (λ (s : List ℕ). take at old ++ s) here.0

pub group_put : (old now : List ℕ) (at n : ℕ) → n < 1000 → at ≤ length old → at + 4 ≤ length now
    → take (at + 4) now ≡ take at old ++ take 4 (drop (n * 4) GROUPS) → take (at + 3) now ≡ take at old ++ group n
group_put old now at n below was room put =
    let long : length GROUPS ≡ 4000 = refl in
    cut_entry old now GROUPS at (n * 4) 3 (omega arith) was (omega (arith, long)) room put ∙ ap (λ (s : List ℕ). take at old ++ s) (GROUPS_at n below)

-- it has at most three digits
pub head_count : (n : ℕ) → n < 1000 → get_or HEADS (n * 4 + 3) 0 ≤ 3
head_count n below =
    let here = HEADS_at n below in
    omega (arith, here.1, length-decimal-le 3 n (omega arith) below (omega arith))
