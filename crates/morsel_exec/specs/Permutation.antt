-- The numbers of a random permutation, in their order.
use Rattle.std.specs.Prelude.{◌≡◌, ℕ, ◌+◌, ◌-◌, ◌*◌, ◌/◌, ◌%◌, ◌^◌, ◌≤◌, max, ◌==◌, nat_lt, nat_le, if◌then◌else◌, List, map, filter, count_by, bit_or, bit_xor}
use Rattle.std.specs.List.{range_with_len}
use Rattle.rand_core.specs.Stream.{Stream, next_u32}
use Rattle.morsel_exec.specs.declared.permutation.Plan.{Plan}

-- 2 ^ width is the least power of two that is at least len
pub record IsLeastWidth (len width : ℕ) : Type 0 where
  pub enough : len ≤ 2 ^ width
  pub least : (other : ℕ) → len ≤ 2 ^ other → width ≤ other

-- by how many bits a place is shifted
abbrev pub shift_of : ℕ → ℕ
shift_of width = max (width / 2) 1

-- the number below 2 ^ width to which a place goes; sums and products have 32 bits
abbrev pub mixed : Plan → ℕ → ℕ
mixed p at =
    let sum = (at + p.displace) % 2 ^ 32 in
    let product = sum * p.odd1 % 2 ^ 32 in
    let folded = bit_xor product (product % 2 ^ p.width / 2 ^ shift_of p.width) in
    folded * p.odd2 % 2 ^ 32 % 2 ^ p.width

-- a number below the length, moved on by what was drawn
abbrev pub moved_on : Plan → ℕ → ℕ
moved_on p number = let sum = number + p.first in if nat_le p.len sum then sum - p.len else sum

-- the numbers that the places from `at` on give, in their order: those below the length, moved on
unfoldable pub numbers_from : Plan → ℕ → List ℕ
numbers_from p at = map (moved_on p) (filter (λ number. nat_lt number p.len) (map (mixed p) (range_with_len at (2 ^ p.width - at))))

-- what a permutation's plan and next place keep: the places are of 31 bits, and moving on stays within 32
pub record IsPlanned (p : Plan) (at : ℕ) : Type 0 where
  pub short : p.len ≤ 2 ^ 31
  pub narrow : p.width ≤ 31
  pub moves_within : p.first ≤ p.len
  pub within : at ≤ 2 ^ p.width

-- the plan of four words that a generator gave, in this order
abbrev pub plan_of : ℕ → ℕ → ℕ → ℕ → ℕ → ℕ → Plan
plan_of len width word1 word2 word3 word4 =
    record { len = len; width = width; displace = word1; odd1 = bit_or word2 1; odd2 = bit_or word3 1; first = word4 * len / 2 ^ 32 }

-- the plan of what a generator will give
abbrev pub drawn_plan : ℕ → ℕ → Stream → Plan
drawn_plan len width s =
    let second = (next_u32 s).1 in
    let third = (next_u32 second).1 in
    let fourth = (next_u32 third).1 in
    plan_of len width (next_u32 s).0 (next_u32 second).0 (next_u32 third).0 (next_u32 fourth).0

-- what the generator will give after four words
abbrev pub four_drawn : Stream → Stream
four_drawn s = (next_u32 (next_u32 (next_u32 (next_u32 s).1).1).1).1

-- the numbers are those of the least width and of what the generator gave
abbrev pub IsDrawn : ℕ → Stream → List ℕ → Type 0
IsDrawn len s numbers = (width : ℕ) × IsLeastWidth len width × (numbers ≡ numbers_from (drawn_plan len width s) 0)

-- each number below the length is there once, and no other
abbrev pub HasEachOnce : ℕ → List ℕ → Type 0
HasEachOnce len numbers = (k : ℕ) → count_by (λ number. number == k) numbers ≡ (if nat_lt k len then 1 else 0)
