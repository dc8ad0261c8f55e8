-- What 16 bytes at once tell.
use Rattle.std.proofs.Common.{◌≡◌, ◌⊎◌, inl, inr, refl, ℕ, ◌+◌, ◌<◌, ◌≤◌, sym, arith, Bool, true, false, not, ◌||◌, ◌==◌, List, length, get_or, take, drop}
use Rattle.std.proofs.lemmas.Simd.{run_in_chunk_le, run_in_chunk_fails, run_in_chunk_stops}
use Rattle.std.proofs.lemmas.Bool.{cases_lt}
use Rattle.std.specs.List.{prefix_len}
use lib.Lanes.{chunk}
use Rattle.morsel_grammar.specs.Dialect.{Dialect}
use Rattle.morsel_grammar.specs.Split.{stops, plain_at}
use Rattle.morsel_text.specs.RawFields.{PassedTo, IsRun}
use Rattle.morsel_text.proofs.SplitLemmas.{plain_stop}

-- how many of 16 bytes from a place come before the first that is this one
abbrev pub Counts : ℕ → List ℕ → ℕ → ℕ → Type 0
Counts byte text at r = r ≡ prefix_len (λ x. not (x == byte)) (chunk at 16 text)

neither : (x y : Bool) → x ≡ false → y ≡ false → (x || y) ≡ false
neither x y is_x is_y = rw (is_x, is_y)

first_one : (x y : Bool) → x ≡ true → (x || y) ≡ true
first_one x y is = rw is

-- the nearer of two bytes ends the run
pub first_nearer : (a b : ℕ) (text : List ℕ) (at r s : ℕ) → at + 16 ≤ length text → Counts a text at r → Counts b text at s → r < s → IsRun a b text at r
first_nearer a b text at r s room is_r is_s nearer = record {
  within = run_in_chunk_le (λ x. x == a) text at 16 r 0 room is_r;
  passed = λ k low high. neither (get_or text k 0 == a) (get_or text k 0 == b)
      (run_in_chunk_fails (λ x. x == a) text at 16 r 0 room is_r k low high)
      (run_in_chunk_fails (λ x. x == b) text at 16 s 0 room is_s k low (omega arith));
  stopped = λ less. first_one (get_or text (at + r) 0 == a) (get_or text (at + r) 0 == b) (run_in_chunk_stops (λ x. x == a) text at 16 r 0 room is_r less);
}

either_one : (x y : Bool) → y ≡ true → (x || y) ≡ true
either_one true y is = refl
either_one false y is = is

pub second_nearer : (a b : ℕ) (text : List ℕ) (at r s : ℕ) → at + 16 ≤ length text → Counts a text at r → Counts b text at s → s ≤ r → IsRun a b text at s
second_nearer a b text at r s room is_r is_s nearer = record {
  within = run_in_chunk_le (λ x. x == b) text at 16 s 0 room is_s;
  passed = λ k low high. neither (get_or text k 0 == a) (get_or text k 0 == b)
      (run_in_chunk_fails (λ x. x == a) text at 16 r 0 room is_r k low (omega arith))
      (run_in_chunk_fails (λ x. x == b) text at 16 s 0 room is_s k low high);
  stopped = λ less. either_one (get_or text (at + s) 0 == a) (get_or text (at + s) 0 == b) (run_in_chunk_stops (λ x. x == b) text at 16 s 0 room is_s less);
}

-- the run from a place goes on from what was passed before
pub passed_more : (o : Dialect) (text : List ℕ) (at len a b : ℕ) → a ≡ o.separator → b ≡ o.eol → PassedTo o text at → IsRun a b text at len → PassedTo o text (at + len)
passed_more o text at len a b is_a is_b passed run = λ k below. by k below (cases_lt k at)
  where
    by : (k : ℕ) → k < at + len → (k < at) ⊎ (at ≤ k) → stops o (get_or text k 0) ≡ false
    by k below (inl before) = passed k before
    by k below (inr behind) = rw (sym is_a, sym is_b) (run.passed k behind below)

pub run_ends : (o : Dialect) (text : List ℕ) (at len a b : ℕ) → a ≡ o.separator → b ≡ o.eol → PassedTo o text at → IsRun a b text at len → len < 16 → at + len < length text
    → plain_at o text ≡ (take (at + len) text, drop (at + len) text)
run_ends o text at len a b is_a is_b passed run less within =
    plain_stop o text (at + len) within (passed_more o text at len a b is_a is_b passed run) (rw (sym is_a, sym is_b) (run.stopped less))
