use Rattle.std.proofs.Common.{◌≡◌, ◌<◌, ◌≤◌, ℕ, length, get_or, pos}
use Rattle.morsel_keys.specs.Words.{int_begin}
use Rattle.morsel_keys.proofs.words.begin_ints.Given as goal

abbrev pub invariant-loop-i : goal.invariant-loop-i
invariant-loop-i l = record {
  len : length l.out ≡ length l.fn.out;
  before : (k : ℕ) → k < l.from → get_or l.out k 0 ≡ get_or l.fn.out k 0;
  begins : (k : ℕ) → l.from ≤ k → k < l.i → get_or l.out k 0 ≡ int_begin l.seed l.mask l.slots (get_or l.numbers k (pos 0));
}
