use Rattle.std.proofs.Common.{◌≡◌, ◌<◌, ◌≤◌, ℕ, List, [], length, slice_get, get_or, Some}
use Rattle.morsel_keys.specs.Slots.{IsFound}
use Rattle.morsel_keys.specs.TextHomes.{text_home}
use Rattle.morsel_keys.proofs.texts.look_up_each.Given as goal

abbrev pub invariant-loop-i : goal.invariant-loop-i
invariant-loop-i l = record {
  done : (k : ℕ) (v : List ℕ) → k < l.i → slice_get l.column k ≡ Some v → IsFound l.texts v (get_or l.out k 0);
  rest : (k : ℕ) → l.i ≤ k → k < length l.column → get_or l.out k 0 ≡ get_or l.slots (text_home l.seed l.mask (get_or l.column k [])) 0;
}
