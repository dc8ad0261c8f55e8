use Rattle.std.proofs.Common.{◌≡◌, ◌<◌, ◌≤◌, ℕ, length, slice_get, get_or, map, pos, Some}
use Rattle.morsel_meaning.specs.declared.value.Value.{Value}
use Rattle.morsel_meaning.specs.declared.value.Value.TheVariants as values
use Rattle.morsel_keys.specs.Slots.{IsFound}
use Rattle.morsel_keys.specs.ColumnKeys.{int_held}
use Rattle.morsel_keys.specs.Words.{int_begin}
use Rattle.morsel_keys.proofs.words.look_up_block.Given as goal

abbrev pub invariant-loop-i : goal.invariant-loop-i
invariant-loop-i l = record {
  len : length l.out ≡ length l.numbers;
  done : (k : ℕ) (v : Value) → k < l.i → slice_get (map values.Int l.numbers) k ≡ Some v → IsFound (map int_held l.words) v (get_or l.out k 0);
  rest : (k : ℕ) → l.i ≤ k → k < l.to → get_or l.out k 0 ≡ int_begin l.seed l.mask l.slots (get_or l.numbers k (pos 0));
}
