use Rattle.std.proofs.Common.{◌≡◌, ◌<◌, ◌≤◌, ◌-◌, ℕ, length, slice_get, get_or, map, Some}
use Rattle.morsel_meaning.specs.declared.value.Value.{Value}
use Rattle.morsel_meaning.specs.declared.value.Value.TheVariants as values
use Rattle.morsel_keys.specs.Slots.{IsFound}
use Rattle.morsel_keys.specs.ColumnKeys.{int_held}
use Rattle.morsel_keys.proofs.words.look_up_ints.Given as goal

abbrev pub invariant-loop-from : goal.invariant-loop-from
invariant-loop-from l = record {
  within : l.from ≤ length l.numbers;
  len : length l.out ≡ length l.numbers;
  done : (k : ℕ) (v : Value) → k < l.from → slice_get (map values.Int l.numbers) k ≡ Some v → IsFound (map int_held l.words) v (get_or l.out k 0);
}

abbrev pub decreases-loop-from : goal.decreases-loop-from
decreases-loop-from l = length l.numbers - l.from
