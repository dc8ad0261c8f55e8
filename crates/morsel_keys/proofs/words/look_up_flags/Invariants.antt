use Rattle.std.proofs.Common.{◌≡◌, ◌<◌, ℕ, slice_get, get_or, map, Some}
use Rattle.morsel_meaning.specs.declared.value.Value.{Value}
use Rattle.morsel_meaning.specs.declared.value.Value.TheVariants as values
use Rattle.morsel_keys.specs.Slots.{IsFound}
use Rattle.morsel_keys.specs.ColumnKeys.{flag_held}
use Rattle.morsel_keys.proofs.words.look_up_flags.Given as goal

abbrev pub invariant-loop-i : goal.invariant-loop-i
invariant-loop-i l = (k : ℕ) (v : Value) → k < l.i → slice_get (map values.Bool l.flags) k ≡ Some v → IsFound (map flag_held l.words) v (get_or l.out k 0)
