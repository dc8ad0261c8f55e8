use Rattle.std.proofs.Common.{◌≡◌, ◌≤◌, ℕ, take, slice_get, get_or, Some}
use Rattle.morsel_meaning.specs.declared.value.Value.{Value}
use Rattle.morsel_keys.specs.Slots.{IsFound, NumbersAll}
use Rattle.morsel_keys.proofs.column_keys.ColumnKeys.number_absent.Given as goal

abbrev pub invariant-loop-i : goal.invariant-loop-i
invariant-loop-i l = record {
  kind : l.self.kind ≡ l.initial.self.kind;
  done : NumbersAll l.initial.self.values (take l.i l.column.values) (take l.i l.out) l.self.values;
  rest : (k : ℕ) (v : Value) → l.i ≤ k → slice_get l.column.values k ≡ Some v → IsFound l.initial.self.values v (get_or l.out k 0);
}
