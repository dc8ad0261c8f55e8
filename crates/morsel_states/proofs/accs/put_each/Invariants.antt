use Rattle.std.proofs.Common.{◌≡◌, length, map, take}
use Rattle.morsel_keys.specs.Reductions.{input_place}
use Rattle.morsel_states.specs.GroupRows.{group_rows, with_group_rows}
use Rattle.morsel_states.specs.States.{AreAccs}
use Rattle.morsel_states.proofs.accs.put_each.Given as goal

abbrev pub invariant-loop-i : goal.invariant-loop-i
invariant-loop-i l = record {
  len : length l.accs ≡ length l.initial.accs;
  accs : AreAccs l.fn.op l.column.kind l.accs;
  done : map (λ acc. acc.entry) l.accs ≡ with_group_rows l.fn.op (map (λ acc. acc.entry) l.initial.accs) (take l.i (group_rows (input_place l.place.0 l.place.1) l.groups l.column.values));
}
