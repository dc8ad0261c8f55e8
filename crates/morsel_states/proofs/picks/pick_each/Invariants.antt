use Rattle.std.proofs.Common.{◌≡◌, length, map, take}
use Rattle.morsel_meaning.specs.declared.value.Value.TheVariants as values
use Rattle.morsel_frame.specs.Columns.{masked}
use Rattle.morsel_keys.specs.Reductions.{input_place}
use Rattle.morsel_states.specs.GroupRows.{group_rows, with_group_rows}
use Rattle.morsel_states.proofs.picks.pick_each.Given as goal

abbrev pub invariant-loop-i : goal.invariant-loop-i
invariant-loop-i l = record {
  len : length l.picks ≡ length l.initial.picks;
  done : l.picks ≡ with_group_rows l.fn.op l.initial.picks (take l.i (group_rows (input_place l.place.0 l.place.1) l.groups (masked l.valid (map values.Int l.numbers))));
}
