use Rattle.std.proofs.Common.{◌≡◌, ◌++◌, length, map, take, All}
use Rattle.std.specs.Vec.Iter.{into_iter_items}
use Rattle.morsel_states.specs.GroupParts.{with_group_parts, AreWithinLimit}
use Rattle.morsel_states.proofs.joins.join_each.Given as goal

abbrev pub invariant-loop-other : goal.invariant-loop-other
invariant-loop-other g l = record {
  all : l.yielded ++ into_iter_items l.other-iterator ≡ l.fn.others.items;
  at : l.at ≡ length l.yielded;
  states : All (g.S.Joins.is_of l.fn.op l.fn.kind) l.states;
  len : length l.states ≡ length l.initial.states;
  done : map g.S.Joins.entry l.states ≡ with_group_parts l.fn.op (map g.S.Joins.entry l.initial.states) (take l.at l.groups) (map g.S.Joins.entry l.yielded);
  room : AreWithinLimit (take l.at l.groups) (map g.S.Joins.entry l.states);
}
