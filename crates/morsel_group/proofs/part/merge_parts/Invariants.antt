use Rattle.std.proofs.Common.{◌≡◌, ◌++◌, length, take, drop}
use Rattle.std.specs.Vec.Iter.{into_iter_items}
use Rattle.morsel_group.specs.Parts.{joined_parts}
use Rattle.morsel_group.proofs.part.merge_parts.Given as goal

abbrev pub invariant-loop-other : goal.invariant-loop-other
invariant-loop-other l = record {
  all : l.yielded ++ into_iter_items l.other-iterator ≡ l.fn.others.items;
  at : l.at ≡ length l.yielded;
  done : l.parts ≡ joined_parts l.count l.numbers (take l.at l.initial.parts) l.yielded ++ drop l.at l.initial.parts;
}
