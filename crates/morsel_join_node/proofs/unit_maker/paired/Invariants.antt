use Rattle.std.proofs.Common.{◌≡◌, ◌++◌, map}
use Rattle.std.specs.Vec.Iter.{into_iter_items}
use Rattle.morsel_join_node.proofs.unit_maker.paired.Given as goal

abbrev pub invariant-pairs : goal.invariant-pairs
invariant-pairs g l = record {
  firsts : map (λ pair. pair.0) l.pairs.items ++ into_iter_items l.first-iterator ≡ l.fn.firsts.items;
  seconds : map (λ pair. pair.1) l.pairs.items ++ into_iter_items l.others ≡ l.fn.seconds.items;
}
