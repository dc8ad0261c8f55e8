use Rattle.std.proofs.Common.{◌≡◌, ◌++◌, ◌∷◌, [], length, arith, ap, rules}
use Rattle.std.specs.Vec.Iter.{into_iter_items}
use Rattle.morsel_join_node.proofs.EndLemmas.{none_left, pair_more}
use Rattle.morsel_join_node.proofs.unit_maker.paired.Given.{Over}
use Rattle.morsel_join_node.proofs.unit_maker.paired.Goals as goal

module _ (g : Over) where
  abbrev Pair : Type 0
  Pair = g.row.R.Denot × g.row.S.Denot

pub unreachable-requires : goal.unreachable-requires
unreachable-requires g c =
    let cases = rw c.in_default.is at c.next-in-pairs.ensures.cases in
    let same = none_left (λ (pair : Pair g). pair.0) (λ (pair : Pair g). pair.1) c.pairs.pairs.items (into_iter_items c.pairs.first-iterator) c.args.firsts.items (into_iter_items c.pairs.others) c.args.seconds.items c.requires.len c.pairs.invariant.firsts c.pairs.invariant.seconds in
    omega (arith, cases.0, same, ap length c.in-Some.ensures.steps.0)

pub pairs-preserved : goal.pairs-preserved
pairs-preserved g c =
    let pushed : c.push.new.self.items ≡ c.pairs.pairs.items ++ (c.in-Some.first, c.in-Some-next.second) ∷ [] = search rules in
    record {
      firsts = pair_more (λ (pair : Pair g). pair.0) c.pairs.pairs.items c.push.new.self.items (c.in-Some.first, c.in-Some-next.second) (into_iter_items c.pairs.first-iterator) (into_iter_items c.next.new.self) c.args.firsts.items pushed c.in-Some.ensures.steps.0 c.pairs.invariant.firsts;
      seconds = pair_more (λ (pair : Pair g). pair.1) c.pairs.pairs.items c.push.new.self.items (c.in-Some.first, c.in-Some-next.second) (into_iter_items c.pairs.others) (into_iter_items c.next-in-pairs.new.self) c.args.seconds.items pushed c.in-Some-next.ensures.items c.pairs.invariant.seconds;
    }
