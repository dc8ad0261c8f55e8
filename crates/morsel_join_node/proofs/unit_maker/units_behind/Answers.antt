use Rattle.std.proofs.Common.{◌++◌, ◌∷◌, [], subst, sym}
use Rattle.std.specs.Vec.Iter.{into_iter_items}
use Rattle.morsel_ports.specs.Joining.{MayJoin}
use Rattle.morsel_join_node.proofs.EndLemmas.{all_first, one_more, part_more}
use Rattle.morsel_join_node.proofs.unit_maker.units_behind.Goals as goal

pub unit-requires : goal.unit-requires
unit-requires g c = record { fits = all_first (g.W.UnitMaker.fits c.args.maker.now) c.each.yielded (into_iter_items c.each.ends-iterator) (into_iter_items c.next.new.self) c.args.all.items c.in-Some.ends c.each.invariant.every c.in-Some.ensures.steps.0 c.requires.fits }

pub each-preserved : goal.each-preserved
each-preserved g c = record {
  every = part_more c.each.yielded (into_iter_items c.each.ends-iterator) (into_iter_items c.next.new.self) c.args.all.items c.in-Some.ends c.each.invariant.every c.in-Some.ensures.steps.0;
  made = subst (MayJoin (g.W.UnitMaker.made c.args.maker.now) (c.each.yielded ++ c.in-Some.ends ∷ [])) (sym c.in_ok-push.ensures.items) (one_more (g.W.UnitMaker.made c.args.maker.now) c.each.yielded c.each.units.items c.in-Some.ends c.in_ok-unit.field-0 c.each.invariant.made c.in_ok-unit.ensures.made);
}
