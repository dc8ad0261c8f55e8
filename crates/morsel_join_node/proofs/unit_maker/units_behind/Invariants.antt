use Rattle.std.proofs.Common.{◌≡◌, ◌++◌}
use Rattle.std.specs.Vec.Iter.{into_iter_items}
use Rattle.morsel_ports.specs.Joining.{MayJoin}
use Rattle.morsel_join_node.proofs.unit_maker.units_behind.Given as goal

abbrev pub invariant-each : goal.invariant-each
invariant-each g l = record {
  every : l.yielded ++ into_iter_items l.ends-iterator ≡ l.fn.all.items;
  made : MayJoin (g.W.UnitMaker.made l.maker) l.yielded l.units.items;
}
