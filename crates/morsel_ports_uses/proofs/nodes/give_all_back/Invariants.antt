use Rattle.std.proofs.Common.{◌≡◌, ◌++◌, All, length}
use Rattle.std.specs.Vec.Iter.{into_iter_items}
use Rattle.morsel_meaning.specs.declared.fault.Fault.{Fault}
use Rattle.morsel_ports.specs.Nodes.{EndedBy}
use Rattle.morsel_ports_uses.proofs.nodes.give_all_back.Given as goal

abbrev pub invariant-outs : goal.invariant-outs
invariant-outs g l = record {
  each : l.yielded ++ into_iter_items l.out-iterator ≡ l.fn.outs.items;
  len : length l.all.items ≡ length l.yielded;
  units : (g.N.ComputeNode.seen l.node).units ≡ length (into_iter_items l.out-iterator);
  outs : All (λ out. (unit : _) × g.N.ComputeNode.is_unit l.node unit × g.N.Unit.Task.gives unit out) (into_iter_items l.out-iterator);
  no_fault : All (λ out. (fault : Fault) → g.N.ComputeNode.end_of out ≡ EndedBy fault → ⊥) l.yielded;
}
