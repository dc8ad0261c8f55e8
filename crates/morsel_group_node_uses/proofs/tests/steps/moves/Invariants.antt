use Rattle.std.specs.Prelude.{◌≡◌, IsSome, length}
use Rattle.morsel_group_node_uses.proofs.tests.steps.moves.Given as goal

-- the node stays one that was made ready, with one receiving port and one sending port
abbrev pub invariant-steps : goal.invariant-steps
invariant-steps g l = record {
  ready : IsSome (g.N.ComputeNode.seen l.node).pipelines;
  recv : length (g.N.ComputeNode.seen l.node).recv_kinds ≡ 1;
  send : length (g.N.ComputeNode.seen l.node).send_kinds ≡ 1;
}
