use Rattle.std.specs.Prelude.{IsSome}
use Rattle.morsel_nodes_uses.proofs.tests.behaves.Given as goal

-- the node stays one that was made ready
abbrev pub invariant-times : goal.invariant-times
invariant-times g l = record { ready : IsSome l.node.pipelines }
