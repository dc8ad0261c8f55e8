-- What stays of the node of a join.
use Rattle.std.proofs.Common.{inl, refl}
use Rattle.morsel_join_node.specs.declared.node.EquiJoinNode.{EquiJoinNode}
use Rattle.morsel_join_node.specs.JoinNodes.{StaysNode}

-- of itself all stays
pub stays_same : {K J : Type 0} {a b : _} (node : EquiJoinNode K J a b) → StaysNode node node
stays_same node = (
  λ n is. is,
  record {
    at = inl refl;
    rules = record { rules = λ x is. is; asked = λ x is. is; job = λ x is. is; asked_job = λ x is. is };
    build = λ x is. is;
  },
)
