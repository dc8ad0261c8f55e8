-- What stays of the node of a join.
use Rattle.morsel_join_phases.specs.JoinPhases.{Had, StaysJoin}
use Rattle.morsel_join_node.specs.declared.node.EquiJoinNode.{EquiJoinNode}

-- what stays of the node while its units work: for how many pipelines it was made ready, once it was; and what stays of its join
abbrev pub StaysNode : {K J : Type 0} {a b : _} → EquiJoinNode K J a b → EquiJoinNode K J a b → Type 0
StaysNode begun node = Had node.pipelines begun.pipelines × StaysJoin begun.phase node.phase
