-- What stays of the node of a group-by.
use Rattle.morsel_join_phases.specs.JoinPhases.{Had}
use Rattle.morsel_group_phases.specs.GroupPhases.{StaysGroup}
use Rattle.morsel_group_node.specs.declared.node.GroupByNode.{GroupByNode}

-- what stays of the node while its units work: for how many pipelines it was made ready, once it was; and what stays of its group-by
abbrev pub StaysGroupNode : {K J : Type 0} {a b : _} → GroupByNode K J a b → GroupByNode K J a b → Type 0
StaysGroupNode begun node = Had node.pipelines begun.pipelines × StaysGroup begun.phase node.phase
