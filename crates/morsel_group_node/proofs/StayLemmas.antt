-- What the node of a group-by still has, from what stays of it.
use Rattle.std.proofs.Common.{◌≡◌, List, Option, subst}
use Rattle.morsel_meaning.specs.Values.{Table}
use Rattle.morsel_load.specs.Loads.{LoadSeen}
use Rattle.morsel_group_phases.specs.declared.places.GroupAt.{GroupAt}
use Rattle.morsel_group_phases.specs.declared.places.GroupAt.TheVariants as at
use Rattle.morsel_group_phases.specs.GroupTables.{MakesGroups}
use Rattle.morsel_group_phases.proofs.StayLemmas as group
use Rattle.morsel_group_node.specs.declared.node.GroupByNode.{GroupByNode}
use Rattle.morsel_group_node.specs.GroupNodes.{StaysGroupNode}

-- nothing changes
pub stays_same : {K J : Type 0} {a b : _} (node : GroupByNode K J a b) → StaysGroupNode node node
stays_same node = (λ x is. is, group.stays_same node.phase)

-- one change after the other
pub stays_more : {K J : Type 0} {a b : _} (before mid now : GroupByNode K J a b) → StaysGroupNode before mid → StaysGroupNode mid now → StaysGroupNode before now
stays_more before mid now first then = (λ x is. then.0 x (first.0 x is), group.stays_more before.phase mid.phase now.phase first.1 then.1)

-- a group-by that is done has no unit
pub makes_done : (P : Type 0) (now : GroupAt) (frame : Option Table) (taken sent : List (List LoadSeen)) → now ≡ at.Done → MakesGroups now frame taken sent → P
makes_done P now frame taken sent done makes = absurd (subst (λ (o : GroupAt). MakesGroups o frame taken sent) done makes)

-- where it is where it was, with the rows that it had, its units make what they made
pub makes_same : (place now : GroupAt) (frame other : Option Table) (taken sent : List (List LoadSeen)) → now ≡ place → other ≡ frame → MakesGroups now other taken sent → MakesGroups place frame taken sent
makes_same place now frame other taken sent there same makes =
    subst (λ (f : Option Table). MakesGroups place f taken sent) same (subst (λ (o : GroupAt). MakesGroups o other taken sent) there makes)
