-- What the node of a join still has, from what stays of it.
use Rattle.std.proofs.Common.{◌≡◌, ◌⊎◌, ⊎_elim, List, sym, subst}
use Rattle.morsel_load.specs.Loads.{LoadSeen}
use Rattle.morsel_join_phases.specs.declared.places.JoinAt.{JoinAt}
use Rattle.morsel_join_phases.specs.declared.places.JoinAt.TheVariants as at
use Rattle.morsel_join_phases.specs.JoinTables.{MakesAt}
use Rattle.morsel_join_phases.proofs.StayLemmas as join
use Rattle.morsel_join_node.specs.declared.node.EquiJoinNode.{EquiJoinNode}
use Rattle.morsel_join_node.specs.JoinNodes.{StaysNode}

-- nothing changes
pub stays_same : {K J : Type 0} {a b : _} (node : EquiJoinNode K J a b) → StaysNode node node
stays_same node = (λ x is. is, join.stays_same node.phase)

-- one change after the other
pub stays_more : {K J : Type 0} {a b : _} (before mid now : EquiJoinNode K J a b) → StaysNode before mid → StaysNode mid now → StaysNode before now
stays_more before mid now first then = (λ x is. then.0 x (first.0 x is), join.stays_more before.phase mid.phase now.phase first.1 then.1)

-- a unit of a join that is done makes what one made that takes nothing
pub makes_done : (place now : JoinAt) (taken sent : List (List LoadSeen)) → place ≡ at.Emit → (now ≡ place) ⊎ (now ≡ at.Done) → MakesAt now taken sent → MakesAt place taken sent
makes_done place now taken sent emit is makes =
    ⊎_elim (λ same. subst (λ (o : JoinAt). MakesAt o taken sent) same makes)
    (λ done. let at_end : MakesAt at.Done taken sent = subst (λ (o : JoinAt). MakesAt o taken sent) done makes in subst (λ (o : JoinAt). MakesAt o taken sent) (sym emit) at_end.0) is
