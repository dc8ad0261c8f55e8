use Rattle.std.proofs.Common.{subst}
use Rattle.morsel_group_units.specs.GroupKeepers.{GroupKeeperSeen}
use Rattle.morsel_group_units.specs.LocalTakings.{HoldsLoads}
use Rattle.morsel_group_units.proofs.keeper.GroupKeeper.into_parts.Goals as goal

pub returns-clause-holds : goal.returns-clause-holds
returns-clause-holds c =
    let inside = c.self.inside in
    (inside.rows, subst (λ (seen : GroupKeeperSeen). HoldsLoads seen.rules inside.groups inside.rows inside.fault seen.taken) c.self.view_is c.self.invariant)
