use Rattle.std.proofs.Common.{rules, ◌≡◌}
use Rattle.morsel_pair.specs.declared.two_of.TwoOf.TheVariants.{First, Second}
use Rattle.morsel_group_node.proofs.KindLemmas.{first_still, second_still}
use Rattle.morsel_group_node.proofs.group_unit.GroupUnitTaskBoard.poll.Goals as goal

pub returns-in-Pending-clause-gives : goal.returns-in-Pending-clause-gives
returns-in-Pending-clause-gives g c out gives =
    let is : c.args.self.now.task ≡ First c.in-First.task = search rules in
    first_still _ _ c.args.self.now.task c.poll.new.self c.in-First.task is c.in-Pending.ensures.gives out gives

pub returns-in-Pending-poll-clause-gives : goal.returns-in-Pending-poll-clause-gives
returns-in-Pending-poll-clause-gives g c out gives =
    let is : c.args.self.now.task ≡ Second c.in-Second.task = search rules in
    second_still _ _ c.args.self.now.task c.poll-in-Second.new.self c.in-Second.task is c.in-Pending-poll.ensures.gives out gives
