use Rattle.std.proofs.Common.{rules, ◌≡◌}
use Rattle.morsel_stage.specs.declared.one_of.OneOf.TheVariants.{First, Second, Third}
use Rattle.morsel_join_node.proofs.KindLemmas.{first_still, second_still, third_still}
use Rattle.morsel_join_node.proofs.join_unit.JoinUnitTaskBoard.poll.Goals as goal

pub returns-in-Pending-clause-gives : goal.returns-in-Pending-clause-gives
returns-in-Pending-clause-gives g c out gives =
    let is : c.args.self.now.task ≡ First c.in-First.task = search rules in
    first_still _ _ _ c.args.self.now.task c.poll.new.self c.in-First.task is c.in-Pending.ensures.gives out gives

pub returns-in-Pending-poll-clause-gives : goal.returns-in-Pending-poll-clause-gives
returns-in-Pending-poll-clause-gives g c out gives =
    let is : c.args.self.now.task ≡ Second c.in-Second.task = search rules in
    second_still _ _ _ c.args.self.now.task c.poll-in-Second.new.self c.in-Second.task is c.in-Pending-poll.ensures.gives out gives

pub returns-in-Pending-poll-2-clause-gives : goal.returns-in-Pending-poll-2-clause-gives
returns-in-Pending-poll-2-clause-gives g c out gives =
    let is : c.args.self.now.task ≡ Third c.in-Third.task = search rules in
    third_still _ _ _ c.args.self.now.task c.poll-in-Third.new.self c.in-Third.task is c.in-Pending-poll-2.ensures.gives out gives
