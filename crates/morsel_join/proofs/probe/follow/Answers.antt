use Rattle.std.proofs.Common.{rules, ◌-◌}
use Rattle.morsel_join.proofs.probe.follow.Goals as goal
use Rattle.morsel_join.proofs.ChainSteps.{follow_more, follow_done}

pub loop-at-preserved : goal.loop-at-preserved
loop-at-preserved c = rw (c.in_ok-push.ensures.items, c.in_ok-push-2.ensures.items) (follow_more c.args.next.now c.args.head c.loop-at.at (c.loop-at.at - 1) c.args.row c.args.lefts.now.items c.args.rights.now.items c.loop-at.lefts.items c.loop-at.rights.items (search rules) c.requires.rises c.loop-at.invariant)

pub returns-clause-ok : goal.returns-clause-ok
returns-clause-ok c = follow_done c.args.next.now c.args.head c.loop-at.at c.args.row c.args.lefts.now.items c.args.rights.now.items c.loop-at.lefts.items c.loop-at.rights.items (search rules) c.loop-at.invariant
