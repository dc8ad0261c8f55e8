use Rattle.std.proofs.Common.{rules, ◌<◌}
use Rattle.morsel_join.proofs.probe.probe_row.Goals as goal
use Rattle.morsel_join.proofs.ProbeLemmas.{puts-chain}

pub returns-then-head-ne0-clause-ok : goal.returns-then-head-ne0-clause-ok
returns-then-head-ne0-clause-ok c =
    let some : 0 < c.args.head = search rules in
    puts-chain c.args.next.now c.args.head c.args.row c.args.wanted c.args.lefts.now.items c.args.rights.now.items c.follow.new.lefts.items c.follow.new.rights.items some c.in_ok-follow.ensures.ok
