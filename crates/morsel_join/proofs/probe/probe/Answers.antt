use Rattle.morsel_join.proofs.probe.probe.Goals as goal
use Rattle.morsel_join.proofs.ProbeLemmas.{rows-more}

pub loop-row-preserved : goal.loop-row-preserved
loop-row-preserved c = λ build h.
    rows-more build c.args.first.now c.args.next.now c.args.numbers.now c.args.wanted c.loop-row.row c.head_of-head.result c.args.lefts.now.items c.args.rights.now.items c.loop-row.lefts.items c.loop-row.rights.items c.probe_row.new.lefts.items c.probe_row.new.rights.items
    c.loop-row-test.true c.head_of-head.ensures h (c.loop-row.invariant build h) c.in_ok-probe_row.ensures.ok
