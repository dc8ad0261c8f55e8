use Rattle.std.proofs.Common.{refl, get_or}
use Rattle.morsel_join.proofs.probe.put_lone.Goals as goal
use Rattle.morsel_join.proofs.ProbeLemmas.{lone-more}

pub loop-row-preserved : goal.loop-row-preserved
loop-row-preserved c =
    lone-more c.args.seen.now c.args.numbers.now c.loop-row.row (get_or c.args.numbers.now c.loop-row.row 0) c.args.lefts.now.items c.args.rights.now.items c.loop-row.lefts.items c.loop-row.rights.items c.put_lone_row.new.lefts.items c.put_lone_row.new.rights.items
    c.loop-row-test.true refl c.loop-row.invariant c.in_ok-put_lone_row.ensures.ok
