use Rattle.std.proofs.Common.{inr, refl, arith}
use Rattle.morsel_drain.proofs.DrainLemmas.{rows_times}
use Rattle.morsel_drain.proofs.draining.see_rows.Goals as goal

pub returns-clause-rows : goal.returns-clause-rows
returns-clause-rows c = inr refl

pub returns-clause-spare : goal.returns-clause-spare
returns-clause-spare c =
    let most = c.sweeps_of-more.ensures.at_most in
    let sum = c.saturating_add.ensures in
    let above = c.if-rows-finding.false in
    let times = rows_times c.args.per_row c.args.finding.rows c.args.rows (omega (arith, above)) in
    omega (arith, most, sum, above, times)
