use Rattle.std.proofs.Common.{ap, arith, drop, length, length-append}
use Rattle.morsel_group.specs.Fresh.{fresh_from}
use Rattle.morsel_group.proofs.FreshLemmas.{few_fresh}
use Rattle.morsel_group.proofs.fresh.fresh_rows.Goals as goal

pub returns-clause-len : goal.returns-clause-len
returns-clause-len c =
    let n = length-append c.loop-row.rows.items (fresh_from c.loop-row.next c.loop-row.row (drop c.loop-row.row c.args.numbers.now)) in
    let m = ap length c.loop-row.invariant.rows in
    let k = few_fresh c.args.known 0 c.args.numbers.now in
    omega (arith, n, m, k)
