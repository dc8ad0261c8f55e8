use Rattle.std.proofs.Common.{rules}
use Rattle.morsel_expr.proofs.CompareLemmas.{nulls-compared}
use Rattle.morsel_expr.proofs.compare.compare_with.Goals as goal

pub returns-in_ok-vec-in-Null-clause-ok : goal.returns-in_ok-vec-in-Null-clause-ok
returns-in_ok-vec-in-Null-clause-ok c =
    rw (c.in-Null.is, ← nulls-compared c.args.op c.args.column.now.values, ← c.len.ensures.len) (search rules)
