use Rattle.morsel_expr.proofs.CompareLemmas.{flags-masked}
use Rattle.morsel_expr.proofs.compare.asserted_flags.Goals as goal

pub returns-clause-ok : goal.returns-clause-ok
returns-clause-ok c = rw (c.in-Some.ensures.values, ← flags-masked c.in-Some.valid.now c.in-Some.flags.now) c.certain_flags.ensures.ok
