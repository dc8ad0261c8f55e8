use Rattle.morsel_expr.proofs.CompareLemmas.{nulls-marks}
use Rattle.morsel_expr.proofs.compare.nulls.Goals as goal

pub returns-clause-ok : goal.returns-clause-ok
returns-clause-ok c = rw (← nulls-marks c.args.column.now.values, c.marks.ensures) c.unmarked.ensures.ok
