use Rattle.morsel_expr.proofs.CompareLemmas.{values-marks}
use Rattle.morsel_expr.proofs.compare.values.Goals as goal

pub returns-clause-ok : goal.returns-clause-ok
returns-clause-ok c = rw (← values-marks c.args.column.now.values, c.marks.ensures) c.marked.ensures.ok
