use Rattle.morsel_expr.proofs.KeptLemmas.{rows_at-true, true_rows-within}
use Rattle.morsel_expr.proofs.filters.filter.Goals as goal

pub gather-requires : goal.gather-requires
gather-requires c = rw (c.deref.ensures.value, c.in_ok-rows.ensures.ok) (true_rows-within _ c.args.mask.now c.requires)

pub returns-clause-ok : goal.returns-clause-ok
returns-clause-ok c =
    rw (← rows_at-true c.args.frame.rows c.args.mask.now c.requires, ← c.in_ok-rows.ensures.ok, ← c.deref.ensures.value) c.gather.ensures.ok
