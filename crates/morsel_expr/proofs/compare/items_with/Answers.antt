use Rattle.morsel_expr.proofs.CompareLemmas.{answered-masked}
use Rattle.morsel_expr.proofs.compare.items_with.Goals as goal

pub returns-clause-ok : goal.returns-clause-ok
returns-clause-ok g c =
    rw (← answered-masked g.T.Item.value g.met.T.Item.valued c.args.op (g.T.Item.value c.args.by) (g.met.T.Item.valued c.args.by) c.args.valid.now c.args.items.now, ← c.of.ensures) c.answer_items.ensures.ok
