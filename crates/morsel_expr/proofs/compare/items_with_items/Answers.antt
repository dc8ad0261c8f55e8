use Rattle.morsel_expr.proofs.CompareLemmas.{answered_pairs-masked}
use Rattle.morsel_expr.proofs.compare.items_with_items.Goals as goal

pub returns-clause-ok : goal.returns-clause-ok
returns-clause-ok g c =
    rw (← answered_pairs-masked g.T.Item.value g.met.T.Item.valued c.args.op c.args.valid.now c.args.items.now c.args.other_valid.now c.args.others.now, ← c.of.ensures) c.answer_item_pairs.ensures.ok
