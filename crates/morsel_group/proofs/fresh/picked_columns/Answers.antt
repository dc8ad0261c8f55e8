use Rattle.morsel_group.proofs.FreshLemmas.{picked_more}
use Rattle.morsel_group.proofs.fresh.picked_columns.Goals as goal

pub loop-at-preserved : goal.loop-at-preserved
loop-at-preserved c =
    picked_more c.args.frame.now c.args.places.now c.args.rows.now c.loop-at.at-index c.loop-at.columns.items c.push.new.self.items c.column.result.now c.in_ok-picked_column.field-0 c.loop-at-test.true c.loop-at.invariant c.column.ensures.kind c.column.ensures.values c.in_ok-picked_column.ensures.ok c.in_ok-push.ensures.items
