use Rattle.std.proofs.Common.{◌∙◌}
use Rattle.morsel_join.proofs.rules.put_left.Goals as goal
use Rattle.morsel_join.proofs.RuleLemmas.{left-step}

pub loop-at-preserved : goal.loop-at-preserved
loop-at-preserved c = left-step c.loop-at.columns.items c.put_left_column.new.columns.items c.args.merged.now c.args.names.now c.loop-at.at c.index-names-at.result c.in_ok-put_left_column.ensures.ok c.loop-at-test.true c.index-names-at.is ∙ c.loop-at.invariant
