use Rattle.std.proofs.Common.{◌∙◌}
use Rattle.morsel_join.proofs.rules.put_right.Goals as goal
use Rattle.morsel_join.proofs.RuleLemmas.{right-step}

pub loop-at-preserved : goal.loop-at-preserved
loop-at-preserved c = right-step c.loop-at.columns.items c.put_right_column.new.columns.items c.args.names.now c.loop-at.at c.index-names-at.result c.in_ok-put_right_column.ensures.ok c.loop-at-test.true c.index-names-at.is ∙ c.loop-at.invariant
