use Rattle.std.proofs.Common.{arith}
use Rattle.morsel_text.specs.Steps.{empty_columns}
use Rattle.morsel_text.proofs.ChoiceLemmas.{empty_more, empty_all}
use Rattle.morsel_text.proofs.choice.columns_of.Goals as goal

pub loop-at-preserved : goal.loop-at-preserved
loop-at-preserved c =
    empty_more (empty_columns c.args.schema.now) c.loop-at.columns.items _ c.args.schema.now c.loop-at.at c.field.result.now c.new.result
    (omega arith) c.field.ensures c.new.ensures c.in_ok-push.ensures.items c.loop-at.invariant

pub returns-clause-ok : goal.returns-clause-ok
returns-clause-ok c = empty_all (empty_columns c.args.schema.now) c.loop-at.columns.items c.args.schema.now c.loop-at.at (omega arith) c.loop-at.invariant
