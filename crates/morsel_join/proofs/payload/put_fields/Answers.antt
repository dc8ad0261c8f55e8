use Rattle.std.proofs.Common.{arith, ◌∙◌}
use Rattle.morsel_join.proofs.payload.put_fields.Goals as goal
use Rattle.morsel_join.proofs.PayloadLemmas.{named-step}

pub loop-at-preserved : goal.loop-at-preserved
loop-at-preserved c =
    named-step c.loop-at.put.items c.put_field.new.put.items c.args.names.now c.args.fields.now c.loop-at.at c.index-names-at.result c.index-fields-at.result c.in_ok-put_field.ensures.ok (omega arith) c.requires c.index-names-at.is c.index-fields-at.is
    ∙ c.loop-at.invariant
