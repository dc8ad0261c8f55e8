use Rattle.std.proofs.Common.{arith}
use Rattle.morsel_ndjson.proofs.MemberLemmas.{beginnings_more, one_item}
use Rattle.morsel_ndjson.proofs.beginning.make_beginnings.Goals as goal

pub loop-at-preserved : goal.loop-at-preserved
loop-at-preserved c =
    one_item c.loop-at.begins.items c.push.new.self.items c.in_ok-new.field-0 _ _ _ c.in_ok-push.ensures.items
    (rw c.in_ok-new.ensures.value (rw c.as_str.ensures (beginnings_more c.loop-at.mark c.args.schema.now c.loop-at.at c.field.result.now (omega (arith, c.len-at-end.ensures.len)) c.field.ensures)))
    c.loop-at.invariant
