use Rattle.std.proofs.Common.{◌∙◌, get_or, refl, sym}
use Rattle.morsel_frame.proofs.SelectLemmas.{fields_at-more}
use Rattle.morsel_frame.proofs.selects.pick_fields.Goals as goal

pub loop-at-preserved : goal.loop-at-preserved
loop-at-preserved c =
    let same = c.in_ok-new.ensures.value ∙ c.as_str.ensures in
    rw (c.in_ok-push.ensures.items, c.loop-at.invariant, same)
    (sym (fields_at-more c.args.fields.now c.args.places.now c.loop-at.at-index (get_or c.args.places.now c.loop-at.at-index 0) c.index-fields-at.result
    c.loop-at-test.true refl (c.requires c.loop-at.at-index 0 c.loop-at-test.true) c.index-fields-at.is))
