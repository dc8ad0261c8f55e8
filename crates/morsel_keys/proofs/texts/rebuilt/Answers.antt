use Rattle.std.proofs.Common.{rules, get_or, []}
use Rattle.std.proofs.lemmas.Option.{slice_get-get_or}
use Rattle.morsel_keys.specs.TextHomes.{text_home}
use Rattle.morsel_keys.proofs.SlotLemmas.{rebuild_more}
use Rattle.morsel_keys.proofs.texts.rebuilt.Goals as goal

pub loop-place-preserved : goal.loop-place-preserved
loop-place-preserved c = rw (c.in_ok-put.ensures.ok)
    (rebuild_more (text_home c.args.seed c.args.mask) c.args.mask _ c.args.texts.now (get_or c.args.texts.now c.loop-place.place []) c.loop-place.place c.home-from.result c.hole-at.result _
    c.loop-place.invariant (slice_get-get_or c.args.texts.now c.loop-place.place [] (search rules)) c.requires.short (search rules) (rw (← c.deref.ensures.value) c.hole-at.ensures) (search rules))
