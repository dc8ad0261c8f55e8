use Rattle.std.proofs.Common.{rules}
use Rattle.morsel_keys.specs.TextHomes.{text_home}
use Rattle.morsel_keys.proofs.SlotLemmas.{index_more}
use Rattle.morsel_keys.proofs.texts.add.Goals as goal

pub returns-in-Ok-clause-indexed : goal.returns-in-Ok-clause-indexed
returns-in-Ok-clause-indexed c =
    rw (c.in-Ok.ensures.ok, c.in_ok-push.ensures.ok)
    (index_more (text_home c.args.seed c.args.mask) c.args.mask _ _ c.args.text.now c.home-from.result c.hole-at.result _ (search rules) c.home-from.ensures.value c.requires.indexed (rw (← c.deref.ensures.value) c.hole-at.ensures) (search rules))
