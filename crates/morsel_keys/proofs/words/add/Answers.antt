use Rattle.std.proofs.Common.{rules}
use Rattle.morsel_keys.specs.Words.{word_home}
use Rattle.morsel_keys.proofs.SlotLemmas.{index_more}
use Rattle.morsel_keys.proofs.words.add.Goals as goal

pub returns-clause-indexed : goal.returns-clause-indexed
returns-clause-indexed c =
    rw (c.in_ok-put.ensures.ok, c.in_ok-push.ensures.items, c.reserve.ensures.items)
    (index_more (word_home c.args.seed c.args.mask) c.args.mask _ _ c.args.word c.home-from.result c.hole-at.result _ (search rules) c.home-from.ensures.value c.requires.indexed (rw (← c.deref.ensures.value) c.hole-at.ensures) (search rules))
