use Rattle.std.proofs.Common.{rules}
use Rattle.morsel_keys.specs.Keyed.{row_home, row_values}
use Rattle.morsel_keys.proofs.SlotLemmas.{index_more}
use Rattle.morsel_keys.proofs.table.add.Goals as goal

pub returns-clause-indexed : goal.returns-clause-indexed
returns-clause-indexed c =
    rw (c.in_ok-put.ensures.ok, c.in_ok-push.ensures.items, c.reserve.ensures.items, c.in_ok-own.ensures.ok)
    (index_more (row_home c.args.seed c.args.mask) c.args.mask _ _ (row_values c.args.key) c.home-from.result c.hole-at.result _ (search rules) c.home-from.ensures.value c.requires.indexed (rw (← c.deref.ensures.value) c.hole-at.ensures) (search rules))
