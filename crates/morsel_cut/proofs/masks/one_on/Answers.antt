use Rattle.std.proofs.Common.{◌∙◌}
use Rattle.morsel_cut.proofs.BitLemmas.{one_on_low, one_on_high, bool_bit}
use Rattle.morsel_cut.proofs.masks.one_on.Goals as goal

pub returns-clause-low : goal.returns-clause-low
returns-clause-low c = one_on_low c.args.bits c.from.result c.args.first (c.from.ensures ∙ bool_bit c.args.first)

pub returns-clause-high : goal.returns-clause-high
returns-clause-high c = one_on_high c.args.bits c.from.result c.args.first (c.from.ensures ∙ bool_bit c.args.first)
