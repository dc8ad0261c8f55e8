use Rattle.std.proofs.Common.{rules, ◌∙◌, sym, refl, inl, inr, ◌-◌}
use Rattle.morsel_keys.specs.TextHomes.{text_home}
use Rattle.morsel_keys.proofs.SlotLemmas.{absent_at}
use Rattle.morsel_keys.proofs.TextLemmas.{text_is}
use Rattle.morsel_keys.proofs.texts.number_from.Goals as goal

pub returns-then-first-eq0 : goal.returns-then-first-eq0
returns-then-first-eq0 c = inl (refl, absent_at (text_home c.args.seed c.args.mask) c.args.mask c.args.slots.now c.args.texts.now c.args.text.now c.requires.indexed (sym c.requires.first ∙ c.if-first-eq0.true))

pub returns-then-eq : goal.returns-then-eq
returns-then-eq c = inr (text_is c.args.texts.now (c.args.first - 1) c.get.result.now c.args.text.now (search rules) c.get.ensures (sym c.eq.ensures ∙ c.if-eq.true))
