use Rattle.std.proofs.Common.{rules, ◌∙◌, ap, sym, refl, Some, inl, inr, ◌-◌}
use Rattle.std.proofs.lemmas.Option.{slice_get-get_or}
use Rattle.morsel_keys.specs.Words.{word_home}
use Rattle.morsel_keys.proofs.SlotLemmas.{absent_at}
use Rattle.morsel_keys.proofs.words.number_from.Goals as goal

pub returns-then-first-eq0 : goal.returns-then-first-eq0
returns-then-first-eq0 c = inl (refl, absent_at (word_home c.args.seed c.args.mask) c.args.mask c.args.slots.now c.args.words.now c.args.word c.requires.indexed (sym c.requires.first ∙ c.if-first-eq0.true))

pub returns-then-words-first : goal.returns-then-words-first
returns-then-words-first c = inr (slice_get-get_or c.args.words.now (c.args.first - 1) 0 (search rules) ∙ ap Some c.if-words-first.true)
