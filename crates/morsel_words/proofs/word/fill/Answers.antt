use Rattle.std.proofs.Common.{rules, None}
use Rattle.morsel_words.proofs.SenderSteps.{fills}
use Rattle.morsel_words.proofs.word.fill.Goals as goal

pub exchange-requires : goal.exchange-requires
exchange-requires g c = (search rules, (None, search rules))

pub swap-requires : goal.swap-requires
swap-requires g c = (search rules, search rules, fills _ _ _ _ _ c.args.value (search rules) (search rules) (search rules) c.requires.suits)
