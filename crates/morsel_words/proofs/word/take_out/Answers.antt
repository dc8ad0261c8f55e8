use Rattle.std.proofs.Common.{rules, Some}
use Rattle.morsel_words.proofs.word.take_out.Goals as goal

pub exchange-requires : goal.exchange-requires
exchange-requires g c = (search rules, (Some c.requires.slot.0, search rules))
