use Rattle.std.proofs.Common.{rules}
use Rattle.morsel_words.proofs.SenderSteps.{looks_for_value}
use Rattle.morsel_words.proofs.word.look_for_value.Goals as goal

pub load-requires : goal.load-requires
load-requires g c = (search rules, search rules, looks_for_value _ _ _ _ _ c.requires.sender)
