use Rattle.std.proofs.Common.{rules}
use Rattle.morsel_words.proofs.SenderSteps.{looks_to_send}
use Rattle.morsel_words.proofs.word.look_to_send.Goals as goal

pub load-requires : goal.load-requires
load-requires g c = (search rules, search rules, looks_to_send _ _ _ _ _ c.requires.sender.0 c.requires.sender.1)
