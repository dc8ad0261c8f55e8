use Rattle.std.proofs.Common.{rules}
use Rattle.morsel_words.proofs.ReceiverSteps.{takes_sender}
use Rattle.morsel_words.proofs.take_word.take_sender.Goals as goal

pub swap-requires : goal.swap-requires
swap-requires g c = (search rules, search rules, takes_sender _ _ _ _ _ c.requires.receiver)
