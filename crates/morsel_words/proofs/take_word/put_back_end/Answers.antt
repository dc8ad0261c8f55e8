use Rattle.std.proofs.Common.{rules}
use Rattle.morsel_words.proofs.ReceiverSteps.{puts_back_whole, puts_back_cut}
use Rattle.morsel_words.proofs.take_word.put_back_end.Goals as goal

pub swap-requires : goal.swap-requires
swap-requires g c = (search rules, search rules, puts_back_whole _ _ _ _ _ c.requires.receiver.0 (search rules))

pub swap-requires-2 : goal.swap-requires-2
swap-requires-2 g c = (search rules, search rules, puts_back_cut _ _ _ _ _ c.requires.receiver.0 (search rules))
