use Rattle.std.proofs.Common.{rules}
use Rattle.morsel_words.proofs.ReceiverSteps.{empties}
use Rattle.morsel_words.proofs.take_word.empty_lane.Goals as goal

pub swap-state-requires : goal.swap-state-requires
swap-state-requires g c = (search rules, search rules, empties _ _ _ _ _ c.requires.value.0 c.requires.receiver c.requires.value.1 c.requires.slot)
