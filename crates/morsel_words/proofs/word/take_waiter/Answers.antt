use Rattle.std.proofs.Common.{rules}
use Rattle.morsel_words.proofs.SenderSteps.{takes_waiter}
use Rattle.morsel_words.proofs.word.take_waiter.Goals as goal

pub swap-requires : goal.swap-requires
swap-requires g c = (search rules, search rules, takes_waiter _ _ _ _ _ c.requires.sender)
