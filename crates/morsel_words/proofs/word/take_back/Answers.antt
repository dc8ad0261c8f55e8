use Rattle.std.proofs.Common.{rules}
use Rattle.morsel_words.proofs.SenderSteps.{puts_back}
use Rattle.morsel_words.proofs.word.take_back.Goals as goal

pub swap-requires : goal.swap-requires
swap-requires g c = (search rules, search rules, puts_back _ _ _ _ _ (search rules) (search rules) (search rules))
