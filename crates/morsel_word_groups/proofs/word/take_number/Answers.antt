use Rattle.std.proofs.Common.{rules}
use Rattle.morsel_word_groups.proofs.GroupSteps.{takes_number}
use Rattle.morsel_word_groups.proofs.word.take_number.Goals as goal

pub swap-requires : goal.swap-requires
swap-requires c = (search rules, search rules, takes_number _ _ _)
