use Rattle.std.proofs.Common.{rules}
use Rattle.morsel_word_groups.proofs.GroupSteps.{withdraws}
use Rattle.morsel_word_groups.proofs.word.withdraw.Goals as goal

pub swap-requires : goal.swap-requires
swap-requires c = (search rules, search rules, withdraws _ _ _)
