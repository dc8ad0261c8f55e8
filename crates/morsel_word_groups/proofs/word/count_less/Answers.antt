use Rattle.std.proofs.Common.{rules}
use Rattle.morsel_word_groups.proofs.GroupSteps.{counts_less}
use Rattle.morsel_word_groups.proofs.word.count_less.Goals as goal

pub fetch_sub-requires : goal.fetch_sub-requires
fetch_sub-requires c = (search rules, search rules, counts_less _ _ _ c.requires.token.0 c.requires.token.1)
