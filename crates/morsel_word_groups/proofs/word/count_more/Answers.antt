use Rattle.std.proofs.Common.{rules}
use Rattle.morsel_word_groups.proofs.GroupSteps.{counts_more}
use Rattle.morsel_word_groups.proofs.word.count_more.Goals as goal

pub fetch_add-requires : goal.fetch_add-requires
fetch_add-requires c = (search rules, search rules, counts_more _ _ _ c.requires.open.0 c.requires.open.1 c.requires.spare)
