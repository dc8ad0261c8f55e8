use Rattle.std.proofs.Common.{rules}
use Rattle.morsel_word_groups.proofs.GroupSteps.{looks}
use Rattle.morsel_word_groups.proofs.word.has_tokens.Goals as goal

pub load-requires : goal.load-requires
load-requires c = (search rules, search rules, looks _ _ _ c.requires.group.0 c.requires.group.1)
