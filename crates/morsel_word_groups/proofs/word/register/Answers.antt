use Rattle.std.proofs.Common.{rules}
use Rattle.morsel_word_groups.proofs.GroupSteps.{registers}
use Rattle.morsel_word_groups.proofs.word.register.Goals as goal

pub swap-requires : goal.swap-requires
swap-requires c = (search rules, search rules, registers _ _ _ c.args.number c.requires.group c.requires.number)
