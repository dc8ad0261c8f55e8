use Rattle.std.proofs.Common.{rules}
use Rattle.morsel_word_groups.proofs.GroupSteps.{parts_from_group}
use Rattle.morsel_word_groups.proofs.word.part_from_group.Goals as goal

pub split_seat-requires : goal.split_seat-requires
split_seat-requires c = (search rules, search rules, parts_from_group _ _ c.requires.group.0 c.requires.group.1 c.requires.spare)
