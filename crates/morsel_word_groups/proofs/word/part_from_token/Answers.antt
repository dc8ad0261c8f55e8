use Rattle.std.proofs.Common.{rules}
use Rattle.morsel_word_groups.proofs.GroupSteps.{parts_from_token}
use Rattle.morsel_word_groups.proofs.word.part_from_token.Goals as goal

pub split_seat-requires : goal.split_seat-requires
split_seat-requires c = (search rules, search rules, parts_from_token _ _ c.requires.token.0 c.requires.token.1)
