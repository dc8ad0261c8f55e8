use Rattle.std.proofs.Common.{rules}
use Rattle.morsel_words.proofs.CloseSteps.{ends_cut}
use Rattle.morsel_words.proofs.close_word.end_cut.Goals as goal

pub fetch_or-requires : goal.fetch_or-requires
fetch_or-requires g c = (search rules, search rules, ends_cut _ _ _ _ _ c.requires.sender.0 c.requires.sender.1)
