use Rattle.std.proofs.Common.{rules}
use Rattle.morsel_words.proofs.CloseSteps.{ends_whole}
use Rattle.morsel_words.proofs.close_word.end_whole.Goals as goal

pub fetch_or-requires : goal.fetch_or-requires
fetch_or-requires g c = (search rules, search rules, ends_whole _ _ _ _ _ c.requires.sender.0 c.requires.sender.1)
