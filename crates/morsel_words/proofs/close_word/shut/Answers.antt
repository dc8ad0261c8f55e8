use Rattle.std.proofs.Common.{rules}
use Rattle.morsel_words.proofs.CloseSteps.{shuts_at}
use Rattle.morsel_words.proofs.close_word.shut.Goals as goal

pub fetch_or-requires : goal.fetch_or-requires
fetch_or-requires g c = (search rules, search rules, shuts_at _ _ _ _ _ c.requires.receiver.1.0 c.requires.receiver.0 c.requires.receiver.1.1)
