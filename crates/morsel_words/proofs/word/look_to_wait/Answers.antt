use Rattle.std.proofs.Common.{rules}
use Rattle.morsel_words.proofs.SenderSteps.{looks_to_wait}
use Rattle.morsel_words.proofs.word.look_to_wait.Goals as goal

pub compare_exchange-requires : goal.compare_exchange-requires
compare_exchange-requires g c = (search rules, search rules, looks_to_wait _ _ _ _ _ c.requires.sender.0 c.requires.sender.1)
