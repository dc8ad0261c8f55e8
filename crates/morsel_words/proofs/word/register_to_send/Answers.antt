use Rattle.std.proofs.Common.{rules}
use Rattle.morsel_words.proofs.SenderSteps.{registers_to_send}
use Rattle.morsel_words.proofs.word.register_to_send.Goals as goal

pub swap-requires : goal.swap-requires
swap-requires g c = (search rules, search rules, registers_to_send _ _ _ _ _ c.args.number c.requires.sender c.requires.number)
