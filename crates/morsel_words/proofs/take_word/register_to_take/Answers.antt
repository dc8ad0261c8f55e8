use Rattle.std.proofs.Common.{rules}
use Rattle.morsel_words.proofs.ReceiverSteps.{registers_to_take}
use Rattle.morsel_words.proofs.take_word.register_to_take.Goals as goal

pub swap-requires : goal.swap-requires
swap-requires g c = (search rules, search rules, registers_to_take _ _ _ _ _ c.args.number c.requires.receiver c.requires.number)
