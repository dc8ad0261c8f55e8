use Rattle.std.proofs.Common.{rules, arith}
use Rattle.morsel_words.proofs.ReceiverSteps.{asks_to_take}
use Rattle.morsel_words.proofs.LookLemmas.{no_value, in_hand_is, lifted}
use Rattle.morsel_words.proofs.take_word.ask_to_take.Goals as goal

pub compare_exchange-state-requires : goal.compare_exchange-state-requires
compare_exchange-state-requires g c = (search rules, search rules, asks_to_take _ _ _ _ _ c.requires.receiver.0 c.requires.receiver.1)

pub take_out-requires-clause-slot : goal.take_out-requires-clause-slot
take_out-requires-clause-slot g c = in_hand_is _ _ _ _ _ _ _ _ (grind arith) c.requires.job c.requires.receiver.2 c.compare_exchange-state.ensures.2

pub returns-then-not-has-clause-looked : goal.returns-then-not-has-clause-looked
returns-then-not-has-clause-looked g c = no_value _ c.args.lane.now.key _ _ _ _ _ _ _ (grind arith) c.refusal_at.ensures c.compare_exchange-state.ensures.2

pub returns-clause-looked : goal.returns-clause-looked
returns-clause-looked g c = lifted _ _ _ _ _ _ _ _ (grind arith) c.requires.job c.requires.receiver.2 c.compare_exchange-state.ensures.2 _ c.take_out.ensures.value _ c.take_out.ensures.left
