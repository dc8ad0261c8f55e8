use Rattle.std.proofs.Common.{subst}
use Rattle.morsel_prims.specs.Woken.{AreFoundWoken}
use Rattle.morsel_words.specs.Ends.{SendSeen}
use Rattle.morsel_words.specs.declared.view.Found.TheVariants as found
use Rattle.morsel_word_lanes.specs.Ends.{FoundWaiting}
use Rattle.morsel_word_lanes.proofs.EndLemmas.{found_woken, has_closed}
use Rattle.morsel_word_lanes.proofs.sender.SenderLaneSenderUnit.finish.Goals as goal

pub returns-clause-finished : goal.returns-clause-finished
returns-clause-finished g c = has_closed _ _ _ c.finish-sent.ensures.waiter

pub returns-clause-woken : goal.returns-clause-woken
returns-clause-woken g c =
    subst (λ (z : SendSeen _ _). AreFoundWoken (FoundWaiting found.Closing z.found c.finish-sent.result.0.found) c.wake.new.self) c.self.view_is
    (found_woken found.Closing _ _ c.finish-sent.result.1 _ c.finish-sent.ensures.waiter c.wake.ensures.woken)
