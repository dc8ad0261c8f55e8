use Rattle.std.proofs.Common.{subst}
use Rattle.morsel_prims.specs.Woken.{AreFoundWoken}
use Rattle.morsel_words.specs.Ends.{SendSeen}
use Rattle.morsel_word_lanes.specs.Ends.{FoundWaitingAtClose}
use Rattle.morsel_word_lanes.proofs.EndLemmas.{found_woken-close}
use Rattle.morsel_word_lanes.proofs.sender.SenderLaneSenderUnit.cut.Goals as goal

pub returns-clause-woken : goal.returns-clause-woken
returns-clause-woken g c =
    subst (λ (z : SendSeen _ _). AreFoundWoken (FoundWaitingAtClose z.found) c.wake.new.self) c.self.view_is
    (found_woken-close _ c.cut-task.ensures.waiter.0 c.cut-task.result _ c.cut-task.ensures.waiter.1 c.wake.ensures.woken)
