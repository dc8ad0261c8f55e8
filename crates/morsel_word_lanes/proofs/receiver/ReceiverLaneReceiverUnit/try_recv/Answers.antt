use Rattle.std.proofs.Common.{subst}
use Rattle.morsel_prims.specs.Woken.{AreFoundWoken}
use Rattle.morsel_words.specs.Ends.{TakeSeen}
use Rattle.morsel_words.specs.declared.view.Found.TheVariants as found
use Rattle.morsel_word_lanes.specs.Ends.{FoundWaiting}
use Rattle.morsel_word_lanes.proofs.EndLemmas.{found_woken}
use Rattle.morsel_word_lanes.proofs.receiver.ReceiverLaneReceiverUnit.try_recv.Goals as goal

pub returns-clause-woken : goal.returns-clause-woken
returns-clause-woken g c =
    subst (λ (z : TakeSeen _ _). AreFoundWoken (FoundWaiting found.Took z.found c.receive.new.self.found) c.wake.new.self) c.self.view_is
    (found_woken found.Took _ _ c.in_ok-value.task _ c.in_ok-value.ensures.waiter c.wake.ensures.woken)
