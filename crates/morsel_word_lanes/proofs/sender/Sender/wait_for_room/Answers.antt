use Rattle.std.proofs.Common.{subst}
use Rattle.morsel_prims.specs.Woken.{AreFoundWoken}
use Rattle.morsel_words.specs.Ends.{SendSeen}
use Rattle.morsel_words.specs.declared.view.Found.TheVariants as found
use Rattle.morsel_word_lanes.specs.Ends.{FoundWaiting}
use Rattle.morsel_word_lanes.proofs.EndLemmas.{found_woken}
use Rattle.morsel_word_lanes.proofs.sender.Sender.wait_for_room.Goals as goal

pub returns-clause-woken : goal.returns-clause-woken
returns-clause-woken g c =
    subst (λ (z : SendSeen _ _). AreFoundWoken (FoundWaiting found.Sent z.found c.wait.new.self.found) c.wake.new.self) c.self.view_is
    (found_woken found.Sent _ _ c.in_ok-task.task _ c.in_ok-task.ensures.waiter c.wake.ensures.woken)
