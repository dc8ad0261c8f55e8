use Rattle.std.proofs.Common.{subst}
use Rattle.morsel_prims.specs.Woken.{AreFoundWoken}
use Rattle.morsel_word_groups.specs.Seen.{TokenSeen, FoundWaitingForLast}
use Rattle.morsel_word_groups.proofs.WakeLemmas.{found_woken}
use Rattle.morsel_word_groups.proofs.group.WaitToken.release.Goals as goal

pub returns-clause-woken : goal.returns-clause-woken
returns-clause-woken c =
    subst (λ (z : TokenSeen). AreFoundWoken (FoundWaitingForLast z.found) c.wake.new.self) c.self.view_is
    (found_woken _ c.release-task.new.seat.me.0.found c.release-task.result c.wake.new.self c.release-task.ensures.waiter c.wake.ensures.woken)
