use Rattle.std.proofs.Common.{subst, sym}
use Rattle.morsel_prims.specs.Woken.{IsWoken}
use Rattle.morsel_prims.proofs.WokenLemmas.{keeps_with}
use Rattle.morsel_prims.proofs.wakes.Wakes.wake.Goals as goal

pub returns-then-task-len-clause-woken : goal.returns-then-task-len-clause-woken
returns-then-task-len-clause-woken c = subst (λ task. IsWoken task c.push.new.self) (sym c.in-Some.is) (λ _. (keeps_with _ _ _ c.push.ensures.put).0)

pub returns-then-task-len-clause-wakes : goal.returns-then-task-len-clause-wakes
returns-then-task-len-clause-wakes c = (keeps_with _ _ _ c.push.ensures.put).1
