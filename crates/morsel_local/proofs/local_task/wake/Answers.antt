use Rattle.std.proofs.Common.{ap, ◌∙◌, ◌-◌, slice_set}
use Rattle.morsel_local.specs.Sweeps.{woken}
use Rattle.morsel_local.proofs.SweepLemmas.{changed-zero, changed-set, changed-beyond}
use Rattle.morsel_local.proofs.local_task.wake.Goals as goal

pub returns-then-number-eq0 : goal.returns-then-number-eq0
returns-then-number-eq0 g c = record { woken = changed-zero woken _ _ c.if-number-eq0.true }

pub returns-then-at-tasks : goal.returns-then-at-tasks
returns-then-at-tasks g c = record { woken = ap (λ t. slice_set c.args.tasks.now (c.args.number.0 - 1) t) c.wake.ensures.woken ∙ changed-set woken c.args.number.0 c.args.tasks.now c.index-tasks-at.result c.if-number-eq0.false c.if-at-tasks.true }

pub returns-else-at-tasks : goal.returns-else-at-tasks
returns-else-at-tasks g c = record { woken = changed-beyond woken _ _ c.if-number-eq0.false c.if-at-tasks.false }
