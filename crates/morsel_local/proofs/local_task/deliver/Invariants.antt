use Rattle.std.proofs.Common.{◌≡◌, length}
use Rattle.morsel_local.specs.Sweeps.{all_woken}
use Rattle.morsel_local.proofs.local_task.deliver.Given as goal

abbrev pub invariant-loop-number : goal.invariant-loop-number
invariant-loop-number g l = (all_woken l.wakes.numbers l.tasks ≡ all_woken l.initial.wakes.numbers l.initial.tasks)
    × (length l.tasks ≡ length l.initial.tasks) × (l.wakes.bound ≡ l.initial.wakes.bound)

abbrev pub decreases-loop-number : goal.decreases-loop-number
decreases-loop-number g l = length l.wakes.numbers
