use Rattle.std.proofs.Common.{◌+◌, ◌-◌, length, if◌then◌else◌, ◌==◌}
use Rattle.morsel_join.proofs.ChainSteps.{Followed}
use Rattle.morsel_join.proofs.probe.follow.Given as goal

abbrev pub invariant-loop-at : goal.invariant-loop-at
invariant-loop-at l = Followed l.next l.head l.at l.row l.initial.lefts.items l.initial.rights.items l.lefts.items l.rights.items

abbrev pub decreases-loop-at : goal.decreases-loop-at
decreases-loop-at l = if l.at == 0 then 0 else length l.next + 1 - l.at
