use Rattle.std.proofs.Common.{◌+◌, ◌-◌, length, if◌then◌else◌, ◌==◌}
use Rattle.morsel_join.proofs.CutLemmas.{HasWalked}
use Rattle.morsel_join.proofs.probe_some.follow_some.Given as goal

abbrev pub invariant-loop-link : goal.invariant-loop-link
invariant-loop-link l = HasWalked l.next l.head l.link l.row l.limit l.initial.lefts.items l.initial.rights.items l.lefts.items l.rights.items

abbrev pub decreases-loop-link : goal.decreases-loop-link
decreases-loop-link l = if l.link == 0 then 0 else length l.next + 1 - l.link
