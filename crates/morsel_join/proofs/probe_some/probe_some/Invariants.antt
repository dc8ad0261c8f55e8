use Rattle.std.proofs.Common.{◌-◌, length}
use Rattle.morsel_join.proofs.CutLemmas.{HasProbed}
use Rattle.morsel_join.proofs.probe_some.probe_some.Given as goal

abbrev pub invariant-loop-at : goal.invariant-loop-at
invariant-loop-at l = HasProbed l.first l.next l.numbers l.wanted l.fn.from l.limit l.fn.lefts.items l.fn.rights.items l.lefts.items l.rights.items (record { at = l.at; row = l.row; link = l.link })

abbrev pub decreases-loop-at : goal.decreases-loop-at
decreases-loop-at l = length l.numbers - l.at
