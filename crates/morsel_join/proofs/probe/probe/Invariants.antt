use Rattle.std.proofs.Common.{ℕ, List, length, take}
use Rattle.morsel_join.specs.Chains.{AreRowChains}
use Rattle.morsel_join.specs.Probes.{PutsLookedUp}
use Rattle.morsel_join.proofs.probe.probe.Given as goal

abbrev pub invariant-loop-row : goal.invariant-loop-row
invariant-loop-row l = (build : List ℕ) → AreRowChains build l.first l.next 0 → PutsLookedUp (length l.first) build (take l.row l.numbers) l.wanted l.initial.lefts.items l.initial.rights.items l.lefts.items l.rights.items
