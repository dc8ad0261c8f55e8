use Rattle.std.proofs.Common.{take}
use Rattle.morsel_join.specs.Probes.{PutsLone}
use Rattle.morsel_join.proofs.probe.put_lone.Given as goal

abbrev pub invariant-loop-row : goal.invariant-loop-row
invariant-loop-row l = PutsLone l.seen 0 (take l.row l.numbers) l.initial.lefts.items l.initial.rights.items l.lefts.items l.rights.items
