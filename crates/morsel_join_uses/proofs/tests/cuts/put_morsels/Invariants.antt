use Rattle.std.specs.Arc.{arc_value}
use Rattle.morsel_join.specs.Hits.{AreMarks}
use Rattle.morsel_join_uses.proofs.tests.cuts.put_morsels.Given as goal

abbrev pub invariant-loop-at : goal.invariant-loop-at
invariant-loop-at l = AreMarks (arc_value l.fn.build) l.hits.seen.items
