use Rattle.std.proofs.Common.{◌-◌}
use Rattle.morsel_scan.proofs.GoingLemmas.{IsGoingOn}
use Rattle.morsel_scan.proofs.reader.blocks.BlockReader.find.Given as goal

-- no block is held yet
abbrev pub invariant-chunks : goal.invariant-chunks
invariant-chunks g l = IsGoingOn (g.H.Io.seen l.fn.io) l.fn.self l.chunk (g.H.Io.seen l.io) l.self

abbrev pub decreases-chunks : goal.decreases-chunks
decreases-chunks g l = l.self.size - l.self.asked
