use Rattle.std.proofs.Common.{◌-◌}
use Rattle.morsel_scan.specs.Blocks.{given_to}
use Rattle.morsel_scan.proofs.PassingLemmas.{IsPassing}
use Rattle.morsel_scan.proofs.reader.rows.RowReader.next_rows.Given as goal

-- what was passed has no rows
abbrev pub invariant-search : goal.invariant-search
invariant-search g l = IsPassing l.options l.columns (g.H.Io.seen l.fn.io) l.fn.self l.chunk (g.H.Io.seen l.io) l.self

abbrev pub decreases-search : goal.decreases-search
decreases-search g l = l.self.blocks.size - given_to l.self.blocks
