use Rattle.std.proofs.Common.{◌-◌}
use Rattle.std.specs.Prelude.{length}
use Rattle.morsel_read.specs.Seeking.{PassesFiles}
use Rattle.morsel_read.proofs.reader.ScanReader.seek.Given as goal

-- files without more rows were passed
abbrev pub invariant-files : goal.invariant-files
invariant-files g l = PassesFiles (g.H.Io.seen l.fn.io) l.fn.self (g.H.Io.seen l.io) l.self

abbrev pub decreases-files : goal.decreases-files
decreases-files g l = length l.self.sources.files - l.self.source
