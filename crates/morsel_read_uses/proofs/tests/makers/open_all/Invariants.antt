use Rattle.std.proofs.Common.{◌<◌}
use Rattle.std.specs.Prelude.{length}
use Rattle.std.specs.List.{All}
use Rattle.morsel_outside.specs.declared.io.FileNo.{FileNo}
use Rattle.morsel_read_uses.proofs.tests.makers.open_all.Given as goal

-- the files so far are open
abbrev pub invariant-files : goal.invariant-files
invariant-files g l = All (λ (file : FileNo). file.0 < length (g.H.Io.seen l.io).sizes) l.numbers.items
