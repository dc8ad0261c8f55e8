use Rattle.morsel_read.specs.ScanReads.{SuitsPieces}
use Rattle.morsel_bench.proofs.scans.pass_pieces.Given as goal

abbrev pub invariant-pieces : goal.invariant-pieces
invariant-pieces g l = SuitsPieces (g.H.Io.seen l.io) l.reader
