use Rattle.std.specs.Prelude.{◌+◌}
use Rattle.std.proofs.Common.{subst, ℕ}
use Rattle.morsel_scan.specs.Decoding.{Finishes}
use Rattle.morsel_scan.proofs.SourceLemmas.{piece_decoded}
use Rattle.morsel_scan.proofs.source.CsvSourceNode.decode_with.Goals as goal

pub returns-in-Ok : goal.returns-in-Ok
returns-in-Ok c =
    piece_decoded c.args.self.now _ c.args.piece c.in-Ok.read c.finish.result c.piece.view_is c.in-Ok.ensures
    (subst (λ (n : ℕ). Finishes c.args.self.now.scan (c.piece.inside.first_row + n) c.piece.inside.source c.in-Ok.read c.finish.result) c.from.ensures c.finish.ensures)
