use Rattle.std.proofs.Common.{sym, subst}
use Rattle.std.specs.Arc.{arc_value}
use Rattle.morsel_load.specs.Loads.{SeenMorsel}
use Rattle.morsel_load.specs.declared.morsels.Stretch.{Stretch}
use Rattle.morsel_scan_units.specs.LaneJobs.{SuitsLane}
use Rattle.morsel_scan_units.proofs.UnitLemmas.{morsel_suits, piece_fails}
use Rattle.morsel_scan_units.proofs.piece_decoder.PieceDecoderLoadMakerLaneJob.make.Goals as goal

pub returns-in-Ok-clause-suits : goal.returns-in-Ok-clause-suits
returns-in-Ok-clause-suits g c from to joins suits =
    let morsel = c.in-Ok.morsel in
    subst (λ (s : Stretch). SuitsLane to (SeenMorsel morsel.frame morsel.seq morsel.source_token s)) (sym c.in-Ok.ensures.decodes.2)
    (morsel_suits (arc_value c.args.self.now.node) from to c.in-Piece.piece morsel.frame morsel.seq morsel.source_token joins.0 joins.1 (rw c.in-Piece.is at suits) c.in-Ok.ensures.decodes.0)

pub returns-in-Err-clause-failed : goal.returns-in-Err-clause-failed
returns-in-Err-clause-failed g c from to joins suits =
    piece_fails (arc_value c.args.self.now.node) from to c.in-Piece.piece c.in-Err.fault joins.1 (rw c.in-Piece.is at suits) c.in-Err.ensures.decodes.0 c.in-Err.ensures.decodes.1
