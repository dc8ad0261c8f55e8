use Rattle.std.proofs.Common.{sym, subst, ℕ}
use Rattle.std.specs.Arc.{arc_value}
use Rattle.morsel_load.specs.Loads.{SeenPart}
use Rattle.morsel_scan_units.specs.LaneJobs.{SuitsLane}
use Rattle.morsel_scan_units.proofs.UnitLemmas.{part_suits}
use Rattle.morsel_scan_units.proofs.frame_encoder.FrameEncoderLoadMakerLaneJob.make.Goals as goal

pub returns-in-Ok-clause-suits : goal.returns-in-Ok-clause-suits
returns-in-Ok-clause-suits g c from to joins suits =
    let morsel = c.in-Morsel.morsel in
    subst (λ (n : ℕ). SuitsLane to (SeenPart n c.in-Ok.part)) (sym c.seq-seq.ensures)
    (part_suits (arc_value c.args.self.now.node) from to morsel.frame morsel.seq morsel.source_token morsel.stretch c.in-Ok.part joins.0 joins.1
    (rw c.in-Morsel.is at suits) (rw (c.df.ensures, c.stretch.ensures) at c.in-Ok.ensures.part))
