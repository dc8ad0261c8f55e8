use Rattle.std.proofs.Common.{subst, sym}
use Rattle.morsel_load.specs.Loads.{load_seen}
use Rattle.morsel_scan_units.specs.LaneJobs.{LaneFor, TellsJob}
use Rattle.morsel_drive.specs.Lines.{IfPart, SuitsPart}
use Rattle.morsel_drive.specs.declared.line.Taken.{Taken}
use Rattle.morsel_line.specs.ScanJobs.{job_axis}
use Rattle.morsel_lane_line.specs.LaneLines.{LineSeen}
use Rattle.morsel_lane_line.proofs.PartLemmas.{part_of_lane}
use Rattle.morsel_lane_line.proofs.lane_line.LaneLineLine.take.Goals.{in-Ok, in-Err-Whole, in-Err-Empty}
use Rattle.morsel_lane_line.proofs.lane_line.LaneLineLine.take.Goals as goal

pub returns-clause-suits : goal.returns-clause-suits
returns-clause-suits g c job tells =
    let lane : LaneFor = g.L.Receiver.LaneReceiver.job c.self.inside.parts in
    let told : TellsJob lane job = subst (λ (seen : LineSeen g.row.S.Denot). TellsJob seen.lane job) (sym c.self.view_is) tells in
    elim c.match-try_recv.branch [
      | in-Ok w ↦ subst (λ (it : Taken). IfPart it (SuitsPart (job_axis job))) (sym w.result-is) (part_of_lane lane (load_seen w.in-Ok.load) w.part_of.result job w.in-Ok.ensures.suits.0 w.part_of.ensures.part told)
      | in-Err-Whole w ↦ subst (λ (it : Taken). IfPart it (SuitsPart (job_axis job))) (sym w.result-is) tt
      | in-Err-Empty w ↦ subst (λ (it : Taken). IfPart it (SuitsPart (job_axis job))) (sym w.result-is) tt
    ]
