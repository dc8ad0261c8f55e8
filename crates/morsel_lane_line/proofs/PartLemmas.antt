-- What comes out of the last lane.
use Rattle.std.proofs.Common.{subst, sym}
use Rattle.morsel_pipe.specs.Pieces.{Part}
use Rattle.morsel_load.specs.Loads.{LoadSeen, SeenMorsel, SeenPiece, SeenPart}
use Rattle.morsel_drive.specs.Lines.{SuitsPart}
use Rattle.morsel_line.specs.Jobs.{Job}
use Rattle.morsel_line.specs.ScanJobs.{job_axis}
use Rattle.morsel_scan_units.specs.LaneJobs.{LaneFor, TellsJob, SuitsLane}
use Rattle.morsel_lane_line.specs.LaneLines.{IsPartSeen}

-- a part that suits the lane is text of the job that is told
pub part_of_lane : (lane : LaneFor) (seen : LoadSeen) (part : Part) (job : Job) → SuitsLane lane seen → IsPartSeen part seen → TellsJob lane job → SuitsPart (job_axis job) part
part_of_lane lane (SeenPart seq told) part job suits is tells = subst (SuitsPart (job_axis job)) (sym is) (suits.told job tells)
part_of_lane lane (SeenPiece piece) part job suits is tells = absurd is
part_of_lane lane (SeenMorsel frame seq source stretch) part job suits is tells = absurd is
