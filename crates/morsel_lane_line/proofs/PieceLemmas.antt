-- What goes into the first lane.
use Rattle.std.proofs.Common.{◌≡◌, ap, refl, subst, sym}
use Rattle.morsel_pipe.specs.Pieces.{Piece}
use Rattle.morsel_load.specs.Loads.{SeenPiece}
use Rattle.morsel_load.specs.declared.load.LoadKind.TheVariants.{Pieces}
use Rattle.morsel_scan.specs.CsvScans.{FitsScan}
use Rattle.morsel_line.specs.Jobs.{Job}
use Rattle.morsel_line.specs.RowStages.{ScannedRows, StageSeen}
use Rattle.morsel_line.specs.ScanJobs.{IsJobPiece}
use Rattle.morsel_scan_units.specs.LaneJobs.{LaneFor, SuitsLane, TellsJob}

-- the same job, of other rows
abbrev with_stage : Job → StageSeen → Job
with_stage job stage = record job { stage = stage }

-- what is told of the first lane is told of the last one, for the rows that come out of it
tells_last : (first last : LaneFor) (job : Job) → first ≡ record last { kind = Pieces; stage = ScannedRows } → TellsJob first job → TellsJob last (with_stage job last.stage)
tells_last first last job same is =
    let there : TellsJob (record last { kind = Pieces; stage = ScannedRows }) job = subst (λ (lane : LaneFor). TellsJob lane job) same is in
    (there.0, record { given = there.1.given; names = there.1.names; first = there.1.first; opened = there.1.opened }, refl)

-- a piece of the job of the last lane suits the first one
pub piece_suits : (first last : LaneFor) (piece : Piece) → first ≡ record last { kind = Pieces; stage = ScannedRows } → FitsScan piece → ((job : Job) → TellsJob last job → IsJobPiece job piece) → SuitsLane first (SeenPiece piece)
piece_suits first last piece same fits told = record {
  kind = sym (ap (λ (lane : LaneFor). lane.kind) same);
  scan = fits;
  told = λ job is. told (with_stage job last.stage) (tells_last first last job same is);
}
