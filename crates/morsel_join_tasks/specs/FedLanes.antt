-- The first lane of a line that is fed.
use Rattle.std.specs.Prelude.{◌≡◌}
use Rattle.morsel_outside.specs.Outside.{Outside}
use Rattle.morsel_read.specs.ScanReads.{PiecesRead}
use Rattle.morsel_load.specs.declared.load.LoadKind.TheVariants.{Pieces}
use Rattle.morsel_line.specs.RowStages.{ScannedRows}
use Rattle.morsel_scan_units.specs.LaneJobs.{LaneFor}

-- the lane is for the pieces of a scan whose files this reader is to read from this outside
pub record IsFedBy (reader : PiecesRead) (outside : Outside) (lane : LaneFor) : Type 0 where
  pub kind : lane.kind ≡ Pieces
  pub reader_is : lane.reader ≡ reader
  pub outside_is : lane.outside ≡ outside
  pub stage_is : lane.stage ≡ ScannedRows
