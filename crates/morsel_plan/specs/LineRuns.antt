-- The run of a scan through its line.
use Rattle.std.specs.Prelude.{◌≡◌, ◌⊎◌, ℕ, Result, Err}
use Rattle.atomic_table.specs.Seated.{TableId}
use Rattle.morsel_meaning.specs.declared.fault.Fault.{Fault}
use Rattle.morsel_meaning.specs.declared.fault.Fault.TheVariants.{OutOfMemory}
use Rattle.morsel_outside.specs.Outside.{Outside}
use Rattle.morsel_scan.specs.Scans.{CsvScan}
use Rattle.morsel_read.specs.ScanReads.{PiecesRead}
use Rattle.morsel_load.specs.declared.load.LoadKind.TheVariants.{Morsels, Pieces, Parts}
use Rattle.morsel_line.specs.RowStages.{ScannedRows}
use Rattle.morsel_line.specs.ScanRuns.{WritesScan}
use Rattle.morsel_scan_units.specs.LaneJobs.{LaneFor}

-- the lane is for the pieces of this scan, whose files this reader is to read from this outside
pub record IsLaneOf (scan : CsvScan) (reader : PiecesRead) (outside : Outside) (lane : LaneFor) : Type 0 where
  pub kind : lane.kind ≡ Pieces
  pub scan_is : lane.scan ≡ scan
  pub reader_is : lane.reader ≡ reader
  pub outside_is : lane.outside ≡ outside
  pub stage_is : lane.stage ≡ ScannedRows

-- the scan was written; or memory ran out before anything was done
abbrev pub WritesOrNot : CsvScan → PiecesRead → ℕ → Outside → Result ℕ Fault → Outside → Type 0
WritesOrNot scan reader bound before result after = ((result ≡ Err OutOfMemory) × (after ≡ before)) ⊎ WritesScan scan reader bound before result after

-- what the lanes of a line of two nodes are for: the pieces of one scan, their rows, and the texts of those
pub record AreLineJobs (fed between given : LaneFor) : Type 0 where
  pub pieces : fed.kind ≡ Pieces
  pub scanned : fed.stage ≡ ScannedRows
  pub rows : between ≡ record fed { kind = Morsels }
  pub texts : given ≡ record fed { kind = Parts }

-- the caller's ends of a line on this table: pieces of this scan go in, and parts of its text come out
pub record AreLineEnds {S R : Type 0} (sender_home : S → TableId) (sender_job : S → LaneFor) (receiver_home : R → TableId) (receiver_job : R → LaneFor) (table : TableId) (lane : LaneFor) (feed : S) (parts : R) : Type 0 where
  pub feed_home : sender_home feed ≡ table
  pub feed_lane : sender_job feed ≡ record lane { kind = Pieces; stage = ScannedRows }
  pub parts_home : receiver_home parts ≡ table
  pub parts_lane : receiver_job parts ≡ record lane { kind = Parts }
