-- Lanes of rows, before and behind a join.
use Rattle.std.specs.Prelude.{◌≡◌, ℕ, List}
use Rattle.morsel_meaning.specs.declared.value.Field.{Field}
use Rattle.morsel_meaning.specs.Values.{Row}
use Rattle.morsel_load.specs.declared.load.LoadKind.TheVariants.{Morsels}
use Rattle.morsel_scan.specs.ScanColumns.{output_fields}
use Rattle.morsel_scan.specs.StretchRows.{Gives, before_fault}
use Rattle.morsel_join.specs.Sides.{KeptSide}
use Rattle.morsel_line.specs.Jobs.{Job}
use Rattle.morsel_line.specs.RowStages.{ScannedRows, FoundRows, AloneRows, GivenRows}
use Rattle.morsel_line.specs.ScanJobs.{scan_axis, job_axis}
use Rattle.morsel_scan_units.specs.LaneJobs.{LaneFor, TellsJob, lane_fields}

-- the lane carries the rows of its scan, which have these columns
pub record CarriesRows (lane : LaneFor) (columns : List Field) : Type 0 where
  pub kind : lane.kind ≡ Morsels
  pub scanned : lane.stage ≡ ScannedRows
  pub have : output_fields lane.scan.scan ≡ columns

-- these places of the scan's files give these rows, whatever the files are told to contain
abbrev pub PlacesGive : LaneFor → ℕ → ℕ → List Row → Type 0
PlacesGive lane from to rows = (job : Job) → TellsJob lane job → Gives (scan_axis job).gives from to rows

-- these are all rows of the scan before a fault, whatever its files are told to contain
abbrev pub AreScanRows : LaneFor → List Row → Type 0
AreScanRows lane rows = (job : Job) → TellsJob lane job → before_fault (scan_axis job).gives ≡ rows

-- the second lane carries what the rows of the first one's scan find on this kept side
abbrev pub FindsBetween : KeptSide → LaneFor → LaneFor → Type 0
FindsBetween side from to = (from.stage ≡ ScannedRows) × (to ≡ record from { stage = FoundRows side })

-- the second lane carries the kept rows of this side that none of the first one's rows finds
abbrev pub AloneBetween : KeptSide → LaneFor → LaneFor → Type 0
AloneBetween side from to = (from.kind ≡ Morsels) × (from.stage ≡ ScannedRows) × (to ≡ record from { stage = AloneRows side })

-- the lane carries rows, which have these columns, in whole stretches or cut
pub record CarriesCuts (lane : LaneFor) (columns : List Field) : Type 0 where
  pub kind : lane.kind ≡ Morsels
  pub have : lane_fields lane ≡ columns

-- at the end of the lane's stage the places up to one give these rows, whatever the files are told to contain
abbrev pub PlacesYield : LaneFor → ℕ → List Row → Type 0
PlacesYield lane to rows = (job : Job) → TellsJob lane job → Gives (job_axis job).gives 0 to rows

-- the lane carries the rows of one place, which are these
abbrev pub IsGivenLane : List Field → List Row → LaneFor → Type 0
IsGivenLane columns rows lane = (lane.kind ≡ Morsels) × (lane.stage ≡ GivenRows columns rows)
