-- What a line keeps out of which nothing comes.
use Rattle.std.specs.Prelude.{◌≡◌, ℕ}
use Rattle.atomic_table.specs.Seated.{TableId}
use Rattle.morsel_meaning.specs.declared.fault.Fault.{Fault}
use Rattle.morsel_prims.specs.Polled.{BoardId}
use Rattle.morsel_load.specs.declared.load.LoadKind.TheVariants.{Pieces}
use Rattle.morsel_scan_units.specs.LaneJobs.{LaneFor, IsUnitFault}
use Rattle.morsel_lane_line.specs.declared.lane_line.Feed.{Feed}
use Rattle.morsel_lane_line.specs.LaneLines.{IfOpenFeed}

-- the sending end is of this table, and for this lane
pub record FeedsKeep (table home : TableId) (lane of : LaneFor) : Type 0 where
  pub feeds_home : home ≡ table
  pub feeds_lane : of ≡ lane

-- as many tasks were spawned as there may be; the caller's end and the board are those with which they were made; the tasks whose outputs were not taken are owed, and tasks end with no faults but those that units may end with
pub record IsKeepLine {S : Type 0} (sender_home : S → TableId) (sender_lane : S → LaneFor) (spawned capacity : ℕ) (home board : BoardId) (feed : Feed S) (lane : LaneFor) (is_owed : Type 0) (may_fail : Fault → Type 0) : Type 0 where
  pub all : capacity ≡ spawned
  pub same_board : board ≡ home
  pub kind : lane.kind ≡ Pieces
  pub feed_is : IfOpenFeed feed (λ end. FeedsKeep home.lane_table (sender_home end) lane (sender_lane end))
  pub owed : is_owed
  pub fails : (fault : Fault) → may_fail fault → IsUnitFault lane fault
