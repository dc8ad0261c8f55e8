-- What the line of a scan keeps.
use Rattle.std.specs.Prelude.{◌≡◌, ℕ, Bool}
use Rattle.atomic_table.specs.Seated.{TableId}
use Rattle.morsel_meaning.specs.declared.fault.Fault.{Fault}
use Rattle.morsel_prims.specs.Polled.{BoardId}
use Rattle.morsel_pipe.specs.Pieces.{Part}
use Rattle.morsel_load.specs.Loads.{LoadSeen, SeenMorsel, SeenPiece, SeenPart}
use Rattle.morsel_load.specs.declared.load.LoadKind.TheVariants.{Pieces, Parts}
use Rattle.morsel_line.specs.RowStages.{ScannedRows}
use Rattle.morsel_scan_units.specs.LaneJobs.{LaneFor, IsUnitFault}
use Rattle.morsel_lane_line.specs.declared.lane_line.Feed.{Feed}
use Rattle.morsel_lane_line.specs.declared.lane_line.Feed.TheVariants.{Open, Closed}

-- what is seen of a line: what the lane of its parts is for, whether all was taken that came through it, how many outputs of its tasks were not taken, and whose its tasks are
pub record LineSeen (S : Type 0) : Type 0 where
  pub lane : LaneFor
  pub whole : Bool
  pub left : ℕ
  pub stage : S

-- so it is of the caller's sending end, while it is open
abbrev pub IfOpenFeed : {S : Type 0} → Feed S → (S → Type 0) → Type 0
IfOpenFeed (Open end) P = P end
IfOpenFeed Closed P = Unit {0}

-- the sending end is of this table, and for the pieces of which the lane `last` gives parts
pub record FeedsLine (table home : TableId) (lane last : LaneFor) : Type 0 where
  pub at_home : home ≡ table
  pub is_first : lane ≡ record last { kind = Pieces; stage = ScannedRows }

-- as many tasks were spawned as there may be; both ends of the caller and the board are those with which they were made; the tasks whose outputs were not taken are owed, and tasks end with no faults but those that units may end with
pub record IsLine {S : Type 0} (sender_home : S → TableId) (sender_lane : S → LaneFor) (spawned capacity : ℕ) (home board : BoardId) (parts_home : TableId) (feed : Feed S) (last : LaneFor) (is_owed : Type 0) (may_fail : Fault → Type 0) : Type 0 where
  pub all : capacity ≡ spawned
  pub same_board : board ≡ home
  pub parts : parts_home ≡ home.lane_table
  pub kind : last.kind ≡ Parts
  pub feed_is : IfOpenFeed feed (λ end. FeedsLine home.lane_table (sender_home end) (sender_lane end) last)
  pub owed : is_owed
  pub fails : (fault : Fault) → may_fail fault → IsUnitFault last fault

-- what is seen is this part, with some number
abbrev pub IsPartSeen : Part → LoadSeen → Type 0
IsPartSeen part (SeenPart seq seen) = part ≡ seen
IsPartSeen part (SeenPiece piece) = ⊥
IsPartSeen part (SeenMorsel frame seq source stretch) = ⊥
