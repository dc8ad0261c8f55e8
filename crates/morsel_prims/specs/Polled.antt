-- Which board, lane or group it is, the history of a lane, and what polls and calls on the ends of lanes answer.
use Rattle.std.specs.Prelude.{◌≡◌, ℕ, ◌≤◌, List, [], ◌∷◌, ◌++◌, length, ⊤, Option, None, Some, Result, Ok, Err}
use Rattle.atomic_table.specs.Seated.{TableId}
use Rattle.morsel_prims.specs.declared.poll.Poll.{Poll}
use Rattle.morsel_prims.specs.declared.poll.Poll.TheVariants.{Ready, Pending}
use Rattle.morsel_prims.specs.declared.lane.SendError.{SendError}
use Rattle.morsel_prims.specs.declared.lane.SendError.TheVariants.{Full, Closed}
use Rattle.morsel_prims.specs.declared.lane.RecvError.{RecvError}
use Rattle.morsel_prims.specs.declared.lane.RecvError.TheVariants.{Empty, Whole, Cut}
use Rattle.morsel_prims.specs.declared.lane.Ended.{Ended}

-- which board it is: the table of its lanes, and that of its groups
pub record BoardId : Type 0 where
  pub lane_table : TableId
  pub group_table : TableId

-- the identity of no table
abbrev pub no_table : TableId
no_table = record { words = 0; slots = 0; views_name = 0; atom = 0; block = 0; offset = 0; slot_names = [] }

-- the one identity of the board `()`: its lanes and groups have tables of their own
abbrev pub shared_board : BoardId
shared_board = record { lane_table = no_table; group_table = no_table }

-- which lane or group it is: a table, and its place there; in shared memory the table is its own
pub record LaneId : Type 0 where
  pub table : TableId
  pub place : ℕ

-- what was taken is the beginning of what was sent, and the rest is at most the room
abbrev pub LaneHistory : {T : Type 0} → List T → List T → ℕ → Type 0
LaneHistory sent taken room = (rest : List _) × (sent ≡ taken ++ rest) × (length rest ≤ room)

-- the fact holds of the value, where there is one
abbrev pub IfReady : {A : Type 0} → Poll A → (A → Type 0) → Type 0
IfReady (Ready x) P = P x
IfReady Pending P = ⊤

-- the fact holds where there is no value yet
abbrev pub OnPending : {A : Type 0} → Poll A → Type 0 → Type 0
OnPending (Ready x) P = ⊤
OnPending Pending P = P

-- what is held, as a list
abbrev pub held_list : {T : Type 0} → Option T → List T
held_list None = []
held_list (Some x) = x ∷ []

-- the value that comes back
abbrev pub refused_value : {T : Type 0} → SendError T → T
refused_value (Full x) = x
refused_value (Closed x) = x

-- the fact holds where the lane was full
abbrev pub IfFull : {T : Type 0} → SendError T → Type 0 → Type 0
IfFull (Full x) P = P
IfFull (Closed x) P = ⊤

-- the fact holds where the receiver had closed
abbrev pub IfClosed : {T : Type 0} → SendError T → Type 0 → Type 0
IfClosed (Full x) P = ⊤
IfClosed (Closed x) P = P

-- the fact holds unless the receiver had closed
abbrev pub UnlessClosed : {A T : Type 0} → Poll (Result A T) → Type 0 → Type 0
UnlessClosed (Ready (Ok a)) P = P
UnlessClosed (Ready (Err x)) P = ⊤
UnlessClosed Pending P = P

-- the fact for why nothing was received
abbrev pub ByRefusal : RecvError → Type 0 → Type 0 → Type 0 → Type 0
ByRefusal Empty E W C = E
ByRefusal Whole E W C = W
ByRefusal Cut E W C = C

-- the fact for how the lane ended
abbrev pub ByEnd : Ended → Type 0 → Type 0 → Type 0
ByEnd Ended.Whole W C = W
ByEnd Ended.Cut W C = C
