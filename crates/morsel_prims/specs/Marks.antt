-- What is in a lane's two lists, and how the lists and the queue of a lane agree.
use Rattle.std.specs.Prelude.{◌≡◌, ◌≢◌, ℕ, ◌+◌, ◌*◌, ◌≤◌, Bool, true, false, List, [], ◌∷◌, ◌++◌, length, slice_index_or, slice_get, Option, None, Some}
use Rattle.morsel_meaning.specs.declared.task.TaskNo.{TaskNo}
use Rattle.std.specs.declared.snapshot.Snapshot.{Snapshot}
use Rattle.morsel_prims.specs.declared.plain_item.Mark.{Mark}
use Rattle.morsel_prims.specs.declared.plain_item.Mark.TheVariants.{Job, Value, End, Shut}
use Rattle.morsel_prims.specs.declared.plain_item.PlainLane.{PlainLane}

-- the values, in their order
abbrev pub lane_values : {A J : Type 0} → List (Mark (A × J) J) → List A
lane_values [] = []
lane_values (Job j r ∷ marks) = lane_values marks
lane_values (Value p ∷ marks) = p.0 ∷ lane_values marks
lane_values (End w ∷ marks) = lane_values marks
lane_values (Shut ∷ marks) = lane_values marks

-- neither end has closed, as far as this list tells
abbrev pub is_unclosed : {A J : Type 0} → List (Mark (A × J) J) → Bool
is_unclosed [] = true
is_unclosed (Job j r ∷ marks) = is_unclosed marks
is_unclosed (Value p ∷ marks) = is_unclosed marks
is_unclosed (End w ∷ marks) = false
is_unclosed (Shut ∷ marks) = false

-- the receiver has closed
abbrev pub is_shut : {A J : Type 0} → List (Mark (A × J) J) → Bool
is_shut [] = false
is_shut (Job j r ∷ marks) = is_shut marks
is_shut (Value p ∷ marks) = is_shut marks
is_shut (End w ∷ marks) = is_shut marks
is_shut (Shut ∷ marks) = true

-- nothing but values and ends
abbrev pub are_sendable : {A J : Type 0} → List (Mark (A × J) J) → Bool
are_sendable [] = true
are_sendable (Job j r ∷ marks) = false
are_sendable (Value p ∷ marks) = are_sendable marks
are_sendable (End w ∷ marks) = are_sendable marks
are_sendable (Shut ∷ marks) = false

-- what the lane is for
abbrev pub lane_job : {A J : Type 0} → List (Mark (A × J) J) → Option J
lane_job [] = None
lane_job (Job j r ∷ marks) = Some j.value
lane_job (Value p ∷ marks) = None
lane_job (End w ∷ marks) = None
lane_job (Shut ∷ marks) = None

-- for how many values the lane has room
abbrev pub lane_room : {A J : Type 0} → List (Mark (A × J) J) → Option ℕ
lane_room [] = None
lane_room (Job j r ∷ marks) = Some r
lane_room (Value p ∷ marks) = None
lane_room (End w ∷ marks) = None
lane_room (Shut ∷ marks) = None

-- the same marks, each value for this job
abbrev pub with_job : {A J : Type 0} → J → List (Mark (A × J) J) → List (Mark (A × J) J)
with_job job [] = []
with_job job (Job j r ∷ marks) = Job j r ∷ with_job job marks
with_job job (Value p ∷ marks) = Value (p.0, job) ∷ with_job job marks
with_job job (End w ∷ marks) = End w ∷ with_job job marks
with_job job (Shut ∷ marks) = Shut ∷ with_job job marks

-- what came before the receiver closed
abbrev pub before_shut : {A J : Type 0} → List (Mark (A × J) J) → List (Mark (A × J) J)
before_shut [] = []
before_shut (Job j r ∷ marks) = Job j r ∷ before_shut marks
before_shut (Value p ∷ marks) = Value p ∷ before_shut marks
before_shut (End w ∷ marks) = End w ∷ before_shut marks
before_shut (Shut ∷ marks) = []

-- nothing comes after the sender has closed
abbrev pub is_closed_last : {A J : Type 0} → List (Mark (A × J) J) → Bool
is_closed_last [] = true
is_closed_last (Job j r ∷ marks) = is_closed_last marks
is_closed_last (Value p ∷ marks) = is_closed_last marks
is_closed_last (End w ∷ []) = true
is_closed_last (End w ∷ mark ∷ marks) = false
is_closed_last (Shut ∷ marks) = false

-- how the sender has closed, as whole or as cut; none where the receiver has closed before
abbrev pub lane_end : {A J : Type 0} → List (Mark (A × J) J) → Option Bool
lane_end [] = None
lane_end (Job j r ∷ marks) = lane_end marks
lane_end (Value p ∷ marks) = lane_end marks
lane_end (End w ∷ marks) = Some w
lane_end (Shut ∷ marks) = None

-- whether the sender has closed so
abbrev pub is_closed_as : Option Bool → Bool → Bool
is_closed_as None whole = false
is_closed_as (Some true) whole = whole
is_closed_as (Some false) true = false
is_closed_as (Some false) false = true

-- each value is for this job
abbrev pub AreFor : {A J : Type 0} → J → List (Mark (A × J) J) → Type 0
AreFor job marks = with_job job marks ≡ marks

-- what was sent is what was taken before the receiver closed, and then what the queue has
pub record IsPlainLane {A J : Type 0} (sent taken : List (Mark (A × J) J)) (lane : PlainLane (A × J) J) : Type 0 where
  pub shut : lane.shut ≡ is_shut taken
  pub queue : sent ≡ before_shut taken ++ lane.queue.items
  pub jobs : (job : J) → lane_job sent ≡ Some job → AreFor job sent
  pub sendable : are_sendable lane.queue.items ≡ true
  pub room : (room : ℕ) → lane_room sent ≡ Some room → lane.room ≡ room
  pub capacity : lane.queue.capacity ≡ lane.room + 1
  pub closed_last : is_closed_last sent ≡ true
  -- until the sender closes the queue has values alone, at most as many as there is room for
  pub closes : is_unclosed sent ≡ true → length lane.queue.items ≤ lane.room
  -- also beside the sender's end the queue has at most so many values
  pub fits : length (lane_values lane.queue.items) ≤ lane.room

-- what the sender of lane i wrote
abbrev pub sent_row : {M : Type 0} → List (List M) → ℕ → List M
sent_row rows i = slice_index_or rows (2 * i) []

-- what the receiver of lane i wrote
abbrev pub taken_row : {M : Type 0} → List (List M) → ℕ → List M
taken_row rows i = slice_index_or rows (2 * i + 1) []

-- the lists of lane i are rows 2i and 2i + 1
abbrev pub ArePlainLanes : {A J : Type 0} → List (List (Mark (A × J) J)) → List (PlainLane (A × J) J) → Type 0
ArePlainLanes rows lanes = (length rows ≡ 2 * length lanes) × ((i : ℕ) (lane : PlainLane _ _) → slice_get lanes i ≡ Some lane → IsPlainLane (sent_row rows i) (taken_row rows i) lane)

-- at most lane i has changed
abbrev pub OnlyLane : {V J : Type 0} → ℕ → List (PlainLane V J) → List (PlainLane V J) → Type 0
OnlyLane i old new = (j : ℕ) → j ≢ i → slice_get new j ≡ slice_get old j

-- the lane is as before but for who waits to send
abbrev pub WaitsToSend : {V J : Type 0} → Option (PlainLane V J) → Option (PlainLane V J) → Type 0
WaitsToSend old new = (lane : PlainLane _ _) → old ≡ Some lane → (now : PlainLane _ _) × (new ≡ Some now) × (now.shut ≡ lane.shut) × (now.room ≡ lane.room) × (now.queue ≡ lane.queue) × (now.recv_waits ≡ lane.recv_waits)

-- the lane is as before but for who waits to take
abbrev pub WaitsToTake : {V J : Type 0} → Option (PlainLane V J) → Option (PlainLane V J) → Type 0
WaitsToTake old new = (lane : PlainLane _ _) → old ≡ Some lane → (now : PlainLane _ _) × (new ≡ Some now) × (now.shut ≡ lane.shut) × (now.room ≡ lane.room) × (now.queue ≡ lane.queue) × (now.send_waits ≡ lane.send_waits)

-- what an end of a new lane has written: what the lane is for, and its room
abbrev pub IsNewRow : {A J : Type 0} → J → ℕ → List (Mark (A × J) J) → Type 0
IsNewRow job room marks = (told : Snapshot _) × (told.value ≡ job) × (marks ≡ Job told room ∷ [])

-- the lane is open, and has at most its room
abbrev pub HasRoom : {V J : Type 0} → Option (PlainLane V J) → Type 0
HasRoom lane = (it : PlainLane _ _) × (lane ≡ Some it) × (it.shut ≡ false) × (length it.queue.items ≤ it.room)

-- the lane is open and full
abbrev pub IsFullLane : {V J : Type 0} → Option (PlainLane V J) → Type 0
IsFullLane lane = (it : PlainLane _ _) × (lane ≡ Some it) × (it.shut ≡ false) × (it.room ≤ length it.queue.items)

-- the receiver of the lane has closed
abbrev pub IsShutLane : {V J : Type 0} → Option (PlainLane V J) → Type 0
IsShutLane lane = (it : PlainLane _ _) × (lane ≡ Some it) × (it.shut ≡ true)

-- there is nothing in the lane
abbrev pub IsEmptyLane : {V J : Type 0} → Option (PlainLane V J) → Type 0
IsEmptyLane lane = (it : PlainLane _ _) × (lane ≡ Some it) × (it.queue.items ≡ [])

-- the task that waits for the receiver of a lane to take a value
abbrev pub send_waits_of : {V J : Type 0} → Option (PlainLane V J) → Option TaskNo
send_waits_of None = None
send_waits_of (Some lane) = lane.send_waits

-- the task that waits for the sender of a lane to send a value
abbrev pub recv_waits_of : {V J : Type 0} → Option (PlainLane V J) → Option TaskNo
recv_waits_of None = None
recv_waits_of (Some lane) = lane.recv_waits
