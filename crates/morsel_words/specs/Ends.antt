-- What is seen of an end of a lane between threads.
use Rattle.std.specs.Prelude.{◌≡◌, true, false, List, [], Option, None, Some}
use Rattle.atomic_table.specs.Seated.{TableId}
use Rattle.atomic_table.specs.declared.shared.Seat.{Seat}
use Rattle.morsel_prims.specs.declared.lane.RecvError.{RecvError}
use Rattle.morsel_prims.specs.declared.lane.Ended.{Ended}
use Rattle.morsel_words.specs.declared.view.Found.{Found}
use Rattle.morsel_words.specs.declared.view.Sending.TheVariants as sending
use Rattle.morsel_words.specs.declared.view.Taking.{Taking}
use Rattle.morsel_words.specs.declared.view.Taking.TheVariants as taking
use Rattle.morsel_words.specs.declared.view.LanePart.TheVariants as part
use Rattle.morsel_words.specs.declared.view.LaneView.{LaneView}

-- a sender: its lane's table, what the lane is for, what was sent, and what its steps found, the last one first
pub record SendSeen (T J : Type 0) : Type 0 where
  pub table : TableId
  pub job : J
  pub sent : List T
  pub found : List Found

module _ {T J : Type 0} where
  abbrev pub send_seen : J → Seat (Option T) (LaneView T J) → SendSeen T J
  send_seen job seat = record { table = seat.table_id; job = job; sent = seat.me.0.sending.sent; found = seat.me.0.found }

  -- the seat is the sender's at this table, and is between calls
  pub record IsSender (table : TableId) (seat : Seat (Option T) (LaneView T J)) : Type 0 where
    pub words : table.words ≡ 3
    pub seated : seat.table_id ≡ table
    pub part : seat.me.0.part ≡ part.Sender
    pub idle : seat.me.0.sending.phase ≡ sending.Idle
    pub empty : seat.me.1 ≡ []

-- a receiver: its lane's table, what the lane is for, what was taken, how it has found the lane ended, and what its steps found, the last one first
pub record TakeSeen (T J : Type 0) : Type 0 where
  pub table : TableId
  pub job : J
  pub taken : List T
  pub ended : Option Ended
  pub found : List Found

-- where a receiver is that has found the lane ended so
abbrev pub phase_at : {T : Type 0} → Option Ended → Taking T
phase_at None = taking.Idle
phase_at (Some Ended.Whole) = taking.Done true
phase_at (Some Ended.Cut) = taking.Done false

-- what it answers then
abbrev pub answer_at : Ended → RecvError
answer_at Ended.Whole = RecvError.Whole
answer_at Ended.Cut = RecvError.Cut

module _ {T J : Type 0} where
  abbrev pub take_seen : J → Option Ended → Seat (Option T) (LaneView T J) → TakeSeen T J
  take_seen job ended seat = record { table = seat.table_id; job = job; taken = seat.me.0.taking.taken; ended = ended; found = seat.me.0.found }

  -- the seat is the receiver's at this table, and is between calls
  pub record IsReceiver (table : TableId) (job : J) (ended : Option Ended) (seat : Seat (Option T) (LaneView T J)) : Type 0 where
    pub words : table.words ≡ 3
    pub seated : seat.table_id ≡ table
    pub part : seat.me.0.part ≡ part.Receiver
    pub purpose : seat.me.0.job ≡ Some job
    pub phase : seat.me.0.taking.phase ≡ phase_at ended
    pub empty : seat.me.1 ≡ []

-- a receipt of a sender: its lane's table, all that was sent, and what its steps found, the last one first
pub record SentSeen (T : Type 0) : Type 0 where
  pub table : TableId
  pub sent : List T
  pub found : List Found

-- a receipt of a receiver: its lane's table, and all that was taken
pub record TakenSeen (T : Type 0) : Type 0 where
  pub table : TableId
  pub taken : List T

module _ {T J : Type 0} where
  abbrev pub sent_seen : Seat (Option T) (LaneView T J) → SentSeen T
  sent_seen seat = record { table = seat.table_id; sent = seat.me.0.sending.sent; found = seat.me.0.found }

  -- the seat is that of a sender which has finished the lane of this table
  pub record IsSent (table : TableId) (seat : Seat (Option T) (LaneView T J)) : Type 0 where
    pub words : table.words ≡ 3
    pub seated : seat.table_id ≡ table
    pub part : seat.me.0.part ≡ part.Sender
    pub over : seat.me.0.sending.phase ≡ sending.Ended true
    pub empty : seat.me.1 ≡ []

  abbrev pub taken_seen : Seat (Option T) (LaneView T J) → TakenSeen T
  taken_seen seat = record { table = seat.table_id; taken = seat.me.0.taking.taken }

  -- the seat is that of a receiver which has found that its lane ended whole
  pub record IsTaken (seat : Seat (Option T) (LaneView T J)) : Type 0 where
    pub part : seat.me.0.part ≡ part.Receiver
    pub over : seat.me.0.taking.phase ≡ taking.Done true
    pub empty : seat.me.1 ≡ []
