-- What is seen of the ends of several lanes, but for what was sent and taken.
use Rattle.std.specs.Prelude.{◌≡◌, ℕ, Bool, false, List, []}
use Rattle.atomic_table.specs.Seated.{TableId}
use Rattle.morsel_prims.specs.Polled.{LaneId}
use Rattle.morsel_prims.specs.Waiting.{WaitPlace}

-- of a receiving end: the table of its board, its lane, what the lane is for, and where it may wait
pub record ReceiverSeen (J : Type 0) : Type 0 where
  pub home : TableId
  pub lane : LaneId
  pub job : J
  pub places : List WaitPlace

abbrev pub receiver_seen : {R J : Type 0} → (R → TableId) → (R → LaneId) → (R → J) → (R → List WaitPlace) → R → ReceiverSeen J
receiver_seen home lane job places end = record { home = home end; lane = lane end; job = job end; places = places end }

-- a sending end on this board, for this job, with this room, through which nothing was sent
abbrev pub IsNewSender : {S J T : Type 0} → (S → TableId) → (S → J) → (S → ℕ) → (S → List T) → TableId → J → ℕ → S → Type 0
IsNewSender home job room sent table for places end = (home end ≡ table) × (job end ≡ for) × (room end ≡ places) × (sent end ≡ [])

-- a receiving end on this board, for this job, that has taken nothing and has not ended
abbrev pub IsNewReceiver : {R J T : Type 0} → (R → TableId) → (R → J) → (R → List T) → (R → Bool) → (R → Bool) → TableId → J → R → Type 0
IsNewReceiver home job taken whole cut table for end = (home end ≡ table) × (job end ≡ for) × (taken end ≡ []) × (whole end ≡ false) × (cut end ≡ false)

-- of a sending end: the table of its board, its lane, its room, what the lane is for, and where it may wait
pub record SenderSeen (J : Type 0) : Type 0 where
  pub home : TableId
  pub lane : LaneId
  pub room : ℕ
  pub job : J
  pub places : List WaitPlace

abbrev pub sender_seen : {S J : Type 0} → (S → TableId) → (S → LaneId) → (S → ℕ) → (S → J) → (S → List WaitPlace) → S → SenderSeen J
sender_seen home lane room job places end = record { home = home end; lane = lane end; room = room end; job = job end; places = places end }
