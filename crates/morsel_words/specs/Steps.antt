-- What each step of an end makes of what its seat knows and has in hand.
use Rattle.std.specs.Prelude.{◌≡◌, ℕ, ◌≤◌, ◌==◌, if◌then◌else◌, Bool, true, false, List, [], ◌∷◌, ◌++◌, Option, Some, None}
use Rattle.atomic_table.specs.Table.{Me, Step, rest}
use Rattle.morsel_words.specs.declared.view.Found.{Found}
use Rattle.morsel_words.specs.declared.view.Found.TheVariants as found
use Rattle.morsel_words.specs.declared.view.Sending.{Sending}
use Rattle.morsel_words.specs.declared.view.Sending.TheVariants as sending
use Rattle.morsel_words.specs.declared.view.Taking.TheVariants as taking
use Rattle.morsel_words.specs.declared.view.LanePart.TheVariants as part
use Rattle.morsel_words.specs.declared.view.SendSide.{SendSide}
use Rattle.morsel_words.specs.declared.view.LaneView.{LaneView}
use Rattle.morsel_words.specs.Lane.{has_bit}

-- what is seen of an end's seat, and what it has in hand
abbrev pub AtLane : Type 0 → Type 0 → Type 0
AtLane T J = Me (Option T) (LaneView T J)

-- a sender's side, from its parts
abbrev pub send_side : {T : Type 0} → Sending → List T → ℕ → ℕ → SendSide T
send_side phase sent waits took = record { phase = phase; sent = sent; waits = waits; took = took }

-- the seat's view with this as the sender's side, and one finding more
abbrev pub noted : {T J : Type 0} → LaneView T J → SendSide T → Found → LaneView T J
noted v side found = record { part = v.part; sending = side; taking = v.taking; found = found ∷ v.found; job = v.job }

-- the same, without a finding
abbrev pub with_side : {T J : Type 0} → LaneView T J → SendSide T → LaneView T J
with_side v side = record { part = v.part; sending = side; taking = v.taking; found = v.found; job = v.job }

-- the side in another phase
abbrev pub at_phase : {T : Type 0} → SendSide T → Sending → SendSide T
at_phase s phase = send_side phase s.sent s.waits s.took

-- the values that a seat has in hand
abbrev pub in_hand : {T : Type 0} → List (ℕ × Option T) → List T
in_hand [] = []
in_hand ((k, Some x) ∷ c) = x ∷ in_hand c
in_hand ((k, None) ∷ c) = in_hand c

module _ {T J : Type 0} where
  -- a sender looks: the lane is closed, or full, or it takes the slot; by the bits closed and full
  abbrev pub looked_to_send : Bool → Bool → AtLane T J → AtLane T J
  looked_to_send true full m = (noted m.0 m.0.sending found.Closed, m.1)
  looked_to_send false true m = (noted m.0 m.0.sending found.Full, m.1)
  looked_to_send false false m = (noted m.0 (at_phase m.0.sending sending.Has) found.Room, (0, None) ∷ m.1)

  abbrev pub LooksToSend : Step (Option T) → AtLane T J → ℕ → AtLane T J → Type 0
  LooksToSend st m n m' = m' ≡ looked_to_send (has_bit n 2) (has_bit n 1) m

  -- a sender asks to be woken: the same, but at a full lane it waits
  abbrev pub looked_to_wait : Bool → Bool → AtLane T J → AtLane T J
  looked_to_wait true full m = (noted m.0 m.0.sending found.Closed, m.1)
  looked_to_wait false true m = (noted (noted m.0 m.0.sending found.Full) m.0.sending (found.Waits m.0.sending.waits), m.1)
  looked_to_wait false false m = (noted m.0 (at_phase m.0.sending sending.Has) found.Room, (0, None) ∷ m.1)

  abbrev pub LooksToWait : Step (Option T) → AtLane T J → ℕ → AtLane T J → Type 0
  LooksToWait st m n m' = m' ≡ looked_to_wait (has_bit n 2) (has_bit n 1) m

  -- a sender swaps the state to full: the receiver had closed, and it keeps the value and the slot; or the value is sent
  abbrev pub filled : Bool → Bool → AtLane T J → AtLane T J
  filled true waiting m = (noted m.0 (at_phase m.0.sending sending.Back) found.Closed, m.1)
  filled false waiting m = (noted m.0 (send_side sending.Idle (m.0.sending.sent ++ in_hand m.1) m.0.sending.waits m.0.sending.took) (found.Sent waiting), rest m.1)

  abbrev pub Fills : Step (Option T) → AtLane T J → ℕ → AtLane T J → Type 0
  Fills st m n m' = m' ≡ filled (has_bit n 2) (has_bit n 4) m

  -- a sender puts back that the receiver has closed, and gives the slot back
  abbrev pub PutsBack : Step (Option T) → AtLane T J → ℕ → AtLane T J → Type 0
  PutsBack st m n m' = m' ≡ (with_side m.0 (at_phase m.0.sending sending.Idle), rest m.1)

  -- a sender puts a number into its wait word
  abbrev pub RegistersToSend : Step (Option T) → AtLane T J → ℕ → AtLane T J → Type 0
  RegistersToSend st m n m' = m' ≡ (with_side m.0 (send_side m.0.sending.phase m.0.sending.sent st.first m.0.sending.took), m.1)

  -- a sender takes the number out of the receiver's wait word
  abbrev pub TakesWaiter : Step (Option T) → AtLane T J → ℕ → AtLane T J → Type 0
  TakesWaiter st m n m' = (n ≤ 4294967296) × (m' ≡ (noted m.0 (send_side m.0.sending.phase m.0.sending.sent m.0.sending.waits (if n == 0 then m.0.sending.took else n)) (found.Waiter n), m.1))

  -- a sender looks whether there is a value in the lane
  abbrev pub LooksForValue : Step (Option T) → AtLane T J → ℕ → AtLane T J → Type 0
  LooksForValue st m n m' = m' ≡ (noted m.0 m.0.sending (found.Held (has_bit n 1)), m.1)

-- what the first seat of a lane for this job knows: nothing was sent, and nothing taken
abbrev pub first_view : {T J : Type 0} → J → LaneView T J
first_view job = record { part = part.Both; sending = send_side sending.Idle [] 0 0; taking = record { phase = taking.Idle; taken = []; waits = 0; took = 0 }; found = []; job = Some job }

-- the seat of both ends, parted: the sender's, and the receiver's
abbrev pub sender_part : {T J : Type 0} → LaneView T J → LaneView T J
sender_part v = record { part = part.Sender; sending = v.sending; taking = v.taking; found = v.found; job = v.job }

abbrev pub receiver_part : {T J : Type 0} → LaneView T J → LaneView T J
receiver_part v = record { part = part.Receiver; sending = v.sending; taking = v.taking; found = v.found; job = v.job }
