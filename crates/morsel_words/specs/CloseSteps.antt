-- What each step of the close makes of what a seat knows.
use Rattle.std.specs.Prelude.{◌≡◌, ℕ, Bool, true, false, [], Option, None}
use Rattle.atomic_table.specs.Table.{Step}
use Rattle.morsel_words.specs.declared.view.Found.TheVariants as found
use Rattle.morsel_words.specs.declared.view.Sending.TheVariants as sending
use Rattle.morsel_words.specs.declared.view.Taking.TheVariants as taking
use Rattle.morsel_words.specs.declared.view.LanePart.TheVariants as part
use Rattle.morsel_words.specs.declared.view.LaneView.{LaneView}
use Rattle.morsel_words.specs.Lane.{has_bit}
use Rattle.morsel_words.specs.Steps.{AtLane, send_side, noted, at_phase}
use Rattle.morsel_words.specs.TakeSteps.{take_side, takes_at, take_noted}

-- whether the receiver waits, and whether the sender does, by the bits full and waiting
abbrev pub awaits_value : Bool → Bool → Bool
awaits_value true waiting = false
awaits_value false waiting = waiting

abbrev pub awaits_room : Bool → Bool → Bool
awaits_room true waiting = waiting
awaits_room false waiting = false

module _ {T J : Type 0} where
  -- a sender closes, as whole or as cut
  abbrev pub EndsSending : Bool → Step (Option T) → AtLane T J → ℕ → AtLane T J → Type 0
  EndsSending whole st m n m' = m' ≡ (noted m.0 (at_phase m.0.sending (sending.Ended whole)) (found.Closing (awaits_value (has_bit n 1) (has_bit n 4))), m.1)

  -- a receiver closes
  abbrev pub EndsTaking : Step (Option T) → AtLane T J → ℕ → AtLane T J → Type 0
  EndsTaking st m n m' = m' ≡ (take_noted m.0 (takes_at m.0.taking taking.Shut) (found.Closing (awaits_room (has_bit n 1) (has_bit n 4))), m.1)

  -- the seat of both ends finds that what was sent is what was taken
  abbrev pub FindsAgreed : Step (Option T) → AtLane T J → ℕ → AtLane T J → Type 0
  FindsAgreed st m n m' = (m' ≡ m) × (m.0.sending.sent ≡ m.0.taking.taken)

-- the seats of both ends come together in one; the other is spent
abbrev pub joined_view : {T J : Type 0} → LaneView T J → LaneView T J → LaneView T J
joined_view v w = record { part = part.Both; sending = v.sending; taking = w.taking; found = v.found; job = w.job }

abbrev pub spent_view : {T J : Type 0} → LaneView T J
spent_view = record { part = part.Spent; sending = send_side sending.Idle [] 0 0; taking = take_side taking.Idle [] 0 0; found = []; job = None }
