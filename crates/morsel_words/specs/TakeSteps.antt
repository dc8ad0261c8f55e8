-- What each step of a receiver makes of what its seat knows and has in hand.
use Rattle.std.specs.Prelude.{◌≡◌, ℕ, ◌≤◌, ◌==◌, if◌then◌else◌, Bool, true, false, List, [], ◌∷◌, ◌++◌, Option, Some, None, IfSome, Result, Ok, Err}
use Rattle.atomic_table.specs.Table.{Step, rest}
use Rattle.morsel_prims.specs.declared.lane.RecvError.{RecvError}
use Rattle.morsel_prims.specs.declared.lane.RecvError.TheVariants as refusal
use Rattle.morsel_words.specs.declared.view.Found.{Found}
use Rattle.morsel_words.specs.declared.view.Found.TheVariants as found
use Rattle.morsel_words.specs.declared.view.Taking.{Taking}
use Rattle.morsel_words.specs.declared.view.Taking.TheVariants as taking
use Rattle.morsel_words.specs.declared.view.TakeSide.{TakeSide}
use Rattle.morsel_words.specs.declared.view.LaneView.{LaneView}
use Rattle.morsel_words.specs.Lane.{has_bit}
use Rattle.morsel_words.specs.Steps.{AtLane}

-- a receiver's side, from its parts
abbrev pub take_side : {T : Type 0} → Taking T → List T → ℕ → ℕ → TakeSide T
take_side phase taken waits took = record { phase = phase; taken = taken; waits = waits; took = took }

-- the side in another phase
abbrev pub takes_at : {T : Type 0} → TakeSide T → Taking T → TakeSide T
takes_at t phase = take_side phase t.taken t.waits t.took

-- the seat's view with this as the receiver's side, and these findings
abbrev pub take_seen_as : {T J : Type 0} → LaneView T J → TakeSide T → List Found → LaneView T J
take_seen_as v side fs = record { part = v.part; sending = v.sending; taking = side; found = fs; job = v.job }

-- the same with one finding more, and with none
abbrev pub take_noted : {T J : Type 0} → LaneView T J → TakeSide T → Found → LaneView T J
take_noted v side found = take_seen_as v side (found ∷ v.found)

abbrev pub with_taking : {T J : Type 0} → LaneView T J → TakeSide T → LaneView T J
with_taking v side = take_seen_as v side v.found

-- the value that a receiver has taken out of the lane and not yet said to be taken, as a list
abbrev pub lent_list : {T : Type 0} → Taking T → List T
lent_list (taking.Has x) = x ∷ []
lent_list t = []

module _ {T J : Type 0} where
  -- what a receiver has found once it found the lane open and empty; and once it has asked to be woken there
  abbrev pub found_empty : LaneView T J → List Found
  found_empty v = found.Empty ∷ v.found

  abbrev pub found_and_waits : LaneView T J → List Found
  found_and_waits v = found.Waits v.taking.waits ∷ found.Empty ∷ v.found

  -- a receiver swaps the state to empty: the sender had ended, and the receiver has to put that back; or the lane is open
  abbrev pub emptied : Bool → Bool → Bool → AtLane T J → AtLane T J
  emptied true whole waiting m = (take_noted m.0 (take_side (taking.Owes whole) (m.0.taking.taken ++ lent_list m.0.taking.phase) m.0.taking.waits m.0.taking.took) (found.Took waiting), rest m.1)
  emptied false whole waiting m = (take_noted m.0 (take_side taking.Idle (m.0.taking.taken ++ lent_list m.0.taking.phase) m.0.taking.waits m.0.taking.took) (found.Took waiting), rest m.1)

  abbrev pub Empties : Step (Option T) → AtLane T J → ℕ → AtLane T J → Type 0
  Empties st m n m' = m' ≡ emptied (has_bit n 2) (has_bit n 8) (has_bit n 4) m

  -- a receiver puts back that the sender has ended
  abbrev pub PutsBackEnd : Step (Option T) → AtLane T J → ℕ → AtLane T J → Type 0
  PutsBackEnd st m n m' = m' ≡ (with_taking m.0 (takes_at m.0.taking taking.Idle), m.1)

  -- a receiver puts a number into its wait word
  abbrev pub registered_to_take : ℕ → AtLane T J → AtLane T J
  registered_to_take number m = (with_taking m.0 (take_side m.0.taking.phase m.0.taking.taken number m.0.taking.took), m.1)

  abbrev pub RegistersToTake : Step (Option T) → AtLane T J → ℕ → AtLane T J → Type 0
  RegistersToTake st m n m' = m' ≡ registered_to_take st.first m

  -- a receiver takes the number out of the sender's wait word
  abbrev pub TakesSender : Step (Option T) → AtLane T J → ℕ → AtLane T J → Type 0
  TakesSender st m n m' = (n ≤ 4294967296) × (m' ≡ (take_noted m.0 (take_side m.0.taking.phase m.0.taking.taken m.0.taking.waits (if n == 0 then m.0.taking.took else n)) (found.Waiter n), m.1))

module _ {T J : Type 0} (suits : J → T → Type 0) where
  -- a receiver looks: it takes the slot of a full lane, with a value that suits the job; or the sender has ended; or the lane is open and empty, and then these are the findings. By the bits full, closed and whole
  abbrev pub LookedToTake : List Found → Bool → Bool → Bool → AtLane T J → AtLane T J → Type 0
  LookedToTake fs true closed whole m m' = (x : T) × IfSome m.0.job (λ j. suits j x) × (m' ≡ (take_noted m.0 (takes_at m.0.taking (taking.Has x)) (found.Held true), (0, Some x) ∷ m.1))
  LookedToTake fs false true whole m m' = m' ≡ (take_noted m.0 (takes_at m.0.taking (taking.Done whole)) (found.Ended whole), m.1)
  LookedToTake fs false false whole m m' = m' ≡ (take_seen_as m.0 m.0.taking fs, m.1)

  abbrev pub LooksToTake : Step (Option T) → AtLane T J → ℕ → AtLane T J → Type 0
  LooksToTake st m n m' = LookedToTake (found_empty m.0) (has_bit n 1) (has_bit n 2) (has_bit n 8) m m'

  -- a receiver asks to be woken: the same, but at an empty lane it waits
  abbrev pub AsksToTake : Step (Option T) → AtLane T J → ℕ → AtLane T J → Type 0
  AsksToTake st m n m' = LookedToTake (found_and_waits m.0) (has_bit n 1) (has_bit n 2) (has_bit n 8) m m'

  -- what a look at a lane for this job has answered: the value of a full lane, out of the slot, which the receiver has; or why there is none
  abbrev pub AnsweredLook : J → List Found → AtLane T J → Result T RecvError → AtLane T J → Type 0
  AnsweredLook job fs m (Ok x) m' = suits job x × (m' ≡ (take_noted m.0 (takes_at m.0.taking (taking.Has x)) (found.Held true), (0, None) ∷ m.1))
  AnsweredLook job fs m (Err refusal.Empty) m' = m' ≡ (take_seen_as m.0 m.0.taking fs, m.1)
  AnsweredLook job fs m (Err refusal.Whole) m' = m' ≡ (take_noted m.0 (takes_at m.0.taking (taking.Done true)) (found.Ended true), m.1)
  AnsweredLook job fs m (Err refusal.Cut) m' = m' ≡ (take_noted m.0 (takes_at m.0.taking (taking.Done false)) (found.Ended false), m.1)

-- why there is no value in a lane that is not full, by the bits closed and whole
abbrev pub why_no_value : Bool → Bool → RecvError
why_no_value true true = refusal.Whole
why_no_value true false = refusal.Cut
why_no_value false whole = refusal.Empty
