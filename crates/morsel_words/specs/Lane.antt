-- The rule of a lane between threads: how the state word, the slot and the two wait words agree with what the two ends know.
use Rattle.std.specs.Prelude.{◌≡◌, ◌⊎◌, ℕ, ◌+◌, ◌≤◌, ◌==◌, Bool, true, false, not, cond, List, [], ◌∷◌, ◌++◌, length, slice_index, Contains, Option, Some, None, bit_and}
use mathlib.Core.Option as maybe
use mathlib.Core.Option.{some, none}
use lib.ListN.{get_elem?}
use Rattle.atomic_table.specs.Table.{State}
use Rattle.morsel_words.specs.declared.view.Sending.{Sending}
use Rattle.morsel_words.specs.declared.view.Sending.TheVariants as sending
use Rattle.morsel_words.specs.declared.view.Taking.{Taking}
use Rattle.morsel_words.specs.declared.view.Taking.TheVariants as taking
use Rattle.morsel_words.specs.declared.view.SendSide.{SendSide}
use Rattle.morsel_words.specs.declared.view.TakeSide.{TakeSide}
use Rattle.morsel_words.specs.declared.view.LanePart.{LanePart}
use Rattle.morsel_words.specs.declared.view.LanePart.TheVariants as part
use Rattle.morsel_words.specs.declared.view.LaneView.{LaneView}

-- the state word with these bits: full 1, closed 2, waiting 4, whole 8
abbrev pub state_word : Bool → Bool → Bool → Bool → ℕ
state_word full closed waiting whole = cond full 1 0 + cond closed 2 0 + cond waiting 4 0 + cond whole 8 0

-- whether the word has this bit
abbrev pub has_bit : ℕ → ℕ → Bool
has_bit word bit = not (bit_and word bit == 0)

-- whether the state word says closed, and whether it says whole; an end that owes these bits has put a word without them
abbrev pub closes : {T : Type 0} → Sending → Taking T → Bool × Bool
closes sending.Back t = (false, false)
closes s (taking.Owes w) = (false, false)
closes (sending.Ended w) t = (true, w)
closes s taking.Shut = (true, false)
closes s t = (false, false)

-- the slot is at home with the one value that was sent and not taken
abbrev pub HoldsOne : {T : Type 0} → maybe.Option (Option T) → List T → List T → Type 0
HoldsOne home sent taken = (x : _) × (home ≡ some (Some x)) × (sent ≡ taken ++ x ∷ [])

-- the slot is with the receiver, which has this value, and has not yet said that it took it
abbrev pub LendsOne : {T : Type 0} → T → maybe.Option (Option T) → List T → List T → Type 0
LendsOne x home sent taken = (home ≡ none) × (sent ≡ taken ++ x ∷ [])

-- the slot is at home and empty, and all that was sent was taken
abbrev pub HoldsNone : {T : Type 0} → maybe.Option (Option T) → List T → List T → Type 0
HoldsNone home sent taken = (home ≡ some None) × (sent ≡ taken)

-- the slot is with the sender, and all that was sent was taken
abbrev pub LendsNone : {T : Type 0} → maybe.Option (Option T) → List T → List T → Type 0
LendsNone home sent taken = (home ≡ none) × (sent ≡ taken)

-- where the slot is, and what was sent and not taken: by the bit full, the sender, and the receiver
abbrev pub Between : {T : Type 0} → Bool → Sending → Taking T → maybe.Option (Option T) → List T → List T → Type 0
Between true sending.Idle taking.Idle = HoldsOne
Between true sending.Idle taking.Shut = HoldsOne
Between true sending.Idle (taking.Has x) = LendsOne x
Between true (sending.Ended w) taking.Idle = HoldsOne
Between true (sending.Ended w) taking.Shut = HoldsOne
Between true (sending.Ended w) (taking.Has x) = LendsOne x
Between true sending.Back taking.Shut = LendsNone
Between false sending.Idle taking.Idle = HoldsNone
Between false sending.Idle taking.Shut = HoldsNone
Between false sending.Has taking.Idle = LendsNone
Between false sending.Has taking.Shut = LendsNone
Between false (sending.Ended w) taking.Idle = HoldsNone
Between false (sending.Ended w) taking.Shut = HoldsNone
Between false (sending.Ended w) (taking.Owes v) = λ home sent taken. HoldsNone home sent taken × (v ≡ w)
Between false (sending.Ended w) (taking.Done v) = λ home sent taken. HoldsNone home sent taken × (v ≡ w)
Between full s t = λ home sent taken. Unit {0} → ⊥

-- a wait word has the number that its end put there last; or 0, and then the other end took that number
abbrev pub IsWaitWord : ℕ → ℕ → ℕ → Type 0
IsWaitWord word waits took = (word ≤ 4294967296) × ((word ≡ waits) ⊎ ((word ≡ 0) × (took ≡ waits)))

-- what a seat knows is so: only one seat is the sender, and only one the receiver
abbrev pub KnowsLane : {T : Type 0} → SendSide T → TakeSide T → ℕ → ℕ → LanePart → ℕ → SendSide T → TakeSide T → Type 0
KnowsLane s t sender receiver part.Sender id p q = (id ≡ sender) × (p ≡ s)
KnowsLane s t sender receiver part.Receiver id p q = (id ≡ receiver) × (q ≡ t)
KnowsLane s t sender receiver part.Both id p q = (id ≡ sender) × (id ≡ receiver) × (p ≡ s) × (q ≡ t)
KnowsLane s t sender receiver part.Spent id p q = Unit {0}

-- what a seat that is an end says that the lane is for
abbrev pub KnowsJob : {J : Type 0} → J → LanePart → Option J → Type 0
KnowsJob job part.Spent known = Unit {0}
KnowsJob job which known = known ≡ Some job

-- the rule: of values that suit the lane's job, and of the words, the slot and all seats of the table
pub record IsLane {T J : Type 0} (suits : J → T → Type 0) (job : J) (z : State (Option T) (LaneView T J)) : Type 0 where
  pub full : Bool
  pub waiting : Bool
  pub sending : SendSide T
  pub taking : TakeSide T
  pub sender : ℕ
  pub receiver : ℕ
  pub home : maybe.Option (Option T)
  pub wide : length z.words ≡ 3
  pub state : slice_index z.words 0 ≡ state_word full (closes sending.phase taking.phase).0 waiting (closes sending.phase taking.phase).1
  pub send_waits : IsWaitWord (slice_index z.words 1) sending.waits taking.took
  pub take_waits : IsWaitWord (slice_index z.words 2) taking.waits sending.took
  pub slot : z.homes ≡ home ∷ []
  pub between : Between full sending.phase taking.phase home sending.sent taking.taken
  pub suited : (x : T) → Contains sending.sent x → suits job x
  pub seats : (id : ℕ) (v : LaneView T J) → get_elem? z.views id ≡ some v → KnowsJob job v.part v.job × KnowsLane sending taking sender receiver v.part id v.sending v.taking
