-- A sender over several lanes: each value goes into one of them.
use Rattle.std.specs.Prelude.{◌+◌, ◌≡◌, ◌⊎◌, ◌<◌, ℕ, Bool, true, false, List, [], ◌∷◌, ◌++◌, length, map, slice_index_or, sum}
use Rattle.morsel_meaning.specs.declared.task.TaskNo.{TaskNo}
use Rattle.morsel_prims.specs.declared.lane.SendError.{SendError}
use Rattle.morsel_prims.specs.declared.lane.SendError.TheVariants.{Full, Closed}
use Rattle.morsel_merge.specs.declared.spread.Sent.{Sent}
use Rattle.morsel_merge.specs.Merging.{values_of_lane}

-- the values that were sent, in order
abbrev pub sent_values : {T : Type 0} → List (Sent T) → List T
sent_values log = map (λ sent. sent.value.value) log

-- the lists of the lanes are what was sent: each value went into one lane, and each lane has its own in their order
abbrev pub AreSent : {T : Type 0} → List (List T) → List (Sent T) → Type 0
AreSent lists log = (i : ℕ) → slice_index_or lists i [] ≡ values_of_lane i (map (λ sent. sent.lane) log) (sent_values log)

-- a look at a lane that sent nothing: by a board, it found so many values, or the lane full, or closed
abbrev pub IsLook : {B S : Type 0} → (B → S → S → ℕ → Type 0) → (B → S → S → Type 0) → (B → S → S → Type 0) → S → S → Type 0
IsLook held full closed old new = (board : _) × (((count : ℕ) × held board old new count) ⊎ full board old new ⊎ closed board old new)

-- looks at a lane, one after the other, after each of which the end is the next of these
abbrev pub AreLooks : {S : Type 0} → (S → S → Type 0) → S → List S → S → Type 0
AreLooks look old [] new = new ≡ old
AreLooks look old (mid ∷ mids) new = look old mid × AreLooks look mid mids new

-- nothing but looks at a lane came between
abbrev pub IsLooked : {S : Type 0} → (S → S → Type 0) → S → S → Type 0
IsLooked look old new = (mids : List _) × AreLooks look old mids new

-- after some looks, the last step at the lane found this
abbrev pub IsFoundLast : {S : Type 0} → (S → S → Type 0) → (S → S → Type 0) → S → S → Type 0
IsFoundLast look found old new = (mid : _) × IsLooked look old mid × found mid new

-- the fact holds of each lane
abbrev pub EachLane : {S : Type 0} → (S → S → Type 0) → List S → List S → Type 0
EachLane fact olds news = (lane : ℕ) (d : _) → lane < length news → fact (slice_index_or olds lane d) (slice_index_or news lane d)

-- the fact holds of one lane
abbrev pub SomeLane : {S : Type 0} → (S → S → Type 0) → List S → List S → Type 0
SomeLane fact olds news = (lane : ℕ) × (lane < length news) × ((d : _) → fact (slice_index_or olds lane d) (slice_index_or news lane d))

-- the fact holds of the last lane
abbrev pub LastLane : {S : Type 0} → (S → S → Type 0) → List S → List S → Type 0
LastLane fact olds news = (lane : ℕ) (d : _) → lane + 1 ≡ length news → fact (slice_index_or olds lane d) (slice_index_or news lane d)

-- whether the lane was full
abbrev pub is_full : {T : Type 0} → SendError T → Bool
is_full (Full value) = true
is_full (Closed value) = false

-- nothing but looks at the lanes came between: what is seen of them, and what was sent, is the same
pub record AreLookedAt {S V T : Type 0} (seen : S → V) (sent : S → List T) (look : S → S → Type 0) (olds news : List S) : Type 0 where
  pub long : length news ≡ length olds
  pub same_seen : map seen news ≡ map seen olds
  pub same_sent : map sent news ≡ map sent olds
  pub looked : EachLane (IsLooked look) olds news

-- after some looks, the last step at the lane found it full, or closed
abbrev pub IsRefusedLast : {S : Type 0} → (S → S → Type 0) → (S → S → Type 0) → (S → S → Type 0) → S → S → Type 0
IsRefusedLast look full closed old new = IsFoundLast look full old new ⊎ IsFoundLast look closed old new

-- the same lanes: what is seen of each stays
abbrev pub AreSameLanes : {S V : Type 0} → (S → V) → List S → List S → Type 0
AreSameLanes seen olds news = map seen news ≡ map seen olds

-- in one pass over the lanes none took the value, and one was full
abbrev pub AreFull : {S : Type 0} → (S → S → Type 0) → (S → S → Type 0) → (S → S → Type 0) → List S → List S → Type 0
AreFull look full closed olds news = EachLane (IsRefusedLast look full closed) olds news × SomeLane (IsFoundLast look full) olds news

-- each lane held so many values, and together so many
abbrev pub AreHeld : {S : Type 0} → (S → S → ℕ → Type 0) → List S → List S → ℕ → Type 0
AreHeld held olds news count = (counts : List ℕ) × (length counts ≡ length news) × (sum counts ≡ count) × ((lane : ℕ) (d : _) → lane < length news → held (slice_index_or olds lane d) (slice_index_or news lane d) (slice_index_or counts lane 0))

-- a poll found the lane full and registered the task there, or found it closed; before and after it there were looks
abbrev pub IsAwaited : {B S : Type 0} → (S → S → Type 0) → (B → S → S → Type 0) → (B → S → S → Type 0) → (B → S → S → TaskNo → Type 0) → TaskNo → S → S → B → Type 0
IsAwaited look full closed registered task old new board =
    (before after : _) × IsLooked look old before × IsLooked look after new × ((full board before after × registered board before after task) ⊎ closed board before after)

-- the ends of lanes, and what they left, one after the other: each was found with tasks waiting for it, and these are all of them
abbrev pub AreFoundEach : {E R : Type 0} → (E → R → List TaskNo → Type 0) → List E → List R → List TaskNo → Type 0
AreFoundEach found [] [] tasks = tasks ≡ []
AreFoundEach found [] (left ∷ lefts) tasks = ⊥
AreFoundEach found (end ∷ ends) [] tasks = ⊥
AreFoundEach found (end ∷ ends) (left ∷ lefts) tasks = (own others : List TaskNo) × (tasks ≡ own ++ others) × found end left own × AreFoundEach found ends lefts others
