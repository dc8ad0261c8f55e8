-- What the tasks of a pipe do.
use Rattle.std.specs.Prelude.{◌≡◌, ◌↔◌, All, List, [], ◌∷◌, ◌++◌, map, Option, None, Some, IfSome}
use Rattle.std.specs.Ordering.{nat_cmp}
use Rattle.std.specs.declared.cmp.Ordering.{Ordering}
use Rattle.atomic_table.specs.Seated.{TableId}
use Rattle.morsel_meaning.specs.declared.fault.Fault.{Fault}
use Rattle.morsel_meaning.specs.declared.task.TaskNo.{TaskNo}
use Rattle.morsel_prims.specs.Polled.{LaneId, held_list}
use Rattle.morsel_prims.specs.Waiting.{WaitPlace}
use Rattle.morsel_prims.specs.Woken.{Woken}
use Rattle.morsel_merge.specs.Boards.{OnEarlierEnd}
use Rattle.morsel_merge.specs.Merging.{AreSpread, IsMerged}
use Rattle.morsel_load.specs.Loads.{held_token, load_seen, load_seq}
use Rattle.morsel_load.specs.declared.load.Load.{Load}
use Rattle.morsel_lane_pipe.specs.declared.receipts.PipeOut.{PipeOut}
use Rattle.morsel_lane_pipe.specs.declared.receipts.PipeOut.TheVariants.{Whole, Cut, OutOfMemory, Failed}
use Rattle.morsel_lane_pipe.specs.Stretches.{stretches}

-- it is there, and this is true of it
abbrev pub Has : {A : Type 0} → Option A → (A → Type 0) → Type 0
Has None P = ⊥
Has (Some x) P = P x

-- what a task does with what it takes: it gives it on in its order, merges several lanes by number, spreads it over several, makes other loads of it, or keeps it;
-- or it takes none, and gives loads of its own
pub data PipeRole : Type 0 where
  HandsOn : PipeRole
  Merges : PipeRole
  Spreads : PipeRole
  MakesOthers : PipeRole
  KeepsAll : PipeRole
  GivesOwn : PipeRole

-- what is seen of a task: what it does, the table of its board, the lanes from which it takes and through which it sends, and where it may wait
pub record TaskSeen : Type 0 where
  pub work : PipeRole
  pub home : TableId
  pub from : List LaneId
  pub to : List LaneId
  pub places : List WaitPlace

-- the tokens that a load of this job may hold are those of this table
abbrev pub HoldsTokensOf : {K J : Type 0} → (J → K → Type 0) → (K → TableId) → J → TableId → Type 0
HoldsTokensOf holds home job table = (token : _) → (holds job token ↔ (home token ≡ table))

-- what was taken is what was sent, and then what is held, but for the tokens that tell that they were consumed
abbrev pub ArePassed : {K J : Type 0} → List (Load K J) → List (Load K J) → Option (Load K J) → Type 0
ArePassed taken sent held = map load_seen taken ≡ map load_seen sent ++ map load_seen (held_list held)

-- the token that tells that it was consumed, of what is there
abbrev pub token_of : {K J : Type 0} → Option (Load K J) → Option K
token_of None = None
token_of (Some load) = held_token load

-- while a load is held, this is the token with which it was taken; else there is none
abbrev pub KeepsToken : {K J : Type 0} → List (Load K J) → Option (Load K J) → Option K → Type 0
KeepsToken taken None token = token ≡ None
KeepsToken taken (Some load) token = (before : List (Load _ _)) × (last : Load _ _) × (taken ≡ before ++ last ∷ []) × (token ≡ held_token last)

-- between two ends of this table, for one job: what was taken is sent or held
pub record IsPassing {K J : Type 0} (suits : J → Load K J → Type 0) (table from_table to_table : TableId) (job to_job : J) (taken sent : List (Load K J)) (held : Option (Load K J)) : Type 0 where
  pub from_home : from_table ≡ table
  pub to_home : to_table ≡ table
  pub same_job : to_job ≡ job
  pub suited : IfSome held (suits job)
  pub passed : ArePassed taken sent held

-- loads by their numbers, the greater number first
abbrev pub by_seq : {K J : Type 0} → Load K J → Load K J → Ordering
by_seq x y = nat_cmp (load_seq y) (load_seq x)

-- what was sent through the lanes is what was taken from them, by what the task does; where it makes other loads, they end the same stretches in the same order
abbrev pub IsWorkOf : {K J : Type 0} → PipeRole → List (List (Load K J)) → List (List (Load K J)) → Type 0
IsWorkOf HandsOn taken sent = map (map load_seen) taken ≡ map (map load_seen) sent
IsWorkOf Merges taken sent = (all : List (Load _ _)) × (sent ≡ all ∷ []) × IsMerged by_seq taken all
IsWorkOf Spreads taken sent = (all : List (Load _ _)) × (taken ≡ all ∷ []) × AreSpread (map (map load_seen) sent) (map load_seen all)
IsWorkOf MakesOthers taken sent = map stretches taken ≡ map stretches sent
IsWorkOf KeepsAll taken sent = sent ≡ []
IsWorkOf GivesOwn taken sent = taken ≡ []

-- the receipts of all ends of a task, in order of lanes: what it sent is what it took
pub record AreReceipts {R S K J : Type 0} (taken_home : R → TableId) (taken_lane : R → LaneId) (all_taken : R → List (Load K J)) (sent_home : S → TableId) (sent_lane : S → LaneId) (all_sent : S → List (Load K J)) (seen : TaskSeen) (taken : List R) (sent : List S) : Type 0 where
  pub taken_homes : All (λ receipt. taken_home receipt ≡ seen.home) taken
  pub sent_homes : All (λ receipt. sent_home receipt ≡ seen.home) sent
  pub taken_lanes : map taken_lane taken ≡ seen.from
  pub sent_lanes : map sent_lane sent ≡ seen.to
  pub work : IsWorkOf seen.work (map all_taken taken) (map all_sent sent)

-- the fact holds of the receipts, where all lanes ended whole
abbrev pub IfWhole : {R : Type 0} → PipeOut R → (R → Type 0) → Type 0
IfWhole (Whole receipts) P = P receipts
IfWhole Cut P = Unit {0}
IfWhole OutOfMemory P = Unit {0}
IfWhole (Failed fault) P = Unit {0}

-- the fact holds of the fault, where there is one
abbrev pub IfFailed : {R : Type 0} → PipeOut R → (Fault → Type 0) → Type 0
IfFailed (Whole receipts) P = Unit {0}
IfFailed Cut P = Unit {0}
IfFailed OutOfMemory P = Unit {0}
IfFailed (Failed fault) P = P fault

-- the fact holds, unless all lanes ended whole
abbrev pub UnlessWhole : {R : Type 0} → PipeOut R → Type 0 → Type 0
UnlessWhole (Whole receipts) P = Unit {0}
UnlessWhole Cut P = P
UnlessWhole OutOfMemory P = P
UnlessWhole (Failed fault) P = P

-- the fact holds, where an end was closed or cut
abbrev pub OnCut : {R : Type 0} → PipeOut R → Type 0 → Type 0
OnCut (Whole receipts) P = Unit {0}
OnCut Cut P = P
OnCut OutOfMemory P = Unit {0}
OnCut (Failed fault) P = Unit {0}

-- an end of this lane was cut, by an earlier board; since then each task that waits goes on waiting or is woken
abbrev pub IsEndCut : {B E : Type 0} → (B → WaitPlace → Option TaskNo) → (B → E → Type 0) → (E → LaneId) → B → LaneId → Type 0
IsEndCut waits has_cut lane board of = (end : _) × (lane end ≡ of) × (wakes : Woken) × OnEarlierEnd waits board wakes (λ mid. has_cut mid end)

-- ends of these lanes were cut, one after the other
abbrev pub AreEndsCut : {B E : Type 0} → (B → WaitPlace → Option TaskNo) → (B → E → Type 0) → (E → LaneId) → B → List LaneId → Type 0
AreEndsCut waits has_cut lane board [] = Unit {0}
AreEndsCut waits has_cut lane board (of ∷ more) = IsEndCut waits has_cut lane board of × AreEndsCut waits has_cut lane board more

-- this task is registered at an end that a step of the call found not to be ready: by the board after it, and the end then
abbrev pub IsWaiting : {B E N : Type 0} → (B → E → E → N → Type 0) → (B → E → E → Type 0) → N → B → E → Type 0
IsWaiting registered unready me board now = (end : _) × registered board end now me × unready board end now
