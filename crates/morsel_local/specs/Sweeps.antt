-- Tasks that run on one thread, and what a sweep over them does.
use Rattle.std.specs.Prelude.{◌≡◌, ◌⊎◌, ◌+◌, ℕ, zero, suc, ⊤, true, false, List, [], ◌∷◌, Option, None, Some, IfSome}
use Rattle.morsel_prims.specs.Polled.{BoardId}
use Rattle.morsel_prims.specs.Waiting.{KeepsOthersWaiting, KeepsWaiting}
use Rattle.morsel_prims.specs.Woken.{KeepsWakes, has_number}
use Rattle.morsel_prims.specs.declared.task.Cx.{Cx}
use Rattle.morsel_prims.specs.declared.task.Task.{Ghosts as TaskOf}
use Rattle.morsel_prims.specs.declared.task.Board.{Ghosts as BoardOf}
use Rattle.morsel_local.specs.declared.local_task.LocalTask.{LocalTask}
use Rattle.morsel_local.specs.declared.local_task.LocalAt.{LocalAt}
use Rattle.morsel_local.specs.declared.local_task.LocalAt.TheVariants.{Unfinished, Ended, Taken}

-- how many tasks there may be, the board with which they were made, each task in order of number, and what polls work with
pub record LocalSeen (T B O : Type 0) : Type 0 where
  pub capacity : ℕ
  pub home : BoardId
  pub tasks : List (LocalTask T O)
  pub cx : Cx B

-- a task as it is spawned: queued
abbrev pub new_task : {T O : Type 0} → T → LocalTask T O
new_task body = record { spawned = body; at = Unfinished true body }

-- queued, where it has not ended
abbrev pub woken_at : {T O : Type 0} → LocalAt T O → LocalAt T O
woken_at (Unfinished queued body) = Unfinished true body
woken_at (Ended out) = Ended out
woken_at Taken = Taken

abbrev pub woken : {T O : Type 0} → LocalTask T O → LocalTask T O
woken task = record task { at = woken_at task.at }

-- what it ended with, where that was not taken
abbrev pub output_in : {T O : Type 0} → LocalAt T O → Option O
output_in (Unfinished queued body) = None
output_in (Ended out) = Some out
output_in Taken = None

abbrev pub task_output : {T O : Type 0} → LocalTask T O → Option O
task_output task = output_in task.at

-- its output is taken, where it has ended
abbrev pub output_taken_at : {T O : Type 0} → LocalAt T O → LocalAt T O
output_taken_at (Unfinished queued body) = Unfinished queued body
output_taken_at (Ended out) = Taken
output_taken_at Taken = Taken

abbrev pub taken_out : {T O : Type 0} → LocalTask T O → LocalTask T O
taken_out task = record task { at = output_taken_at task.at }

-- the item of this number, from 1, is changed
abbrev pub changed : {X : Type 0} → (X → X) → ℕ → List X → List X
changed change n [] = []
changed change zero (x ∷ xs) = x ∷ xs
changed change (suc zero) (x ∷ xs) = change x ∷ xs
changed change (suc (suc n)) (x ∷ xs) = x ∷ changed change (suc n) xs

-- the item of this number, from 1
abbrev pub number_at : {X : Type 0} → List X → ℕ → Option X
number_at [] n = None
number_at (x ∷ xs) zero = None
number_at (x ∷ xs) (suc zero) = Some x
number_at (x ∷ xs) (suc (suc n)) = number_at xs (suc n)

-- the tasks of these numbers are queued, where they have not ended
abbrev pub all_woken : {T O : Type 0} → List ℕ → List (LocalTask T O) → List (LocalTask T O)
all_woken [] tasks = tasks
all_woken (n ∷ ns) tasks = changed woken n (all_woken ns tasks)

abbrev pub output_if : {T O : Type 0} → Option (LocalTask T O) → Option O
output_if None = None
output_if (Some task) = task_output task

-- what the task of this number ended with, where that was not taken
abbrev pub output_at : {T O : Type 0} → List (LocalTask T O) → ℕ → Option O
output_at tasks n = output_if (number_at tasks n)

-- the fact holds of what was spawned with this number
abbrev pub IfTask : {T O : Type 0} → List (LocalTask T O) → ℕ → (T → Type 0) → Type 0
IfTask tasks n P = IfSome (number_at tasks n) (λ task. P task.spawned)

-- what was spawned, in order of number
abbrev pub spawned_bodies : {T O : Type 0} → List (LocalTask T O) → List T
spawned_bodies [] = []
spawned_bodies (task ∷ tasks) = task.spawned ∷ spawned_bodies tasks

-- 1 for a task that has ended
abbrev pub count_ended_at : {T O : Type 0} → LocalAt T O → ℕ
count_ended_at (Unfinished queued body) = 0
count_ended_at (Ended out) = 1
count_ended_at Taken = 1

abbrev pub ended_in : {T O : Type 0} → LocalTask T O → ℕ
ended_in task = count_ended_at task.at

-- how many tasks have ended
abbrev pub count_ended : {T O : Type 0} → List (LocalTask T O) → ℕ
count_ended [] = 0
count_ended (task ∷ tasks) = ended_in task + count_ended tasks

-- what polls work with, before the first poll of a sweep: nobody is to be woken, and no task polls
abbrev pub delivered_cx : {B : Type 0} → Cx B → Cx B
delivered_cx cx = record { me = record { 0 = 0 }; wakes = record { numbers = []; bound = cx.wakes.bound }; board = cx.board }

-- of a task of this board that was spawned so: it may be polled and may give no more than what was spawned; or it gave that
abbrev pub IsKeptAt : {T B O : Type 0} → TaskOf T B O → BoardId → T → LocalAt T O → Type 0
IsKeptAt task home spawned (Unfinished queued body) = task.can_poll home body × ((out : _) → task.gives body out → task.gives spawned out)
IsKeptAt task home spawned (Ended out) = task.gives spawned out
IsKeptAt task home spawned Taken = ⊤

abbrev pub IsKept : {T B O : Type 0} → TaskOf T B O → BoardId → LocalTask T O → Type 0
IsKept task home t = IsKeptAt task home t.spawned t.at

-- after a poll by the task n: it waits, or is to be woken; or it ended with an output that its body may give
abbrev pub IsAnswer : {T B O : Type 0} → TaskOf T B O → BoardOf B → ℕ → T → LocalAt T O → Cx B → Type 0
IsAnswer task board n body (Unfinished queued after) cx =
    (queued ≡ false)
    × task.can_poll (board.id cx.board) after
    × ((out : _) → task.gives after out → task.gives body out)
    × ((has_number cx.wakes.numbers n ≡ true) ⊎ task.waits (record { 0 = n }) cx.board body after)
    × (task.wait_places after ≡ task.wait_places body)
IsAnswer task board n body (Ended out) cx = task.gives body out
IsAnswer task board n body Taken cx = ⊥

-- one poll by the task n, and no more; then no task polls
pub record IsPolled {T B O : Type 0} (task : TaskOf T B O) (board : BoardOf B) (n : ℕ) (body : T) (after : LocalAt T O) (old new : Cx B) : Type 0 where
  pub answer : IsAnswer task board n body after new
  pub keeps_waiting : KeepsOthersWaiting (task.wait_places body) (record { 0 = n }) (board.waits_at old.board) (board.waits_at new.board) new.wakes
  pub same_board : board.id new.board ≡ board.id old.board
  pub caller : new.me ≡ record { 0 = 0 }
  pub wakes : KeepsWakes old.wakes new.wakes

-- the turn of the task n: it is polled once if it is queued, and else nothing changes
abbrev pub IsTurnAt : {T B O : Type 0} → TaskOf T B O → BoardOf B → ℕ → LocalAt T O → LocalAt T O → Cx B → Cx B → Type 0
IsTurnAt task board n (Unfinished true body) after old new = IsPolled task board n body after old new
IsTurnAt task board n (Unfinished false body) after old new = (after ≡ Unfinished false body) × (new ≡ old)
IsTurnAt task board n (Ended out) after old new = (after ≡ Ended out) × (new ≡ old)
IsTurnAt task board n Taken after old new = (after ≡ Taken) × (new ≡ old)

abbrev pub IsTurn : {T B O : Type 0} → TaskOf T B O → BoardOf B → ℕ → LocalTask T O → LocalTask T O → Cx B → Cx B → Type 0
IsTurn task board n t t' old new = (t'.spawned ≡ t.spawned) × IsTurnAt task board n t.at t'.at old new

-- the turns of these tasks, one after the other, the first of which has the number n
abbrev pub AreSwept : {T B O : Type 0} → TaskOf T B O → BoardOf B → ℕ → List (LocalTask T O) → List (LocalTask T O) → Cx B → Cx B → Type 0
AreSwept task board n [] [] old new = new ≡ old
AreSwept task board n [] (t' ∷ ts') old new = ⊥
AreSwept task board n (t ∷ ts) [] old new = ⊥
AreSwept task board n (t ∷ ts) (t' ∷ ts') old new = (mid : Cx _) × IsTurn task board n t t' old mid × AreSwept task board (suc n) ts ts' mid new

-- the end of a task: the body cuts its ends if it has not ended, and else nothing changes
abbrev pub IsAbandonedAt : {T B O : Type 0} → TaskOf T B O → BoardOf B → LocalAt T O → Cx B → Cx B → Type 0
IsAbandonedAt task board (Unfinished queued body) old new =
    task.has_cut new.board body
    × KeepsWaiting (board.waits_at old.board) (board.waits_at new.board) new.wakes
    × (board.id new.board ≡ board.id old.board)
    × KeepsWakes old.wakes new.wakes
IsAbandonedAt task board (Ended out) old new = new ≡ old
IsAbandonedAt task board Taken old new = new ≡ old

-- the ends of these tasks, one after the other
abbrev pub AreAbandoned : {T B O : Type 0} → TaskOf T B O → BoardOf B → List (LocalTask T O) → Cx B → Cx B → Type 0
AreAbandoned task board [] old new = new ≡ old
AreAbandoned task board (t ∷ ts) old new = (mid : Cx _) × IsAbandonedAt task board t.at old mid × AreAbandoned task board ts mid new
