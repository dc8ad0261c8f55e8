-- The scheduling machine: its state, the events that it allows, the state after each, and that no task is lost.
use Rattle.std.specs.Prelude.{◌≡◌, ℕ, ◌+◌, ◌≤◌, Bool, true, false, ◌&&◌, ◌||◌, not, ◌==◌, nat_lt, if◌then◌else◌, IsTrue, Option, None, Some, is_none, is_some, List, [], ◌∷◌, length, slice_index_or, slice_set, replicate, count_by}
use Rattle.std.specs.List.{list_any}
use Rattle.morsel_meaning.specs.declared.task.TaskNo.{TaskNo}
use Rattle.morsel_exec.specs.declared.machine.TaskAt.{TaskAt}
use Rattle.morsel_exec.specs.declared.machine.TaskAt.TheVariants.{Idle, Queued, Polling, PolledPending, Notified, Finished, Cancelled}
use Rattle.morsel_exec.specs.declared.machine.End.{End}
use Rattle.morsel_exec.specs.declared.machine.Event.{Event}
use Rattle.morsel_exec.specs.declared.machine.Event.TheVariants.{Spawn, Take, Register, Pend, EndTurn, Finish, Cancel, MakeReady, Spend, Wake, DeliverWake}

-- Tasks are numbered from 1: place 0 of the two lists of tasks is the caller, which is never spawned.
pub record State : Type 0 where
  pub tasks : List (Option TaskAt)  -- where each task stands; none where it was not spawned
  pub ends : List End  -- whether each end is ready, and the task that is registered there
  pub wakes : List Bool  -- whether a wake of each task is under way

-- ---- questions

-- where a task stands; none too where no task has this number
abbrev pub task_at : State → ℕ → Option TaskAt
task_at s t = slice_index_or s.tasks t None

-- an end that is not ready, and where nobody is registered
abbrev pub quiet : End
quiet = record { ready = false; waiting = None }

-- an end; one past those that were given is quiet
abbrev pub end_at : State → ℕ → End
end_at s e = slice_index_or s.ends e quiet

-- whether a wake of the task is under way
abbrev pub is_woken : State → ℕ → Bool
is_woken s t = slice_index_or s.wakes t false

-- whether this is one of the numbers of tasks
abbrev pub is_task : State → ℕ → Bool
is_task s t = nat_lt 0 t && nat_lt t (length s.tasks)

-- whether this is one of the numbers of ends
abbrev pub is_end : State → ℕ → Bool
is_end s e = nat_lt e (length s.ends)

-- one test for each place where a task may stand: whether it is idle
abbrev pub is_idle : Option TaskAt → Bool
is_idle (Some Idle) = true
is_idle _ = false

-- whether the right to run it was handed out
abbrev pub is_queued : Option TaskAt → Bool
is_queued (Some Queued) = true
is_queued _ = false

-- whether it is being polled, and was not woken since
abbrev pub is_polling : Option TaskAt → Bool
is_polling (Some Polling) = true
is_polling _ = false

-- whether its poll gave no result, and its turn has not ended
abbrev pub is_pending : Option TaskAt → Bool
is_pending (Some PolledPending) = true
is_pending _ = false

-- whether it was woken before its turn ended
abbrev pub is_notified : Option TaskAt → Bool
is_notified (Some Notified) = true
is_notified _ = false

-- whether the task is being polled
abbrev pub is_polled : Option TaskAt → Bool
is_polled at = is_polling at || is_notified at

-- whether the task was spawned, and is neither finished nor cancelled
abbrev pub is_live : Option TaskAt → Bool
is_live None = false
is_live (Some Finished) = false
is_live (Some Cancelled) = false
is_live (Some _) = true

-- whether this is the task that is registered
abbrev pub names : Option TaskNo → ℕ → Bool
names None t = false
names (Some u) t = u.0 == t

-- whether the end is not ready, and the task is registered there
abbrev pub is_awaited_by : End → ℕ → Bool
is_awaited_by end t = not end.ready && names end.waiting t

-- whether the task is registered at an end that is not ready
abbrev pub is_registered : State → ℕ → Bool
is_registered s t = list_any (λ end. is_awaited_by end t) s.ends

-- whether the task is registered at an end that is not ready, or a wake of it is under way
abbrev pub is_waiting : State → ℕ → Bool
is_waiting s t = is_registered s t || is_woken s t

-- whether no other live task is registered
abbrev pub is_free : List (Option TaskAt) → Option TaskNo → ℕ → Bool
is_free tasks None t = true
is_free tasks (Some u) t = u.0 == t || not (is_live (slice_index_or tasks u.0 None))

-- whether the end is not ready, and no other live task is registered there
abbrev pub is_open : State → ℕ → ℕ → Bool
is_open s e t = is_end s e && (not (end_at s e).ready && is_free s.tasks (end_at s e).waiting t)

-- ---- events

-- where the event may happen
abbrev pub allowed : Event → State → Bool
allowed (Spawn t) s = is_task s t.0 && is_none (task_at s t.0)
allowed (Take t) s = is_queued (task_at s t.0)
allowed (Register t e) s = is_polled (task_at s t.0) && is_open s e t.0
allowed (Pend t) s = is_notified (task_at s t.0) || (is_polling (task_at s t.0) && is_waiting s t.0)
allowed (EndTurn t) s = is_pending (task_at s t.0) || is_notified (task_at s t.0)
allowed (Finish t) s = is_polled (task_at s t.0)
allowed (Cancel t) s = is_live (task_at s t.0)
allowed (MakeReady e) s = is_end s e && not (end_at s e).ready
allowed (Spend e) s = (end_at s e).ready
allowed (Wake t) s = is_some (task_at s t.0) && not (is_woken s t.0)
allowed (DeliverWake t) s = is_woken s t.0

-- where a task stands after its poll gave no result
abbrev pub pended : Option TaskAt → Option TaskAt
pended (Some Polling) = Some PolledPending
pended at = at

-- where a task stands after its turn
abbrev pub turned : Option TaskAt → Option TaskAt
turned (Some PolledPending) = Some Idle
turned (Some Notified) = Some Queued
turned at = at

-- where a task stands after a wake came
abbrev pub delivered : Option TaskAt → Option TaskAt
delivered (Some Idle) = Some Queued
delivered (Some Polling) = Some Notified
delivered (Some PolledPending) = Some Notified
delivered at = at

-- the task stands there
abbrev pub with_task_at : State → ℕ → Option TaskAt → State
with_task_at s t at = record { tasks = slice_set s.tasks t at; ends = s.ends; wakes = s.wakes }

-- the flags of wakes under way, with one of the registered task
abbrev pub with_wake : List Bool → Option TaskNo → List Bool
with_wake wakes None = wakes
with_wake wakes (Some u) = slice_set wakes u.0 true

-- the state after an event that is allowed
abbrev pub after : Event → State → State
after (Spawn t) s = with_task_at s t.0 (Some Queued)
after (Take t) s = with_task_at s t.0 (Some Polling)
after (Register t e) s = record { tasks = s.tasks; ends = slice_set s.ends e (record { ready = false; waiting = Some t }); wakes = s.wakes }
after (Pend t) s = with_task_at s t.0 (pended (task_at s t.0))
after (EndTurn t) s = with_task_at s t.0 (turned (task_at s t.0))
after (Finish t) s = with_task_at s t.0 (Some Finished)
after (Cancel t) s = with_task_at s t.0 (Some Cancelled)
after (MakeReady e) s = record { tasks = s.tasks; ends = slice_set s.ends e (record { ready = true; waiting = None }); wakes = with_wake s.wakes (end_at s e).waiting }
after (Spend e) s = record { tasks = s.tasks; ends = slice_set s.ends e (record { ready = false; waiting = (end_at s e).waiting }); wakes = s.wakes }
after (Wake t) s = record { tasks = s.tasks; ends = s.ends; wakes = slice_set s.wakes t.0 true }
after (DeliverWake t) s = record { tasks = slice_set s.tasks t.0 (delivered (task_at s t.0)); ends = s.ends; wakes = slice_set s.wakes t.0 false }

-- the state after an event, which changes nothing where it is not allowed
abbrev pub stepped : Event → State → State
stepped event s = if allowed event s then after event s else s

-- no task was spawned, no end is ready, nobody is registered, and no wake is under way
abbrev pub opening : ℕ → ℕ → State
opening tasks ends = record { tasks = replicate (tasks + 1) None; ends = replicate ends quiet; wakes = replicate (tasks + 1) false }

-- ---- no task is lost

-- whether somebody runs the task or has the right to
abbrev pub is_active : Option TaskAt → Bool
is_active at = is_queued at || is_polled at

-- no task is lost in this state
pub record Held (s : State) : Type 0 where
  -- each live task is queued, polled, notified, registered at an end that is not ready, or named by a wake under way
  pub none_lost : (t : ℕ) → IsTrue (is_live (task_at s t)) → IsTrue (is_active (task_at s t) || is_waiting s t)
  -- one that is idle or pending is one of the last two
  pub at_rest : (t : ℕ) → IsTrue (is_idle (task_at s t) || is_pending (task_at s t)) → IsTrue (is_waiting s t)
  -- no task is registered at a ready end
  pub ready_alone : (e : ℕ) → IsTrue (end_at s e).ready → (end_at s e).waiting ≡ None

-- each task has a place for its wake, and no task is lost
pub record Sound (s : State) : Type 0 where
  pub places : length s.wakes ≡ length s.tasks
  pub held : Held s

-- ---- whole runs

-- the state after a list of events
abbrev pub run : List Event → State → State
run [] s = s
run (event ∷ events) s = run events (stepped event s)

-- those of a list of events that were allowed as they came
abbrev pub made : List Event → State → List Event
made [] s = []
made (event ∷ events) s = if allowed event s then event ∷ made events (after event s) else made events s

-- no list of events from the opening loses a task
abbrev pub NoTaskIsLost : Type 0
NoTaskIsLost = (tasks ends : ℕ) (events : List Event) → Held (run events (opening tasks ends))

-- an event that is not allowed changes nothing
abbrev pub RefusedChangesNothing : Type 0
RefusedChangesNothing = (event : Event) (s : State) → allowed event s ≡ false → stepped event s ≡ s

-- whether the event is a `Take` of the task
abbrev pub is_take_of : ℕ → Event → Bool
is_take_of t (Take u) = u.0 == t
is_take_of t _ = false

-- whether the event is a `Finish` of the task
abbrev pub is_finish_of : ℕ → Event → Bool
is_finish_of t (Finish u) = u.0 == t
is_finish_of t _ = false

-- each task has at most one `Finish`
abbrev pub FinishesOnce : Type 0
FinishesOnce = (tasks ends : ℕ) (events : List Event) (t : ℕ) → count_by (is_finish_of t) (made events (opening tasks ends)) ≤ 1

-- where a task may finish there was a `Take` of it
abbrev pub FinishesAfterTake : Type 0
FinishesAfterTake =
    (tasks ends : ℕ) (events : List Event) (t : TaskNo) → IsTrue (allowed (Finish t) (run events (opening tasks ends)))
    → IsTrue (list_any (is_take_of t.0) (made events (opening tasks ends)))
