-- A task that goes on step by step.
use Rattle.std.specs.Prelude.{◌≡◌, List, [], Option, None, Some}
use Rattle.morsel_meaning.specs.declared.fault.Fault.{Fault}
use Rattle.morsel_prims.specs.Waiting.{WaitPlace}
use Rattle.morsel_lane_pipe.specs.Tasks.{Has, TaskSeen}

-- where what is there may wait
abbrev pub places_if : {A : Type 0} → Option A → (A → List WaitPlace) → List WaitPlace
places_if None places = []
places_if (Some x) places = places x

-- a later state of the task: it may go on, the same is seen of it, and it may end with no other faults and receipts
abbrev pub IsOn : {T R : Type 0} → (T → Type 0) → (T → TaskSeen) → (T → Fault → Type 0) → (T → R → Type 0) → Option T → Option T → Type 0
IsOn can seen fails leaves begun now = Has now (λ new. can new × Has begun (λ old. (seen new ≡ seen old) × ((fault : Fault) → fails new fault → fails old fault) × ((receipts : _) → leaves new receipts → leaves old receipts)))
