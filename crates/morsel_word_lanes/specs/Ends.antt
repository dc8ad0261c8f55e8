-- What the steps of a call on a connector found, as the traits of lanes have it.
use Rattle.std.specs.Prelude.{◌≡◌, ℕ, cond, Bool, true, false, List, [], Option, None, Some}
use Rattle.atomic_table.specs.Seated.{TableId}
use Rattle.morsel_meaning.specs.declared.task.TaskNo.{TaskNo}
use Rattle.morsel_prims.specs.Polled.{held_list}
use Rattle.morsel_prims.specs.declared.lane.Ended.{Ended}
use Rattle.morsel_words.specs.Since.{WasFound, FoundWaiter}
use Rattle.morsel_words.specs.declared.view.Found.{Found}
use Rattle.morsel_words.specs.declared.view.Found.TheVariants as found

-- a step like this found these tasks waiting: nobody, or one
abbrev pub FoundWaiting : (Bool → Found) → List Found → List Found → List TaskNo → Type 0
FoundWaiting step old new tasks = (task : Option TaskNo) × FoundWaiter step old new task × (tasks ≡ held_list task)

-- a close after these steps found these tasks waiting
abbrev pub FoundWaitingAtClose : List Found → List TaskNo → Type 0
FoundWaitingAtClose old tasks = (new : List Found) × FoundWaiting found.Closing old new tasks

-- a step since then found so many values in the lane
abbrev pub FoundHeld : List Found → List Found → ℕ → Type 0
FoundHeld old new held = (some : Bool) × WasFound old new (found.Held some) × (held ≡ cond some 1 0)

-- a step closed the lane
abbrev pub HasClosed : List Found → Type 0
HasClosed steps = (waited : Bool) × WasFound [] steps (found.Closing waited)

-- whether the lane was found to have ended whole, or cut
abbrev pub ended_whole : Option Ended → Bool
ended_whole None = false
ended_whole (Some Ended.Whole) = true
ended_whole (Some Ended.Cut) = false

abbrev pub ended_cut : Option Ended → Bool
ended_cut None = false
ended_cut (Some Ended.Whole) = false
ended_cut (Some Ended.Cut) = true

-- how a lane ended, as whole or as cut
abbrev pub end_as : Bool → Ended
end_as true = Ended.Whole
end_as false = Ended.Cut

-- a value that is to be sent: the table of its lane, what the lane is for, and the value until it was answered
pub record ToSend (T J : Type 0) : Type 0 where
  pub table : TableId
  pub job : J
  pub value : Option T
