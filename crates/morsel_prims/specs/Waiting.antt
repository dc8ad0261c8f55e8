-- Where tasks wait on a board, and that no call forgets one.
use Rattle.std.specs.Prelude.{◌≡◌, ◌⊎◌, ℕ, List, Contains, Option, None, Some}
use Rattle.morsel_meaning.specs.declared.task.TaskNo.{TaskNo}
use Rattle.morsel_prims.specs.Woken.{Woken, IsWoken}

-- where a task may wait: for room in a lane, for a value from a lane, or for the last token of a group; each by its place on the board
pub data WaitPlace : Type 0 where
  ForRoom : ℕ → WaitPlace
  ForValue : ℕ → WaitPlace
  ForLastToken : ℕ → WaitPlace

-- who waited at a place waits there still; or waits there no more, and is among those that are to be woken
abbrev pub IsHeldOrWoken : Option TaskNo → Option TaskNo → Woken → Type 0
IsHeldOrWoken old new wakes = (new ≡ old) ⊎ ((new ≡ None) × IsWoken old wakes)

-- the same tasks wait at the same places
abbrev pub SameWaiting : (WaitPlace → Option TaskNo) → (WaitPlace → Option TaskNo) → Type 0
SameWaiting old new = (place : WaitPlace) → new place ≡ old place

-- each task that waits goes on waiting, or is woken; and nobody begins to wait
abbrev pub KeepsWaiting : (WaitPlace → Option TaskNo) → (WaitPlace → Option TaskNo) → Woken → Type 0
KeepsWaiting old new wakes = (place : WaitPlace) → IsHeldOrWoken (old place) (new place) wakes

-- the same; but at a place of these, this task may have begun to wait, and then it waits there still or is woken
abbrev pub KeepsOthersWaiting : List WaitPlace → TaskNo → (WaitPlace → Option TaskNo) → (WaitPlace → Option TaskNo) → Woken → Type 0
KeepsOthersWaiting own me old new wakes = (place : WaitPlace) → IsHeldOrWoken (old place) (new place) wakes ⊎ (Contains own place × IsHeldOrWoken (Some me) (new place) wakes)
