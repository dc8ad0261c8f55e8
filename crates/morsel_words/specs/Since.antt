-- What the steps of a call found, by the findings of its seat before and after.
use Rattle.std.specs.Prelude.{◌≡◌, ◌⊎◌, ℕ, ◌+◌, Bool, true, false, List, ◌∷◌, ◌++◌, Option, Some, None}
use Rattle.morsel_meaning.specs.declared.task.TaskNo.{TaskNo}
use Rattle.morsel_words.specs.declared.view.Found.{Found}
use Rattle.morsel_words.specs.declared.view.Found.TheVariants as found

-- a step since then found this
abbrev pub WasFound : {F : Type 0} → List F → List F → F → Type 0
WasFound old new what = (later : List _) × (earlier : List _) × (new ≡ (later ++ what ∷ earlier) ++ old)

-- what was found by then was found since
abbrev pub Follows : List Found → List Found → Type 0
Follows old new = (later : List Found) × (new ≡ later ++ old)

-- the number under which a task waits: one more than the task's own; 0 where nobody waits
abbrev pub IsNumberOf : ℕ → Option TaskNo → Type 0
IsNumberOf number None = number ≡ 0
IsNumberOf number (Some task) = number ≡ task.0 + 1

-- the last step since then was this one, and nobody waited for it; or somebody did, and the step after it found this task
abbrev pub FoundWaiter : (Bool → Found) → List Found → List Found → Option TaskNo → Type 0
FoundWaiter step old new task = (earlier : List Found) × (((new ≡ step false ∷ earlier ++ old) × (task ≡ None)) ⊎ ((number : ℕ) × (new ≡ found.Waiter number ∷ step true ∷ earlier ++ old) × IsNumberOf number task))

-- the last step since then took a value, which is answered with the task that waited for that
abbrev pub TookWaiter : {T : Type 0} → List Found → List Found → T × Option TaskNo → Type 0
TookWaiter old new got = FoundWaiter found.Took old new got.1
