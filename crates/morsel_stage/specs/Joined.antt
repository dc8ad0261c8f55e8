-- What was taken back of the tasks of one thread.
use Rattle.std.specs.Prelude.{◌≡◌, ◌≤◌, ◌+◌, ℕ, zero, suc, List, [], ◌∷◌, None, IfSome}
use Rattle.morsel_local.specs.declared.local_task.LocalTask.{LocalTask}
use Rattle.morsel_local.specs.declared.local_task.LocalAt.{LocalAt}
use Rattle.morsel_local.specs.declared.local_task.LocalAt.TheVariants.{Unfinished, Ended, Taken}
use Rattle.morsel_local.specs.Sweeps.{output_at}

-- of the tasks up to this number, no output is left, and this is so of each that was
pub record AreJoined {T O : Type 0} (P : O → Type 0) (count : ℕ) (before after : List (LocalTask T O)) : Type 0 where
  pub taken : (n : ℕ) → n ≤ count → output_at after n ≡ None
  pub told : (n : ℕ) → n ≤ count → IfSome (output_at before n) P

-- 1 for an output that was not taken
abbrev pub output_left : {T O : Type 0} → LocalAt T O → ℕ
output_left (Unfinished queued body) = 0
output_left (Ended out) = 1
output_left Taken = 0

-- how many outputs of the first so many tasks were not taken
abbrev pub outputs_left : {T O : Type 0} → ℕ → List (LocalTask T O) → ℕ
outputs_left n [] = 0
outputs_left zero (task ∷ tasks) = 0
outputs_left (suc n) (task ∷ tasks) = output_left task.at + outputs_left n tasks
