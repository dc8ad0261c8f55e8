-- The tasks of one thread whose outputs were not taken.
use Rattle.std.specs.Prelude.{List, [], ◌∷◌}
use Rattle.morsel_local.specs.declared.local_task.LocalTask.{LocalTask}
use Rattle.morsel_local.specs.declared.local_task.LocalAt.{LocalAt}
use Rattle.morsel_local.specs.declared.local_task.LocalAt.TheVariants.{Unfinished, Ended, Taken}

-- what was spawned, before others, unless its output was taken
abbrev pub before_others : {T O : Type 0} → T → LocalAt T O → List T → List T
before_others body (Unfinished queued now) others = body ∷ others
before_others body (Ended out) others = body ∷ others
before_others body Taken others = others

-- what was spawned of the tasks whose outputs were not taken, in order of number
abbrev pub unjoined : {T O : Type 0} → List (LocalTask T O) → List T
unjoined [] = []
unjoined (task ∷ tasks) = before_others task.spawned task.at (unjoined tasks)
