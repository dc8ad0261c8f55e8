-- What the program answers to a command whose query is valid, where no count of faults rose.
use Rattle.std.specs.Prelude.{◌≡◌, ◌⊎◌, ℕ, Option, Some, None}
use Rattle.morsel_meaning.specs.declared.fault.Fault.TheVariants as faults
use Rattle.morsel_meaning.specs.Faults.{fault_status}
use Rattle.morsel_outside.specs.Outside.{Outside}
use Rattle.morsel_prog.specs.Words.{Command}
use Rattle.morsel_prog.specs.CommandRuns.{IsValidFor}

-- the words are a command, whose query is valid
abbrev pub IsValidCommand : Outside → Option Command → Outside → Type 0
IsValidCommand old None new = ⊥
IsValidCommand old (Some command) new = IsValidFor old command new

-- status 0, or that of `OutOfMemory`
abbrev pub IsDone : ℕ → Type 0
IsDone status = (status ≡ 0) ⊎ (status ≡ fault_status faults.OutOfMemory)
