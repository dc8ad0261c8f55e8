-- Which fault a call answers.
use Rattle.std.specs.Prelude.{◌≡◌, ℕ, ◌+◌, nat_lt, ◌&&◌, if◌then◌else◌, Option, Some, None, Result, Ok, Err, List}
use Rattle.morsel_meaning.specs.declared.value.Field.{Field}
use Rattle.morsel_meaning.specs.declared.fault.Fault.{Fault}
use Rattle.morsel_meaning.specs.declared.fault.Fault.TheVariants.{OutOfMemory, SchemaMismatch, Duplicate, ComputeError}
use Rattle.morsel_meaning.specs.declared.fault.ComputeKind.TheVariants.{IndexTooLarge}
use Rattle.morsel_meaning.specs.Values.{names_of}
use Rattle.morsel_frame.specs.Names.{first_repeated}

-- a call that fails answers the one fault that is due, or that it is out of memory, and one that succeeds has none due
abbrev pub Refuses : {T : Type 0} → Option Fault → Result T Fault → Type 0
Refuses due (Ok x) = due ≡ None
Refuses due (Err OutOfMemory) = Unit {0}
Refuses due (Err fault) = due ≡ Some fault

-- the fault that names a repeated name
abbrev pub fault_of_repeat : Option (List ℕ) → Option Fault
fault_of_repeat None = None
fault_of_repeat (Some name) = Some (Duplicate name)

-- the fault that is due where two fields have one name
abbrev pub repeat_fault : List Field → Option Fault
repeat_fault fields = fault_of_repeat (first_repeated (names_of fields))

-- the fault that names the column that differs
abbrev pub fault_of_mismatch : Option (List ℕ) → Option Fault
fault_of_mismatch None = None
fault_of_mismatch (Some name) = Some (SchemaMismatch name)

-- the fault that is due where the numbers from `offset` on, one for each of so many rows, pass 32 bits
abbrev pub index_fault : ℕ → ℕ → Option Fault
index_fault offset height =
    if nat_lt 0 height && nat_lt 4294967295 (offset + height) then Some (ComputeError IndexTooLarge 4294967295 0) else None

-- the first fault that is due
abbrev pub first_fault : Option Fault → Option Fault → Option Fault
first_fault None second = second
first_fault (Some fault) second = Some fault
