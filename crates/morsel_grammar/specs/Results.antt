-- What a reader answers of a text.
use Rattle.std.specs.Prelude.{◌≡◌, ℕ, Bool, Option, Some, None, Result, Ok, Err, List, map}
use Rattle.morsel_meaning.specs.declared.fault.ComputeKind.TheVariants as kinds
use Rattle.morsel_meaning.specs.declared.fault.Fault.{Fault}
use Rattle.morsel_meaning.specs.declared.fault.Fault.TheVariants as faults
use Rattle.morsel_meaning.specs.declared.value.Field.{Field}
use Rattle.morsel_meaning.specs.Values.{Table}
use Rattle.morsel_grammar.specs.Reading.{Flaw, Malformed, NotUtf8, IllTyped, Refusal, Read, chosen}

-- the fault of a record with a flaw
abbrev pub flaw_fault : ℕ → ℕ → Flaw → Fault
flaw_fault file at Malformed = faults.Malformed file at
flaw_fault file at NotUtf8 = faults.ComputeError kinds.NotUtf8 file at
flaw_fault file at IllTyped = faults.ComputeError kinds.IllTyped file at

-- the fault of the record that is refused, where one is
abbrev pub refusal_fault : ℕ → Option Refusal → Option Fault
refusal_fault file None = None
refusal_fault file (Some refusal) = Some (flaw_fault file refusal.at refusal.flaw)

-- the fault that refuses a record, or at any time out of memory
abbrev pub IsRefused : ℕ → Option Refusal → Fault → Type 0
IsRefused file refusal faults.OutOfMemory = Unit {0}
IsRefused file refusal fault = refusal_fault file refusal ≡ Some fault

-- the rows of what was read, or the fault of the record that is refused
abbrev pub ReadsRecords : ℕ → List Field → List Bool → Read → Result (Table × Bool) Fault → Type 0
ReadsRecords file schema used read (Ok answer) = (read.refusal ≡ None) × (answer.0.schema ≡ chosen used schema)
    × (answer.0.rows ≡ map (λ r. r.1) read.rows) × (answer.1 ≡ read.head)
ReadsRecords file schema used read (Err fault) = IsRefused file read.refusal fault
