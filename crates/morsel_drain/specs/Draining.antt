-- What the caller of a line that gives no text did, and what it answers.
use Rattle.std.specs.Prelude.{◌≡◌, ◌⊎◌, ℕ, IfErr, IfOk, OnOk, Result, Ok, Err, List}
use Rattle.morsel_meaning.specs.declared.fault.Fault.{Fault}
use Rattle.morsel_meaning.specs.declared.fault.Fault.TheVariants as faults
use Rattle.morsel_outside.specs.declared.events.IoEvent.{IoEvent}
use Rattle.morsel_outside.specs.Outside.{Outside}
use Rattle.morsel_outside.specs.Actions.{Action}
use Rattle.morsel_scan.specs.Ahead.{Axis, asked_up_to}
use Rattle.morsel_drive.specs.Lines.{IsDue, ReadsFor}
use Rattle.morsel_drive.specs.Driving.{HasEnded}
use Rattle.morsel_drive.specs.declared.caller.Input.{Input}

-- where the input has ended, the answer is how many bytes were given
abbrev pub EndsInput : ℕ → Input → Result ℕ Fault → Type 0
EndsInput given input (Ok n) = (n ≡ given) × HasEnded input
EndsInput given input (Err faults.OutOfMemory) = Unit {0}
EndsInput given input (Err fault) = ⊥

-- nothing was opened, made, written or printed, no name was asked for, and no make, write or print failed
pub record LeavesAllElse (old new : Outside) : Type 0 where
  pub sizes : new.sizes ≡ old.sizes
  pub held : new.held ≡ old.held
  pub sinks : new.sinks ≡ old.sinks
  pub made : new.made ≡ old.made
  pub printed : new.printed ≡ old.printed
  pub write_faults : new.write_faults ≡ old.write_faults
  pub print_faults : new.print_faults ≡ old.print_faults
  pub asked : new.asked ≡ old.asked

-- why a run of reads alone has a fault: memory is out, the reader answered it, or the line did
abbrev pub StopsReadsFor : (Fault → Type 0) → (Fault → Type 0) → Fault → Type 0
StopsReadsFor failed broke fault = (fault ≡ faults.OutOfMemory) ⊎ failed fault ⊎ broke fault

-- what a run answers, given what each place gives: after the place that is answered none gives a row, and the reader and the line go on for the job; or a fault that is due
pub record DrainsAxis (axis : Axis) (is_due : Fault → Type 0) (is_end : ℕ → ℕ → Type 0) (reads serves : Type 0) (events : List IoEvent) (result : Result ℕ Fault) : Type 0 where
  pub ends : IfOk result (λ given. is_end given (asked_up_to axis 0 events))
  pub reads_on : OnOk result reads
  pub serves_on : OnOk result serves
  pub due : IfErr result (IsDue is_due)

-- a whole run: it made reads, those of its reader, and left all else as it was; why it has a fault, that where it has none its reader came to the end, and, where it is told what the files contain, where the input ends
pub record Drains (did : List Action → Type 0) (failed broke : Fault → Type 0) (ended : Type 0) (told : List IoEvent → Type 0) (before : Outside) (result : Result ℕ Fault) (now : Outside) : Type 0 where
  pub reads : ReadsFor did told before now
  pub leaves : LeavesAllElse before now
  pub stops : IfErr result (StopsReadsFor failed broke)
  pub ends : OnOk result ended
