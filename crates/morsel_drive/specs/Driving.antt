-- What the caller of a line did, how far its text is, and what it answers.
use Rattle.std.specs.Prelude.{◌≡◌, ◌⊎◌, ℕ, ◌+◌, ◌<◌, ◌≤◌, if◌then◌else◌, Bool, true, false, IfErr, OnOk, Result, Ok, Err, List, [], ◌∷◌, ◌++◌, length, take}
use Rattle.std.specs.List.{flat_map, filter, sum_by}
use Rattle.morsel_meaning.specs.declared.fault.Fault.{Fault}
use Rattle.morsel_meaning.specs.declared.fault.Fault.TheVariants as faults
use Rattle.morsel_meaning.specs.Values.{Row}
use Rattle.morsel_outside.specs.declared.events.IoEvent.{IoEvent}
use Rattle.morsel_outside.specs.Outside.{Outside}
use Rattle.morsel_outside.specs.Actions.{Action, ReadingRange, FailedReadingRange, Writing, FailedWriting, Does, event_of, text_by, write_failures}
use Rattle.morsel_pipe.specs.Pieces.{Piece, Part}
use Rattle.morsel_scan.specs.CsvScans.{FitsScan}
use Rattle.morsel_scan.specs.StretchRows.{Gives, before_fault}
use Rattle.morsel_scan.specs.Ahead.{Axis, IsWrittenTo, ReadsAhead, asked_up_to}
use Rattle.morsel_drive.specs.Lines.{Each, IsReading, IsDue}
use Rattle.morsel_drive.specs.declared.written.Written.{Written}
use Rattle.morsel_drive.specs.declared.caller.Input.{Input}
use Rattle.morsel_drive.specs.declared.caller.Input.TheVariants.{Reading, Holding, Ended}

-- whether an action is a read of a file
abbrev pub is_reading : Action → Bool
is_reading (ReadingRange file at len) = true
is_reading (FailedReadingRange file at len) = true
is_reading action = false

-- the action is a write into a sink
abbrev pub IsWriting : Action → Type 0
IsWriting (Writing piece) = Unit {0}
IsWriting (FailedWriting piece) = Unit {0}
IsWriting action = ⊥

-- what a run did to the outside: reads of its reader, and writes
pub record Transfers (did : List Action → Type 0) (before : Outside) (actions : List Action) (now : Outside) : Type 0 where
  pub does : Does before actions now
  pub each : Each (λ action. IsReading action ⊎ IsWriting action) actions
  pub reads : did (filter is_reading actions)

-- the text has a front of the rows before the first fault: all that the places before `next` give, and maybe more; and each read was in time
pub record KeepsText (axis : Axis) (w chunk : ℕ) (actions : List Action) (written : Written) : Type 0 where
  pub done : List Row  -- what the places before `next` give
  pub gives : Gives axis.gives 0 written.next done
  pub begun : written.begun ≡ length done
  pub within : written.rows ≤ length (before_fault axis.gives)
  pub text : flat_map text_by actions ≡ axis.text_of (take written.rows (before_fault axis.gives))
  pub ahead : ReadsAhead axis w chunk 0 axis.head (flat_map event_of actions)

-- the beginning of the text of the rows before the first fault was written, and each read was in time
pub record Stops (axis : Axis) (w chunk : ℕ) (actions : List Action) : Type 0 where
  pub rest : List ℕ
  pub front : flat_map text_by actions ++ rest ≡ axis.text_of (before_fault axis.gives)
  pub ahead : ReadsAhead axis w chunk 0 axis.head (flat_map event_of actions)

-- so long as all goes well, the text is kept; with a fault the run stops
abbrev pub KeepsOrStops : {T : Type 0} → Axis → ℕ → ℕ → List Action → Result T Fault → Written → Type 0
KeepsOrStops axis w chunk actions (Ok _) written = KeepsText axis w chunk actions written
KeepsOrStops axis w chunk actions (Err fault) written = Stops axis w chunk actions

-- where the text is after a part
abbrev pub IsAfter : Part → Written → Written → Type 0
IsAfter part was now = (now.rows ≡ was.rows + part.rows) × (now.next ≡ (if part.last then part.to else was.next))
    × (now.begun ≡ (if part.last then was.rows + part.rows else was.begun))

-- a part is written where it begins at the place where the text ends; else nothing is
abbrev pub WritesPart : Outside → Part → Written → Result (Unit {0}) Fault → Outside → Written → Type 0
WritesPart old part was (Ok _) new now = (part.from ≡ was.next) × (was.begun + part.skip ≡ was.rows) × IsAfter part was now × Does old (Writing part.bytes ∷ []) new
WritesPart old part was (Err faults.OutOfMemory) new now = new ≡ old
WritesPart old part was (Err faults.WriteFault) new now = (part.from ≡ was.next) × (was.begun + part.skip ≡ was.rows)
    × (taken : ℕ) × (taken ≤ length part.bytes) × Does old (FailedWriting (take taken part.bytes) ∷ []) new
WritesPart old part was (Err fault) new now = ⊥

-- why writing stops: memory is out, or a write failed, and was the last one
abbrev pub IsWriteStop : List Action → Fault → Type 0
IsWriteStop actions faults.OutOfMemory = Unit {0}
IsWriteStop actions faults.WriteFault = 0 < sum_by write_failures actions
IsWriteStop actions fault = ⊥

-- what taking parts out and writing them did: writes, and nothing else; none failed, where there is no fault
pub record WritesOn {T : Type 0} (told : List Action → Type 0) (old : Outside) (result : Result T Fault) (new : Outside) : Type 0 where
  pub writes : List Action
  pub does : Does old writes new
  pub are : Each IsWriting writes
  pub stops : IfErr result (IsWriteStop writes)
  pub fine : OnOk result (sum_by write_failures writes ≡ 0)
  pub told_them : told writes

-- the piece that the caller holds, if it holds one, can be decoded
abbrev pub HoldsFitting : Input → Type 0
HoldsFitting Reading = Unit {0}
HoldsFitting (Holding piece) = FitsScan piece
HoldsFitting Ended = Unit {0}

-- the piece that the caller holds, if it holds one, is of the input
abbrev pub HoldsPieceOf : (Piece → Type 0) → Input → Type 0
HoldsPieceOf is_piece Reading = Unit {0}
HoldsPieceOf is_piece (Holding piece) = is_piece piece
HoldsPieceOf is_piece Ended = Unit {0}

-- what the caller holds of the input is a piece of it; where it holds its end, no place gives more
abbrev pub FitsInput : (Piece → Type 0) → (ℕ → ℕ → Type 0) → ℕ → ℕ → Input → Type 0
FitsInput is_piece is_end given asked Reading = Unit {0}
FitsInput is_piece is_end given asked (Holding piece) = is_piece piece
FitsInput is_piece is_end given asked Ended = is_end given asked

-- what the caller holds of the input, and that the reader reads on; or a fault that is due
abbrev pub GivesInput : (Piece → Type 0) → (Fault → Type 0) → (ℕ → ℕ → Type 0) → Type 0 → ℕ → ℕ → Result Input Fault → Type 0
GivesInput is_piece is_due is_end reads given asked (Ok input) = FitsInput is_piece is_end given asked input × reads
GivesInput is_piece is_due is_end reads given asked (Err fault) = IsDue is_due fault

-- where all that the places before one add is written, each read is in time; after them so many bytes were asked, unless there was a fault
abbrev pub ReadsInTime : Axis → ℕ → ℕ → ℕ → ℕ → Result Input Fault → ℕ → List IoEvent → Type 0
ReadsInTime axis w chunk asked next result now events = ((written : ℕ) → IsWrittenTo axis next written → ReadsAhead axis w chunk asked written events)
    × OnOk result (asked_up_to axis asked events ≡ now)

-- the input has ended
abbrev pub HasEnded : Input → Type 0
HasEnded Reading = ⊥
HasEnded (Holding piece) = ⊥
HasEnded Ended = Unit {0}

-- rows are answered where all that was given is written, and no more, and the input has ended
abbrev pub EndsWith : ℕ → Input → Written → Result ℕ Fault → Type 0
EndsWith given input written (Ok n) = (n ≡ written.rows) × (written.next ≡ given) × (written.begun ≡ written.rows) × HasEnded input
EndsWith given input written (Err faults.OutOfMemory) = Unit {0}
EndsWith given input written (Err fault) = ⊥

-- why a run has a fault: memory is out, a write failed, the reader answered it, or the line did
abbrev pub StopsFor : (Fault → Type 0) → (Fault → Type 0) → List Action → Fault → Type 0
StopsFor failed broke actions fault = IsWriteStop actions fault ⊎ failed fault ⊎ broke fault

-- rows are answered where the places before this one give them, after which no place gives a row, and their text was written
abbrev pub WritesRows : Axis → (ℕ → ℕ → Type 0) → ℕ → List Action → Result ℕ Fault → Type 0
WritesRows axis is_end given actions (Ok n) = (rows : List Row) × Gives axis.gives 0 given rows × is_end given (asked_up_to axis 0 (flat_map event_of actions))
    × (flat_map text_by actions ≡ axis.text_of rows) × (n ≡ length rows)
WritesRows axis is_end given actions (Err fault) = Unit {0}

-- what a run answers and what it wrote, given what each place gives: all rows of the places before the one up to which the input was given, or a fault that is due; the text is a front of the rows' before the first fault, and each read in time
pub record DrivesAxis (axis : Axis) (is_due : Fault → Type 0) (is_end : ℕ → ℕ → Type 0) (given : ℕ) (reads : Type 0) (w chunk : ℕ) (actions : List Action) (result : Result ℕ Fault) : Type 0 where
  pub writes : WritesRows axis is_end given actions result
  pub reads_on : OnOk result reads
  pub due : IfErr result (IsDue is_due)
  pub front : Stops axis w chunk actions

-- a whole run: what it did, why it has a fault, that where it has none its reader came to the end and no write failed, and, where it is told what the files contain, what was written
pub record Drives (did : List Action → Type 0) (failed broke : Fault → Type 0) (ended : Type 0) (told : List Action → Type 0) (before : Outside) (result : Result ℕ Fault) (now : Outside) : Type 0 where
  pub actions : List Action
  pub transfers : Transfers did before actions now
  pub stops : IfErr result (StopsFor failed broke actions)
  pub ends : OnOk result ended
  pub fine : OnOk result (sum_by write_failures actions ≡ 0)
  pub told_them : told actions
