-- What goes into a line of tasks, and what comes out of it.
use Rattle.std.specs.Prelude.{◌≡◌, ℕ, ◌+◌, ◌≤◌, IsTrue, OnOk, Option, Some, None, Result, Ok, Err, List, [], ◌∷◌, ◌++◌, length, take, drop}
use Rattle.std.specs.List.{flat_map}
use Rattle.morsel_meaning.specs.declared.fault.Fault.{Fault}
use Rattle.morsel_meaning.specs.declared.fault.Fault.TheVariants as faults
use Rattle.morsel_meaning.specs.Values.{Row}
use Rattle.morsel_outside.specs.declared.events.IoEvent.{IoEvent}
use Rattle.morsel_outside.specs.Outside.{Outside}
use Rattle.morsel_outside.specs.Actions.{Action, ReadingRange, FailedReadingRange, Does, event_of}
use Rattle.morsel_pipe.specs.Pieces.{Piece, Part}
use Rattle.morsel_scan.specs.CsvScans.{FitsScan}
use Rattle.morsel_scan.specs.StretchRows.{Gives}
use Rattle.morsel_scan.specs.Ahead.{Axis, EndsEachRow, Seeks, asked_up_to}
use Rattle.morsel_drive.specs.declared.line.Taken.{Taken}
use Rattle.morsel_drive.specs.declared.line.Taken.TheVariants as taken

-- a part is the text of some of the rows that its stretch gives
pub record SuitsPart (axis : Axis) (part : Part) : Type 0 where
  pub all : List Row
  pub gives : Gives axis.gives part.from part.to all
  pub within : part.skip + part.rows ≤ length all
  pub text : part.bytes ≡ axis.text_of (take part.rows (drop part.skip all))
  pub ends : IsTrue part.last → part.skip + part.rows ≡ length all

-- what holds of the part that was taken, where one was
abbrev pub IfPart : Taken → (Part → Type 0) → Type 0
IfPart (taken.Part part) P = P part
IfPart taken.Empty P = Unit {0}
IfPart taken.Whole P = Unit {0}

-- so it is, where nothing more comes
abbrev pub OnWhole : Taken → Type 0 → Type 0
OnWhole (taken.Part part) P = Unit {0}
OnWhole taken.Empty P = Unit {0}
OnWhole taken.Whole P = P

-- texts of rows are one after the other, and places at which no row ends are of one record at most
pub record IsSoundAxis (axis : Axis) : Type 0 where
  pub none : axis.text_of [] ≡ []
  pub adds : (first later : List Row) → axis.text_of (first ++ later) ≡ axis.text_of first ++ axis.text_of later
  pub ends : EndsEachRow axis

-- a fault is due, where it is one of what was read; memory may be out, and a call to the outside may fail, at any time
abbrev pub IsDue : (Fault → Type 0) → Fault → Type 0
IsDue due faults.OutOfMemory = Unit {0}
IsDue due (faults.ReadFault file) = Unit {0}
IsDue due faults.WriteFault = Unit {0}
IsDue due fault = due fault

-- the piece that is given, if one is, can be decoded
abbrev pub GivesFitting : Result (Option Piece) Fault → Type 0
GivesFitting (Ok (Some piece)) = FitsScan piece
GivesFitting (Ok None) = Unit {0}
GivesFitting (Err fault) = Unit {0}

-- the next piece of the input is given, whose stretch begins at the place up to which all was given, and the reader reads on; or the input ends there; or a fault that is due
abbrev pub GivesNext : (Piece → Type 0) → (Fault → Type 0) → (ℕ → ℕ → Type 0) → Type 0 → ℕ → Result (Option Piece) Fault → ℕ → ℕ → Type 0
GivesNext is_piece is_due is_end reads given (Ok (Some piece)) now asked = is_piece piece × (piece.from ≡ given) × (piece.to ≡ now) × reads
GivesNext is_piece is_due is_end reads given (Ok None) now asked = (now ≡ given) × is_end now asked × reads
GivesNext is_piece is_due is_end reads given (Err fault) now asked = IsDue is_due fault

-- each of a list is so
abbrev pub Each : {X : Type 0} → (X → Type 0) → List X → Type 0
Each P [] = Unit {0}
Each P (x ∷ xs) = P x × Each P xs

-- the action is a read of a file
abbrev pub IsReading : Action → Type 0
IsReading (ReadingRange file at len) = Unit {0}
IsReading (FailedReadingRange file at len) = Unit {0}
IsReading action = ⊥

-- each read is made in need; after them so many bytes were asked, unless there was a fault
abbrev pub SeeksFor : Axis → ℕ → ℕ → ℕ → Result (Option Piece) Fault → ℕ → List IoEvent → Type 0
SeeksFor axis chunk given asked result now events = Seeks axis chunk given asked events × OnOk result (asked_up_to axis asked events ≡ now)

-- what a call for a piece did to the outside: reads, and nothing else
pub record ReadsFor (did : List Action → Type 0) (sought : List IoEvent → Type 0) (before after : Outside) : Type 0 where
  pub reads : List Action
  pub does : Does before reads after
  pub are : Each IsReading reads
  pub did_them : did reads
  pub sought_them : sought (flat_map event_of reads)
