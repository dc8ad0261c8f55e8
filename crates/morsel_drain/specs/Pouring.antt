-- What the caller of a line that is fed nothing did, and what it answers.
use Rattle.std.specs.Prelude.{◌≡◌, ◌⊎◌, ℕ, IfErr, OnOk, Result, List}
use Rattle.std.specs.List.{sum_by}
use Rattle.morsel_meaning.specs.declared.fault.Fault.{Fault}
use Rattle.morsel_outside.specs.Outside.{Outside}
use Rattle.morsel_outside.specs.Actions.{Action, Does, write_failures}
use Rattle.morsel_scan.specs.Ahead.{Axis}
use Rattle.morsel_drive.specs.Lines.{Each}
use Rattle.morsel_drive.specs.Driving.{IsWriting, IsWriteStop, DrivesAxis}

-- the places before this one are one place, whatever was asked
abbrev pub IsOnePlace : ℕ → ℕ → Type 0
IsOnePlace place asked = place ≡ 1

-- why a run of writes alone has a fault: memory is out, a write failed, or the line answered it
abbrev pub StopsWritesFor : (Fault → Type 0) → List Action → Fault → Type 0
StopsWritesFor broke actions fault = IsWriteStop actions fault ⊎ broke fault

-- what a run answers and what it wrote, given what the one place gives: all its rows, or a fault that is due; the text is a front of the rows' before the first fault. Nothing is read, so within any bound each read is in time
abbrev pub PoursAxis : Axis → (Fault → Type 0) → List Action → Result ℕ Fault → Type 0
PoursAxis axis is_due actions result = (w chunk : ℕ) → DrivesAxis axis is_due IsOnePlace 1 (Unit {0}) w chunk actions result

-- a whole run: it made writes and did nothing else; why it has a fault, that where it has none no write failed, and, where the line serves a job, what was written
pub record Pours (broke : Fault → Type 0) (told : List Action → Type 0) (before : Outside) (result : Result ℕ Fault) (now : Outside) : Type 0 where
  pub actions : List Action
  pub does : Does before actions now
  pub are : Each IsWriting actions
  pub stops : IfErr result (StopsWritesFor broke actions)
  pub fine : OnOk result (sum_by write_failures actions ≡ 0)
  pub told_them : told actions
