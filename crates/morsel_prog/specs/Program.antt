-- What the program does with its words: a run, and then the line that tells its answer.
use Rattle.std.specs.Prelude.{◌≡◌, ◌⊎◌, ℕ, Option, Some, None, Result, Ok, Err, [], ◌∷◌, decimal}
use Rattle.morsel_meaning.specs.declared.fault.Fault.{Fault}
use Rattle.morsel_meaning.specs.declared.fault.Fault.TheVariants as faults
use Rattle.morsel_meaning.specs.Faults.{fault_line, fault_status}
use Rattle.morsel_outside.specs.Outside.{Outside, with_last}
use Rattle.morsel_outside.specs.Actions.{Printing, FailedPrinting, Rises, Does}
pub use Rattle.morsel_engine.specs.Runs.{NoneRises}
use Rattle.morsel_prog.specs.Complete.{IsValidCommand, IsDone}
use Rattle.morsel_prog.specs.Words.{Command}
use Rattle.morsel_prog.specs.CommandQueries.{NoReadFails}
use Rattle.morsel_prog.specs.CommandRuns.{RunsWords, HasRun, HasAnswer, HasCauseIn, ReadsOnlyQueries, LeavesInRun, AsksInOrder, IsNotFarAhead, KeepsInOrder}

-- a fault's line was printed; or could not be; or memory ran out
abbrev pub ReportsFault : Outside → Fault → ℕ → Outside → Type 0
ReportsFault old fault status new =
    ((status ≡ fault_status fault) × Does old (Printing (fault_line fault) ∷ []) new)
    ⊎ ((status ≡ fault_status fault) × Does old (FailedPrinting ∷ []) new)
    ⊎ ((status ≡ fault_status faults.OutOfMemory) × (new ≡ old))

-- the count was printed, or not
abbrev pub PrintsCount : Outside → ℕ → Result (Unit {0}) Fault → Outside → Type 0
PrintsCount old count (Ok _) new = Does old (Printing (decimal count) ∷ []) new
PrintsCount old count (Err faults.OutOfMemory) new = new ≡ old
PrintsCount old count (Err faults.WriteFault) new = Does old (FailedPrinting ∷ []) new
PrintsCount old count (Err fault) new = ⊥

-- the count was printed; or could not be, or memory ran out, and that was reported
abbrev pub ReportsCount : Outside → ℕ → ℕ → Outside → Type 0
ReportsCount old count status new =
    ((status ≡ 0) × Does old (Printing (decimal count) ∷ []) new)
    ⊎ ((unprinted : Outside) × Does old (FailedPrinting ∷ []) unprinted × ReportsFault unprinted faults.WriteFault status new)
    ⊎ ReportsFault old faults.OutOfMemory status new

-- the answer of a run was reported
abbrev pub Reports : Outside → Result ℕ Fault → ℕ → Outside → Type 0
Reports old (Ok count) status new = ReportsCount old count status new
Reports old (Err fault) status new = ReportsFault old fault status new

-- a run in which nothing was printed and no print failed, and then the report of its answer
pub record RunsAndReports (old : Outside) (command : Option Command) (status : ℕ) (new : Outside) : Type 0 where
  pub result : Result ℕ Fault  -- what the run answered
  pub between : Outside  -- the outside after the run and before its report
  pub ran : RunsWords old command result between
  pub report : Reports between result status new

-- status 0: the words are a command, its query was answered, and the number of rows printed
abbrev pub AnswersWords : Outside → Option Command → Outside → Type 0
AnswersWords old None new = ⊥
AnswersWords old (Some command) new = (count : ℕ) × HasAnswer old command count new × (new.printed ≡ with_last old.printed (decimal count))

-- how a status tells a fault: by its line; without a line where printing failed, or memory ran out
abbrev pub TellsFault : Outside → Fault → ℕ → Outside → Type 0
TellsFault old fault status new =
    ((status ≡ fault_status fault) × (new.printed ≡ with_last old.printed (fault_line fault)))
    ⊎ ((status ≡ fault_status fault) × (new.printed ≡ old.printed) × Rises old.write_faults new.write_faults)
    ⊎ ((status ≡ fault_status faults.OutOfMemory) × (new.printed ≡ old.printed))

-- another status: a fault that has its cause, and was told
abbrev pub CausesWords : Outside → Option Command → ℕ → Outside → Type 0
CausesWords old command status new = (fault : Fault) × HasCauseIn old command fault new × TellsFault old fault status new

-- another status: no sink, or one whose text is the beginning of the rows' text
abbrev pub LeavesAfterFault : Outside → Option Command → Outside → Type 0
LeavesAfterFault old (Some command) new = ReadsOnlyQueries old command new ⊎ LeavesInRun old command new
LeavesAfterFault old None new = new.made ≡ old.made

-- whatever the status, the names asked for are the command's, from the first on
abbrev pub AsksNames : Outside → Option Command → Outside → Type 0
AsksNames old (Some command) new = AsksInOrder old command new
AsksNames old None new = new.asked ≡ old.asked

-- whatever the status, no byte of a source is asked twice, none past its size, and no other byte but of the query files
abbrev pub ReadsOnce : Outside → Option Command → Outside → Type 0
ReadsOnce old (Some command) new = ReadsOnlyQueries old command new ⊎ HasRun old command new
ReadsOnce old None new = new.events ≡ old.events

-- whatever the status, no read of a source is far ahead of what was written
abbrev pub ReadsNotFarAhead : Outside → Option Command → Outside → Type 0
ReadsNotFarAhead old (Some command) new = ReadsOnlyQueries old command new ⊎ IsNotFarAhead old command new
ReadsNotFarAhead old None new = new.events ≡ old.events

-- whatever the status, the files that are open are the command's, at most one sink more was made, and a failed read was of one of these files
abbrev pub KeepsRest : Outside → Option Command → Outside → Type 0
KeepsRest old (Some command) new = KeepsInOrder old command new
KeepsRest old None new = (new.sizes ≡ old.sizes) × (new.held ≡ old.held) × (new.sinks ≡ old.sinks) × NoReadFails old new

-- the query theorem: what a status says of the outside before and after
pub record QueryTheorem (old : Outside) (command : Option Command) (status : ℕ) (new : Outside) : Type 0 where
  -- status 0: the sink has the text of rows that the query may give, and their number was printed
  pub answers : status ≡ 0 → AnswersWords old command new
  -- every other status tells a fault whose cause holds; `Usage` comes for words that are no command, and for no others
  pub caused : (status ≡ 0 → ⊥) → CausesWords old command status new
  -- a command whose query is valid over its files ends with status 0, unless a count of faults rose or memory ran out
  pub complete : IsValidCommand old command new → NoneRises old new → IsDone status
  -- after a fault no sink was made, or one whose text is the beginning of the text of the rows before the first faulty record; of a join or a group-by over valid files, of the text of rows that it may give
  pub after_fault : (status ≡ 0 → ⊥) → LeavesAfterFault old command new
  -- the names asked for are those of the query file, of the sources and of the sink, from the first on, each only where the files before were opened
  pub asks : AsksNames old command new
  -- no byte of a source is asked twice, and none past its size
  pub reads : ReadsOnce old command new
  -- each read of a source is short, and not far ahead of what was written
  pub reads_ahead : ReadsNotFarAhead old command new
  -- the files that are open are the command's, at most one sink more was made, and a failed read was of one of these files
  pub keeps : KeepsRest old command new
  -- a run without a failed print, and then its report: where the line of a fault cannot be printed its status still tells it, and where only the printing fails the text is whole
  pub reported : RunsAndReports old command status new
