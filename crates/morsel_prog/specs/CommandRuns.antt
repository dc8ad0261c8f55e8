-- The run of a command: its query is had, and then it is run.
use Rattle.std.specs.Prelude.{◌≡◌, ◌⊎◌, ℕ, ◌+◌, ◌<◌, ◌≤◌, Option, Some, None, Result, Ok, Err, List, ◌++◌, map, length}
use Rattle.morsel_meaning.specs.declared.fault.Fault.{Fault}
use Rattle.morsel_meaning.specs.declared.fault.Fault.TheVariants as faults
use Rattle.morsel_outside.specs.declared.events.Asked.{Asked}
use Rattle.morsel_outside.specs.declared.events.Asked.TheVariants.{Open}
use Rattle.morsel_outside.specs.declared.events.IoEvent.{IoEvent}
use Rattle.morsel_outside.specs.Outside.{Outside, with_more}
use Rattle.morsel_outside.specs.Actions.{Rises}
use Rattle.morsel_drive.specs.Lines.{Each}
use Rattle.morsel_query.specs.RunOptions.{RunOptions}
use Rattle.morsel_query.specs.Queries.{QueryParts}
use Rattle.morsel_query.specs.QueryFlaws.{sources_of}
use Rattle.morsel_query.specs.Plans.{query_fault}
use Rattle.morsel_query.specs.Meanings.{IsValid}
use Rattle.morsel_engine.specs.Courses.{names_asked, SidesAsked, AsksSides, IsShort}
use Rattle.morsel_engine.specs.Runs.{TellsBytes, HasOpened, Answers, HasCauseInRun, Leaves, LeavesNoRowBy, ReadsAheadBy, Runs}
use Rattle.morsel_prog.specs.Words.{Command}
use Rattle.morsel_prog.specs.CommandQueries.{query_files, IsQueryOf, ReadsQueryFiles, NoReadFails, SamePrints, HasQuery, LacksQuery}

-- the query of a command was had, and run
pub record RunsQuery (old : Outside) (command : Command) (result : Result ℕ Fault) (new : Outside) : Type 0 where
  pub between : Outside  -- the outside after the query was had, and before its run
  pub had : HasQuery old command between
  pub runs : Runs between had.query had.options result new

-- no query was had, and this fault is answered
abbrev pub AnswersLack : Outside → Command → Result ℕ Fault → Outside → Type 0
AnswersLack old command (Ok count) new = ⊥
AnswersLack old command (Err fault) new = LacksQuery old command new fault × SamePrints old new

-- the run of a command
abbrev pub RunsCommand : Outside → Command → Result ℕ Fault → Outside → Type 0
RunsCommand old command result new = AnswersLack old command result new ⊎ RunsQuery old command result new

-- the run of words: that of their command; words that are no command touch nothing
abbrev pub RunsWords : Outside → Option Command → Result ℕ Fault → Outside → Type 0
RunsWords old (Some command) result new = RunsCommand old command result new
RunsWords old None (Ok count) new = ⊥
RunsWords old None (Err fault) new = (new ≡ old) × ((fault ≡ faults.Usage) ⊎ (fault ≡ faults.OutOfMemory))

-- the query of a command was had; then files with these bytes were opened, the first of its sources; and each of their bytes before some place, of each of its scans,
-- was asked once, and no other byte
pub record HasRun (old : Outside) (command : Command) (new : Outside) : Type 0 where
  pub between : Outside  -- the outside after the query was had, and before its run
  pub had : HasQuery old command between
  pub files : List (List ℕ)
  pub opened : HasOpened between had.query files new
  pub asked : SidesAsked  -- how many bytes of the files were asked
  pub events : List IoEvent
  pub gained : new.events ≡ with_more between.events events
  pub once : AsksSides had.query.left had.query.join (length between.sizes) (map length files) asked events

-- rows are answered, as the engine's `Answers` has it: the sink has the text of rows that the query may give, where bytes are told
pub record HasAnswer (old : Outside) (command : Command) (count : ℕ) (new : Outside) : Type 0 where
  pub run : HasRun old command new
  pub answers : Answers run.between run.had.query run.files run.asked new count

-- only lines were printed, or prints failed
pub record OnlyPrints (old new : Outside) : Type 0 where
  pub no_lower : old.write_faults ≤ new.write_faults
  pub after : new ≡ record old { printed = new.printed; write_faults = new.write_faults; print_faults = new.print_faults }

-- when the run of a query may answer a fault: it has no plan, and nothing was done; or there is a cause in the run
abbrev pub HasCauseOf : Outside → QueryParts → List (List ℕ) → SidesAsked → Outside → Fault → Type 0
HasCauseOf between query files asked new fault = ((query_fault query ≡ Some fault) × OnlyPrints between new) ⊎ HasCauseInRun between query files asked new fault

-- a fault of the run of a command's query; with a group-by it leaves no row, unless a write failed or memory was out
pub record FailsInRun (old : Outside) (command : Command) (new : Outside) (fault : Fault) : Type 0 where
  pub run : HasRun old command new
  pub cause : HasCauseOf run.between run.had.query run.files run.asked new fault
  pub head_alone : LeavesNoRowBy run.had.query.group run.between run.had.query (Err fault) new

-- when a fault may be answered to words
abbrev pub HasCauseIn : Outside → Option Command → Fault → Outside → Type 0
HasCauseIn old (Some command) fault new = (fault ≡ faults.OutOfMemory) ⊎ LacksQuery old command new fault ⊎ FailsInRun old command new fault
HasCauseIn old None fault new = (fault ≡ faults.Usage) ⊎ (fault ≡ faults.OutOfMemory)

-- the names asked for are the first of these, each only where the files of all names before it were opened
pub record AsksFrontOf (old : Outside) (names : List Asked) (new : Outside) : Type 0 where
  pub asked : List Asked
  pub later : List Asked
  pub gained : new.asked ≡ old.asked ++ asked
  pub front : names ≡ asked ++ later
  pub opened : List ℕ
  pub sizes : new.sizes ≡ old.sizes ++ opened
  pub in_order : length asked ≤ length opened + 1

-- the names that a command with this query asks for, in order: those of its query files, of the query's sources and of its sink
abbrev pub names_of_command : Command → QueryParts → List Asked
names_of_command command query = map Open (query_files command) ++ names_asked query

-- the first names of the command's query files were asked for, and no other; or the first of all names
abbrev pub AsksInOrder : Outside → Command → Outside → Type 0
AsksInOrder old command new = AsksFrontOf old (map Open (query_files command)) new
    ⊎ ((run : HasRun old command new) × AsksFrontOf old (names_of_command command run.had.query) new)

-- each read of a source is short and not far ahead of what was written, where bytes are told
pub record IsNotFarAhead (old : Outside) (command : Command) (new : Outside) : Type 0 where
  pub run : HasRun old command new
  pub short : Each (IsShort run.had.options.chunk_bytes) run.events
  pub ahead : TellsBytes new → ReadsAheadBy run.had.query.join run.had.query.group run.had.query run.had.options (length run.between.sizes) run.files run.events

-- no file but some of the query files was opened or read, and no sink was made
abbrev pub ReadsOnlyQueries : Outside → Command → Outside → Type 0
ReadsOnlyQueries old command new = (texts : List (List ℕ)) × ReadsQueryFiles old (query_files command) texts new

-- a sink that was made is the query's, and has a beginning of the rows' text
abbrev pub LeavesInRun : Outside → Command → Outside → Type 0
LeavesInRun old command new = (run : HasRun old command new) × Leaves run.between run.had.query run.files new

-- the number of a file whose open or read failed is that of a query file or a source
abbrev pub FailsAtFile : Outside → ℕ → Outside → Type 0
FailsAtFile old files new = (file : ℕ) × (file < files) × Rises old.read_faults new.read_faults × (new.failed ≡ length old.sizes + file)

-- at most this many files more are open, at most one sink more was made, and a failed open or read was of a file with one of the next numbers
pub record KeepsOther (old : Outside) (files : ℕ) (new : Outside) : Type 0 where
  pub opened : List (List ℕ)
  pub few : length opened ≤ files
  pub sizes : new.sizes ≡ old.sizes ++ map length opened
  pub held : new.held ≡ with_more old.held opened
  pub sinks : (new.sinks ≡ old.sinks) ⊎ (new.sinks ≡ old.sinks + 1)
  pub reads : NoReadFails old new ⊎ FailsAtFile old files new

-- how many files a command with this query opens
abbrev pub files_of_command : Command → QueryParts → ℕ
files_of_command command query = length (query_files command) + length (sources_of query)

-- the files of a command whose query was not had, or was
abbrev pub KeepsInOrder : Outside → Command → Outside → Type 0
KeepsInOrder old command new = KeepsOther old (length (query_files command)) new
    ⊎ ((run : HasRun old command new) × KeepsOther old (files_of_command command run.had.query) new)

-- the bytes of the files of a command are told; those of its query files are this query, and it is valid over the others
pub record IsValidFor (old : Outside) (command : Command) (new : Outside) : Type 0 where
  pub told : TellsBytes new
  pub texts : List (List ℕ)
  pub all : length texts ≡ length (query_files command)
  pub files : List (List ℕ)
  pub held : new.held ≡ with_more old.held (texts ++ files)
  pub query : QueryParts
  pub options : RunOptions
  pub is_query : IsQueryOf command texts query options
  pub valid : IsValid query files
