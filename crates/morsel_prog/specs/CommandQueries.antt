-- The query of a command: the words tell it, or a query file does.
use Rattle.std.specs.Prelude.{◌≡◌, ℕ, ◌+◌, ◌<◌, ◌≤◌, false, None, List, [], ◌∷◌, ◌++◌, map, length, take, get_or}
use Rattle.morsel_meaning.specs.declared.fault.Fault.{Fault}
use Rattle.morsel_meaning.specs.declared.fault.Fault.TheVariants as faults
use Rattle.morsel_meaning.specs.declared.value.Field.{Field}
use Rattle.morsel_grammar.specs.Dialect.{standard}
use Rattle.morsel_outside.specs.declared.events.Asked.TheVariants.{Open}
use Rattle.morsel_outside.specs.declared.events.IoEvent.{IoEvent}
use Rattle.morsel_outside.specs.declared.events.IoEvent.TheVariants.{ReadAt, Wrote}
use Rattle.morsel_outside.specs.Outside.{Outside, with_more}
use Rattle.morsel_outside.specs.Actions.{Rises}
use Rattle.morsel_drive.specs.Lines.{Each}
use Rattle.morsel_sink.specs.declared.spec.SinkFormat.TheVariants.{NdJson}
use Rattle.morsel_query.specs.Queries.{CsvFiles, QueryParts}
use Rattle.morsel_query.specs.QueryFlaws.{IsSound, IsFlawFault}
use Rattle.morsel_query.specs.RunOptions.{RunOptions, standard_options}
use Rattle.morsel_prog.specs.Words.{Command, ScanFile, AnswerQuery}
use Rattle.morsel_prog.specs.QueryFiles.{IsQueryFile, RefusesBytesOf}

-- a scan of one CSV file that is written in the standard way, all its rows and columns, into NDJSON
abbrev pub scan_parts : List ℕ → List Field → List ℕ → QueryParts
scan_parts file schema out = record {
  left = record {
    sources = file ∷ [];
    format = CsvFiles schema standard;
    asked = record { slice = None; columns = []; row_index = None; path = None; allow_missing_columns = false };
    filter = None;
  };
  join = None;
  group = None;
  sink = record { name = out; format = NdJson };
}

-- the names of the files that tell the query of a command: none, or one
abbrev pub query_files : Command → List (List ℕ)
query_files (ScanFile file schema out) = []
query_files (AnswerQuery name out) = name ∷ []

-- the query of a command and the options by which it is run, where its query files have these bytes
abbrev pub IsQueryOf : Command → List (List ℕ) → QueryParts → RunOptions → Type 0
IsQueryOf (ScanFile file schema out) texts query options = IsSound query × (query ≡ scan_parts file schema out) × (options ≡ standard_options)
IsQueryOf (AnswerQuery name out) [] query options = ⊥
IsQueryOf (AnswerQuery name out) (text ∷ texts) query options = IsQueryFile text out query options

-- why a command has no query, where its query files have these bytes
abbrev pub RefusesQueryOf : Command → List (List ℕ) → Fault → Type 0
RefusesQueryOf (ScanFile file schema out) texts fault = IsFlawFault (scan_parts file schema out) fault
RefusesQueryOf (AnswerQuery name out) [] fault = ⊥
RefusesQueryOf (AnswerQuery name out) (text ∷ texts) fault = RefusesBytesOf text out fault

-- the event is a read of a file within its size; the numbers of the files go on from the first
abbrev pub IsReadWithin : ℕ → List ℕ → IoEvent → Type 0
IsReadWithin first sizes (ReadAt file at len) = (source : ℕ) × (source < length sizes) × (file ≡ first + source) × (at + len ≤ get_or sizes source 0)
IsReadWithin first sizes (Wrote len) = ⊥

-- the first of these files were opened, have these bytes, and were read; no other file was, no sink was made, and nothing was written
pub record ReadsQueryFiles (old : Outside) (names texts : List (List ℕ)) (new : Outside) : Type 0 where
  pub tried : ℕ  -- how many were to be opened
  pub known : tried ≤ length names
  pub opened : length texts ≤ tried
  pub in_order : tried ≤ length texts + 1
  pub sizes : new.sizes ≡ old.sizes ++ map length texts
  pub held : new.held ≡ with_more old.held texts
  pub sinks : new.sinks ≡ old.sinks
  pub made : new.made ≡ old.made
  pub events : List IoEvent
  pub gained : new.events ≡ with_more old.events events
  pub within : Each (IsReadWithin (length old.sizes) (map length texts)) events
  pub asked : new.asked ≡ old.asked ++ map Open (take tried names)

-- no open and no read failed
pub record NoReadFails (old new : Outside) : Type 0 where
  pub count : new.read_faults ≡ old.read_faults
  pub failed : new.failed ≡ old.failed

-- no line was printed, and no make, write or print failed
pub record SamePrints (old new : Outside) : Type 0 where
  pub printed : new.printed ≡ old.printed
  pub write_faults : new.write_faults ≡ old.write_faults
  pub print_faults : new.print_faults ≡ old.print_faults

-- the query files of a command were read whole, and tell this query; nothing else was done
pub record HasQuery (old : Outside) (command : Command) (new : Outside) : Type 0 where
  pub texts : List (List ℕ)  -- the bytes of the query files
  pub all : length texts ≡ length (query_files command)
  pub query : QueryParts
  pub options : RunOptions
  pub is_query : IsQueryOf command texts query options
  pub reads : ReadsQueryFiles old (query_files command) texts new
  pub read_well : NoReadFails old new
  pub same : SamePrints old new

-- when a command may have no query: memory is out; a query file could not be read, as the count says; or its bytes, or the words, are refused
abbrev pub HasNoQueryFor : Outside → Command → List (List ℕ) → Outside → Fault → Type 0
HasNoQueryFor old command texts new faults.OutOfMemory = NoReadFails old new
HasNoQueryFor old command texts new (faults.ReadFault file) = (file ≡ 4294967295) × Rises old.read_faults new.read_faults
    × (source : ℕ) × (source < length (query_files command)) × (new.failed ≡ length old.sizes + source)
HasNoQueryFor old command texts new fault = NoReadFails old new × (length texts ≡ length (query_files command)) × RefusesQueryOf command texts fault

-- no query was had, for this fault; nothing was done but that its query files were read
pub record LacksQuery (old : Outside) (command : Command) (new : Outside) (fault : Fault) : Type 0 where
  pub texts : List (List ℕ)
  pub reads : ReadsQueryFiles old (query_files command) texts new
  pub cause : HasNoQueryFor old command texts new fault
