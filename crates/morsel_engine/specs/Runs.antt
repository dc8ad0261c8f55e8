-- What a run of a query answers, why, what it read, and what it leaves.
use Rattle.std.specs.Prelude.{◌≡◌, ◌⊎◌, ℕ, ◌+◌, ◌*◌, ◌<◌, ◌≤◌, IfOk, IfErr, IsOkUnless, Option, Some, None, Result, Ok, Err, List, [], ◌∷◌, ◌++◌, map, length}
use Rattle.std.specs.List.{sum_by}
use Rattle.morsel_meaning.specs.declared.fault.Fault.{Fault}
use Rattle.morsel_meaning.specs.declared.fault.Fault.TheVariants as faults
use Rattle.morsel_meaning.specs.declared.fault.ComputeKind.TheVariants as kinds
use Rattle.morsel_meaning.specs.Values.{Row}
use Rattle.morsel_group.specs.Asked.{GroupAsked}
use Rattle.morsel_group.specs.Grouping.{Grouped}
use Rattle.morsel_group.specs.GroupCauses.{FitsGroups}
use Rattle.morsel_outside.specs.declared.events.Asked.{Asked}
use Rattle.morsel_outside.specs.declared.events.IoEvent.{IoEvent}
use Rattle.morsel_outside.specs.Outside.{Outside, with_more, with_sink}
use Rattle.morsel_outside.specs.Actions.{Rises, Making, Does}
use Rattle.morsel_scan.specs.Ahead.{Axis, ReadsAhead}
use Rattle.morsel_scan.specs.StretchRows.{Gives, before_fault, HasFaultWithin}
use Rattle.morsel_scan.specs.CsvPieces.{HaveRows}
use Rattle.morsel_scan.specs.CsvAxis.{csv_axis}
use Rattle.morsel_read.specs.PieceReads.{IsSliceEnd}
use Rattle.morsel_line.specs.ScanSources.{opened_as}
use Rattle.morsel_drive.specs.Lines.{Each}
use Rattle.morsel_query.specs.RunOptions.{RunOptions, pieces_ahead}
use Rattle.morsel_query.specs.Queries.{FileScan, JoinPart, QueryParts}
use Rattle.morsel_query.specs.QueryFlaws.{sources_of}
use Rattle.morsel_query.specs.Plans.{query_fault}
use Rattle.morsel_query.specs.Meanings.{csv_scan, rows_over, left_files, right_files, AreJoinRows, shape_over, Meaning, AreOfFormat, text_of, IsValid}
use Rattle.morsel_query.specs.CsvCauses.{GroupCauseBy, QueryCause}
use Rattle.morsel_engine.specs.Courses.{openings, file_numbers, names_asked, SidesAsked, AsksSides, IsShort}

-- what the opened files contain is told
abbrev pub TellsBytes : Outside → Type 0
TellsBytes o = (held : List (List ℕ)) × (o.held ≡ Some held)

-- what each byte of the sources of a query of one scan gives the sink, where they have these bytes, and their numbers as they were opened go on from the first
abbrev pub axis_of : QueryParts → ℕ → List (List ℕ) → Axis
axis_of query number files = csv_axis (csv_scan query.left) 0 query.left.sources files (opened_as (file_numbers number (length files))) 0 (text_of query)

-- for each byte of the sources of a scan, whose numbers within the query go on from the first, the rows that it gives, or its fault
abbrev pub gives_of_scan : FileScan → ℕ → List (List ℕ) → List (Result (List Row) Fault)
gives_of_scan scan first files = (csv_axis (csv_scan scan) first scan.sources files [] 0 (λ rows. [])).gives

-- the rows of a query of one scan whose records stand before the first record that is faulty: outside the grammar, not UTF-8, with a bad cell of a used column within the slice, or
-- with a row or an index past its limit
abbrev pub rows_before_fault : QueryParts → List (List ℕ) → List Row
rows_before_fault query files = before_fault (axis_of query 0 files).gives

-- no record of a scan that was not wholly asked, where so many bytes were, and none after it is faulty
abbrev pub AreFineFrom : FileScan → ℕ → ℕ → List (List ℕ) → Type 0
AreFineFrom scan first asked files = let gives = gives_of_scan scan first files in (fault : Fault) → HasFaultWithin gives asked (length gives) fault → ⊥

-- the bytes of the sources of a scan before a place give these rows, and none of their records is faulty
abbrev pub GivesRowsTo : FileScan → ℕ → List (List ℕ) → ℕ → List Row → Type 0
GivesRowsTo scan first files place rows = Gives (gives_of_scan scan first files) 0 place rows

-- the files of a scan are records to their ends, and not too many of them count as rows
abbrev pub HaveFewRows : FileScan → List (List ℕ) → Type 0
HaveFewRows scan files = (rows : ℕ) × HaveRows (csv_scan scan) files rows × (rows ≤ 4294967295)

-- all bytes of the sources of a scan were asked and give these rows; the sources are of their format, and these are the rows that the scan means
pub record ScansAll (scan : FileScan) (first asked : ℕ) (files : List (List ℕ)) (rows : List Row) : Type 0 where
  pub all : asked ≡ sum_by length files
  pub gives : GivesRowsTo scan first files (length (gives_of_scan scan first files)) rows
  pub of_format : AreOfFormat scan.format files
  pub few : HaveFewRows scan files
  pub means : rows_over scan first files ≡ Ok rows

-- the slice of a scan keeps no row after a place up to which the bytes were asked and give these rows; they are the rows that the scan means, if nothing after them is faulty
pub record ScansSlice (scan : FileScan) (first asked : ℕ) (files : List (List ℕ)) (rows : List Row) : Type 0 where
  pub given : ℕ
  pub gives : GivesRowsTo scan first files given rows
  pub ends : IsSliceEnd (csv_scan scan) files given asked
  pub means : AreFineFrom scan first asked files → rows_over scan first files ≡ Ok rows

-- the rows are what a scan means, as far as its sources were asked: all of them, or up to the end of its slice
abbrev pub ScansAsked : FileScan → ℕ → ℕ → List (List ℕ) → List Row → Type 0
ScansAsked scan first asked files rows = ScansAll scan first asked files rows ⊎ ScansSlice scan first asked files rows

-- the rows are those of a join of rows that its scans mean, as far as the sources of each were asked
pub record JoinsAsked (left : FileScan) (join : JoinPart) (asked : SidesAsked) (files : List (List ℕ)) (rows : List Row) : Type 0 where
  pub lefts : List Row
  pub rights : List Row
  pub left_rows : ScansAsked left 0 asked.left (left_files left files) lefts
  pub right_rows : ScansAsked join.right (length left.sources) asked.right (right_files left files) rights
  pub joined : AreJoinRows left join lefts rights rows

-- the rows are what a query with this left side and this join means before they are grouped, as far as its sources were asked
abbrev pub MeansAskedBy : FileScan → Option JoinPart → SidesAsked → List (List ℕ) → List Row → Type 0
MeansAskedBy left None asked files rows = ScansAsked left 0 asked.left files rows
MeansAskedBy left (Some join) asked files rows = JoinsAsked left join asked files rows

-- the rows are those of a group-by of rows that a query with this left side and this join means, as far as its sources were asked; the same rows for all reductions, and one that has an answer
pub record GroupsAsked (left : FileScan) (join : Option JoinPart) (group : GroupAsked) (asked : SidesAsked) (files : List (List ℕ)) (rows : List Row) : Type 0 where
  pub input : List Row
  pub means : MeansAskedBy left join asked files input
  pub grouped : Grouped (shape_over left join group) input rows
  pub fits : FitsGroups (shape_over left join group) input

-- the rows are what a query with this left side, this join and this group-by means, as far as its sources were asked
abbrev pub MeansAskedWith : FileScan → Option JoinPart → Option GroupAsked → SidesAsked → List (List ℕ) → List Row → Type 0
MeansAskedWith left join None asked files rows = MeansAskedBy left join asked files rows
MeansAskedWith left join (Some group) asked files rows = GroupsAsked left join group asked files rows

-- the rows are what the query means, as far as its sources were asked
abbrev pub MeansAsked : QueryParts → SidesAsked → List (List ℕ) → List Row → Type 0
MeansAsked query asked files rows = MeansAskedWith query.left query.join query.group asked files rows

-- the first sources of a query are open, and have these bytes
pub record HasOpened (old : Outside) (query : QueryParts) (files : List (List ℕ)) (new : Outside) : Type 0 where
  pub few : length files ≤ length (sources_of query)
  pub sizes : new.sizes ≡ old.sizes ++ map length files
  pub held : new.held ≡ with_more old.held files

-- all sources were opened, and then the sink was made, before anything was read or written
pub record HasBegun (old : Outside) (query : QueryParts) (files : List (List ℕ)) (new : Outside) : Type 0 where
  pub all : length files ≡ length (sources_of query)
  pub between : Outside  -- the outside then
  pub begins : Does old (openings (sources_of query) files ++ Making query.sink.name ∷ []) between
  pub events : List IoEvent
  pub gained : new.events ≡ with_more between.events events
  pub asked : new.asked ≡ old.asked ++ names_asked query
  pub one_sink : new.sinks ≡ old.sinks + 1

-- the sink was not made: nothing was read or written, and the names asked for are the first of the query's, each only where the sources before it were opened; only the one after these may have failed
pub record HasNotBegun (old : Outside) (query : QueryParts) (files : List (List ℕ)) (new : Outside) : Type 0 where
  pub sinks : new.sinks ≡ old.sinks
  pub made : new.made ≡ old.made
  pub events : new.events ≡ old.events
  pub asked : List Asked
  pub later : List Asked
  pub gained : new.asked ≡ old.asked ++ asked
  pub front : names_asked query ≡ asked ++ later
  pub in_order : length asked ≤ length files + 1
  pub failed : ((new.read_faults ≡ old.read_faults) × (new.failed ≡ old.failed)) ⊎ (new.failed ≡ length old.sizes + length files)

-- the sink has the text of rows that the query may give, as many as are answered
pub record HasText (old : Outside) (query : QueryParts) (files : List (List ℕ)) (asked : SidesAsked) (count : ℕ) (new : Outside) : Type 0 where
  pub rows : List Row
  pub counted : count ≡ length rows
  pub means : MeansAsked query asked files rows
  pub made : new.made ≡ with_sink old.made query.sink.name (text_of query rows)

-- each byte of the sources of a scan was asked, unless it has a slice
abbrev pub IsAskedWhole : FileScan → ℕ → List (List ℕ) → Type 0
IsAskedWhole scan asked files = scan.asked.slice ≡ None → asked ≡ sum_by length files

-- the same of each scan of a query with this left side and this join
abbrev pub AreAskedWhole : FileScan → Option JoinPart → SidesAsked → List (List ℕ) → Type 0
AreAskedWhole left None asked files = IsAskedWhole left asked.left files
AreAskedWhole left (Some join) asked files = IsAskedWhole left asked.left (left_files left files) × IsAskedWhole join.right asked.right (right_files left files)

-- rows are answered: no call failed, each byte was asked, unless there is a slice, and the sink has their text, where the files' bytes are told
pub record Answers (old : Outside) (query : QueryParts) (files : List (List ℕ)) (asked : SidesAsked) (new : Outside) (count : ℕ) : Type 0 where
  pub begun : HasBegun old query files new
  pub read_well : (new.read_faults ≡ old.read_faults) × (new.failed ≡ old.failed)
  pub write_well : new.write_faults ≡ old.write_faults
  pub whole : AreAskedWhole query.left query.join asked files
  pub text : TellsBytes new → HasText old query files asked count new

-- a fault of groups is of no source; without a group-by there is none
abbrev pub IsOfGroups : Option GroupAsked → ℕ → ℕ → Type 0
IsOfGroups None file at = ⊥
IsOfGroups (Some group) file at = (file ≡ 4294967295) × (at ≡ 0)

-- what a fault of the files says of the query alone: it is of one of its sources, or of none
abbrev pub IsOfFiles : QueryParts → Fault → Type 0
IsOfFiles query (faults.Malformed file at) = Unit {0}
IsOfFiles query (faults.Unsupported file code) = (file < length (sources_of query)) × ((code ≡ 31) ⊎ (code ≡ 40))
IsOfFiles query (faults.ComputeError kinds.NotUtf8 file at) = Unit {0}
IsOfFiles query (faults.ComputeError kinds.IllTyped file at) = Unit {0}
IsOfFiles query (faults.ComputeError kinds.TooManyRows file at) = (file ≡ 4294967295) × (at ≡ 0)
IsOfFiles query (faults.ComputeError kinds.IndexTooLarge file at) = Unit {0}
IsOfFiles query (faults.ComputeError kinds.SumTooLarge file at) = IsOfGroups query.group file at
IsOfFiles query (faults.ComputeError kinds.LenTooLarge file at) = IsOfGroups query.group file at
IsOfFiles query (faults.ComputeError kinds.TooManyGroups file at) = IsOfGroups query.group file at
IsOfFiles query fault = ⊥

-- a fault of the files, told after the sink was made; where their bytes are told, they have its cause, or rows have it that they mean as far as they were asked, and that are grouped
pub record HasCauseInFiles (old : Outside) (query : QueryParts) (files : List (List ℕ)) (asked : SidesAsked) (new : Outside) (fault : Fault) : Type 0 where
  pub kind : IsOfFiles query fault
  pub begun : HasBegun old query files new
  pub cause : TellsBytes new → QueryCause query files fault ⊎ GroupCauseBy query.left query.join query.group (MeansAskedBy query.left query.join asked files) fault

-- when a run that has begun may answer a fault: a call to the outside failed, as a count of faults says; or it is one of the files
abbrev pub HasCauseInRun : Outside → QueryParts → List (List ℕ) → SidesAsked → Outside → Fault → Type 0
HasCauseInRun old query files asked new faults.OutOfMemory = Unit {0}
HasCauseInRun old query files asked new (faults.ReadFault file) = (file < length (sources_of query)) × (file ≤ length files)
    × Rises old.read_faults new.read_faults × (new.failed ≡ length old.sizes + file)
HasCauseInRun old query files asked new faults.WriteFault = (length files ≡ length (sources_of query)) × Rises old.write_faults new.write_faults
HasCauseInRun old query files asked new fault = HasCauseInFiles old query files asked new fault

-- when a fault may be answered: the query has no plan, and nothing was done; or there is a cause in the run
abbrev pub HasCause : Outside → QueryParts → List (List ℕ) → SidesAsked → Outside → Fault → Type 0
HasCause old query files asked new fault = ((query_fault query ≡ Some fault) × (new ≡ old)) ⊎ HasCauseInRun old query files asked new fault

-- the text is the beginning of that of the rows before the first faulty record, and of all rows of a query of one scan over valid files
pub record IsFrontOfRows (query : QueryParts) (files : List (List ℕ)) (text : List ℕ) : Type 0 where
  pub later : List ℕ
  pub front : text ++ later ≡ text_of query (rows_before_fault query files)
  pub valid : (is : IsValid query files) → (rest : List ℕ) × (text ++ rest ≡ text_of query is.rows)

-- the text is the beginning of that of rows that the query may give
pub record IsFrontOfMeaning (query : QueryParts) (files : List (List ℕ)) (text : List ℕ) : Type 0 where
  pub rows : List Row
  pub means : Meaning query files rows
  pub rest : List ℕ
  pub front : text ++ rest ≡ text_of query rows

-- what a text that is left in the sink is, of a query with this join and this group-by
abbrev pub IsFrontBy : Option JoinPart → Option GroupAsked → QueryParts → List (List ℕ) → List ℕ → Type 0
IsFrontBy None None query files text = IsFrontOfRows query files text
IsFrontBy None (Some group) query files text = IsValid query files → IsFrontOfMeaning query files text
IsFrontBy (Some join) group query files text = IsValid query files → IsFrontOfMeaning query files text

-- what a text that is left in the sink is: of a query of one scan without a group-by the beginning of the text of the rows before the first faulty record; over valid files of the text of rows that the query may give
abbrev pub IsFrontOfText : QueryParts → List (List ℕ) → List ℕ → Type 0
IsFrontOfText query files text = IsFrontBy query.join query.group query files text

-- no sink was made; or the query's, with a beginning of the rows' text
abbrev pub Leaves : Outside → QueryParts → List (List ℕ) → Outside → Type 0
Leaves old query files new = HasNotBegun old query files new
    ⊎ (HasBegun old query files new × (text : List ℕ) × (new.made ≡ with_sink old.made query.sink.name text) × (TellsBytes new → IsFrontOfText query files text))

-- after a fault there is no sink more, or one with the text of no row; but a write that failed, or want of memory, may leave some rows
abbrev pub LeavesNoRow : Outside → QueryParts → Outside → Fault → Type 0
LeavesNoRow old query new faults.WriteFault = Unit {0}
LeavesNoRow old query new faults.OutOfMemory = Unit {0}
LeavesNoRow old query new fault = (new.made ≡ old.made) ⊎ (new.made ≡ with_sink old.made query.sink.name (text_of query []))

-- the same of a run of a query with this group-by, whose rows are written after all has been read
abbrev pub LeavesNoRowBy : Option GroupAsked → Outside → QueryParts → Result ℕ Fault → Outside → Type 0
LeavesNoRowBy None old query result new = Unit {0}
LeavesNoRowBy (Some group) old query result new = IfErr result (LeavesNoRow old query new)

-- no count of faults rose
pub record NoneRises (old new : Outside) : Type 0 where
  pub reads : Rises old.read_faults new.read_faults → ⊥
  pub writes : Rises old.write_faults new.write_faults → ⊥

-- a query without a plan is refused before anything is done, by its fault, unless memory is out
abbrev pub IsRefusedFirst : Outside → Fault → Result ℕ Fault → Outside → Type 0
IsRefusedFirst old fault (Ok count) new = ⊥
IsRefusedFirst old fault (Err found) new = (new ≡ old) × ((found ≡ fault) ⊎ (found ≡ faults.OutOfMemory))

-- how many bytes of rows reading may run ahead of writing
abbrev pub bytes_ahead : RunOptions → Axis → ℕ
bytes_ahead options axis = pieces_ahead options * (options.chunk_bytes + axis.longest)

-- each read is not far ahead of what was written, where a query with this join and this group-by is of one scan whose rows are not grouped
abbrev pub ReadsAheadBy : Option JoinPart → Option GroupAsked → QueryParts → RunOptions → ℕ → List (List ℕ) → List IoEvent → Type 0
ReadsAheadBy None None query options number files events = let axis = axis_of query number files in ReadsAhead axis (bytes_ahead options axis) options.chunk_bytes 0 axis.head events
ReadsAheadBy None (Some group) query options number files events = Unit {0}
ReadsAheadBy (Some join) group query options number files events = Unit {0}

-- what a run answers, why, what it read, and what it leaves
pub record Runs (old : Outside) (query : QueryParts) (options : RunOptions) (result : Result ℕ Fault) (new : Outside) : Type 0 where
  pub files : List (List ℕ)  -- the bytes of the sources that were opened
  pub opened : HasOpened old query files new
  pub asked : SidesAsked  -- how many bytes of them were asked
  pub events : List IoEvent
  pub gained : new.events ≡ with_more old.events events
  pub once : AsksSides query.left query.join (length old.sizes) (map length files) asked events
  pub short : Each (IsShort options.chunk_bytes) events
  pub ahead : TellsBytes new → ReadsAheadBy query.join query.group query options (length old.sizes) files events
  pub answers : IfOk result (Answers old query files asked new)
  pub caused : IfErr result (HasCause old query files asked new)
  pub leaves : Leaves old query files new
  pub head_alone : LeavesNoRowBy query.group old query result new
  pub complete : TellsBytes new → IsValid query files → NoneRises old new → IsOkUnless result faults.OutOfMemory
  pub refused : (fault : Fault) → query_fault query ≡ Some fault → IsRefusedFirst old fault result new
  pub reads_fail : ((new.read_faults ≡ old.read_faults) × (new.failed ≡ old.failed)) ⊎ ((file : ℕ) × (file < length (sources_of query)) × Rises old.read_faults new.read_faults × (new.failed ≡ length old.sizes + file))
  pub printed : new.printed ≡ old.printed
  pub print_faults : new.print_faults ≡ old.print_faults
  pub no_lower : old.write_faults ≤ new.write_faults
