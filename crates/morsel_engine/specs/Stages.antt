-- What each step of a run does.
use Rattle.std.specs.Prelude.{◌≡◌, ◌⊎◌, ℕ, ◌+◌, ◌-◌, ◌*◌, ◌^◌, ◌<◌, ◌≤◌, min, Bool, true, false, Some, None, Result, Ok, Err, List, [], ◌∷◌, length, slice_get}
use Rattle.morsel_meaning.specs.declared.value.Field.{Field}
use Rattle.morsel_meaning.specs.declared.fault.Fault.{Fault}
use Rattle.morsel_meaning.specs.declared.fault.Fault.TheVariants as faults
use Rattle.morsel_outside.specs.declared.io.FileNo.{FileNo}
use Rattle.morsel_outside.specs.Outside.{Outside, IsSized}
use Rattle.morsel_outside.specs.Actions.{FailedOpening, Making, FailedMaking, Does}
use Rattle.morsel_grammar.specs.Dialect.{IsDialect}
use Rattle.morsel_scan.specs.Scans.{CsvScan}
use Rattle.morsel_scan.specs.ScanColumns.{output_fields}
use Rattle.morsel_scan.specs.ScanFlaws.{scan_flaw}
use Rattle.morsel_scan.specs.declared.spec.ScanSpec.{ScanSpec}
use Rattle.morsel_read.specs.ScanReads.{pieces_at_start, files_asked}
use Rattle.morsel_join.specs.declared.rules.JoinRules.{JoinRules}
use Rattle.morsel_join.specs.Rows.{keeps_left}
use Rattle.morsel_line.specs.ScanRuns.{WritesScan}
use Rattle.morsel_join_plan.specs.JoinRuns.{JoinScan, IsLeftSo, JoinsScans, SweepsJoin}
use Rattle.morsel_group_units.specs.GroupAsks.{GroupRulesSeen}
use Rattle.morsel_group_plan.specs.GroupRuns.{GroupsJoin, GroupsScan, SweepsGroups, SweepsGroupsJoin}
use Rattle.morsel_query.specs.RunOptions.{RunOptions, pieces_ahead}
use Rattle.morsel_query.specs.Queries.{FileScan, file_scan, scan_asked}
use Rattle.morsel_query.specs.Meanings.{csv_scan}
use Rattle.morsel_query.specs.Plans.{slice_fault}
use Rattle.morsel_engine.specs.Courses.{openings, file_numbers}

-- files of these names, the first ones, are open, and have these bytes
pub record HasOpenedFirst (old : Outside) (names files : List (List ℕ)) (new : Outside) : Type 0 where
  pub few : length files ≤ length names
  pub does : Does old (openings names files) new
  pub sized : 0 < length files → IsSized new.held new.sizes

-- all files of these names are open, with these numbers, and have these bytes
pub record HasOpenedAll (old : Outside) (names : List (List ℕ)) (numbers : List FileNo) (files : List (List ℕ)) (new : Outside) : Type 0 where
  pub first : HasOpenedFirst old names files new
  pub all : length files ≡ length names
  pub numbers_are : numbers ≡ file_numbers (length old.sizes) (length files)

-- files are open; the one of this number could not be opened
pub record FailsToOpen (old : Outside) (names files : List (List ℕ)) (file : ℕ) (new : Outside) : Type 0 where
  pub between : Outside
  pub first : HasOpenedFirst old names files between
  pub number : file ≡ length files
  pub within : file < length names
  pub name : List ℕ
  pub is_name : slice_get names file ≡ Some name
  pub fails : Does between (FailedOpening (length old.sizes + file) name ∷ []) new

-- files, whose numbers within the query go on from the first, are opened, all of them; or one could not be; or memory ran out after some
abbrev pub OpensSources : Outside → List (List ℕ) → ℕ → Result (List FileNo) Fault → Outside → Type 0
OpensSources old names first (Ok numbers) new = (files : List (List ℕ)) × HasOpenedAll old names numbers files new
OpensSources old names first (Err faults.OutOfMemory) new = (files : List (List ℕ)) × HasOpenedFirst old names files new
OpensSources old names first (Err (faults.ReadFault file)) new = (files : List (List ℕ)) × (source : ℕ) × (file ≡ first + source) × FailsToOpen old names files source new
OpensSources old names first (Err fault) new = ⊥

-- a sink is made, or could not be
abbrev pub MakesSink : {A : Type 0} → Outside → List ℕ → Result A Fault → Outside → Type 0
MakesSink old name (Ok _) new = Does old (Making name ∷ []) new
MakesSink old name (Err faults.OutOfMemory) new = new ≡ old
MakesSink old name (Err faults.WriteFault) new = Does old (FailedMaking name ∷ []) new
MakesSink old name (Err fault) new = ⊥

-- how many bytes of rows, the longest record not counted, reading may run ahead of writing
abbrev pub bytes_bound : RunOptions → ℕ
bytes_bound options = min (pieces_ahead options * options.chunk_bytes) (2 ^ 64 - 1)

-- the rows of a scan's open files were written; or memory ran out before anything was read
abbrev pub ScansFiles : Outside → CsvScan → List (List ℕ) → List FileNo → RunOptions → Result ℕ Fault → Outside → Type 0
ScansFiles old s names numbers options result new = ((result ≡ Err faults.OutOfMemory) × (new ≡ old))
    ⊎ (IsDialect s.options × (0 < bytes_bound options) × WritesScan s (pieces_at_start (files_asked s names numbers 0 options.chunk_bytes)) (bytes_bound options) old result new)

-- the open files of a scan, whose numbers within the query go on from the first, and their reader, which has read nothing
abbrev pub side_scan : FileScan → List FileNo → ℕ → RunOptions → JoinScan
side_scan files numbers first options = record { scan = csv_scan files; reader = pieces_at_start (files_asked (csv_scan files) files.sources numbers first options.chunk_bytes) }

-- the rows of a join of two scans were written, of which the left one is kept, or the right one
abbrev pub JoinsSides : Bool → JoinScan → JoinScan → JoinRules → ℕ → Outside → Result ℕ Fault → Outside → Type 0
JoinsSides true left right rules bound old result new = JoinsScans left right rules bound old result new
JoinsSides false left right rules bound old result new = JoinsScans right left rules bound old result new

-- the rows of a join of two scans' open files were written; the numbers of the right files within the query go on from those of the left ones. Or memory ran out before anything was read
abbrev pub JoinsFiles : Outside → FileScan → FileScan → List FileNo → List FileNo → JoinRules → RunOptions → Result ℕ Fault → Outside → Type 0
JoinsFiles old left right lefts rights rules options result new = IsLeftSo old result new
    ⊎ (IsDialect (csv_scan left).options × IsDialect (csv_scan right).options × (0 < bytes_bound options)
    × JoinsSides (keeps_left rules.how rules.maintain_order) (side_scan left lefts 0 options) (side_scan right rights (length left.sources) options) rules (bytes_bound options) old result new)

-- few sweeps were made of a join, of which the left side is kept, or the right one
abbrev pub SweepsSides : Bool → JoinScan → JoinScan → Outside → ℕ → ℕ → Type 0
SweepsSides true left right opened before after = SweepsJoin left right opened before after
SweepsSides false left right opened before after = SweepsJoin right left opened before after

-- the same of two scans' open files; or none was made
abbrev pub SweepsFiles : Outside → FileScan → FileScan → List FileNo → List FileNo → JoinRules → RunOptions → ℕ → ℕ → Type 0
SweepsFiles opened left right lefts rights rules options before after = (after ≡ before)
    ⊎ (IsDialect (csv_scan left).options × IsDialect (csv_scan right).options
    × SweepsSides (keeps_left rules.how rules.maintain_order) (side_scan left lefts 0 options) (side_scan right rights (length left.sources) options) opened before after)

-- the rows of a scan's open files were grouped, and the rows of the group-by written; or memory ran out before anything was read
abbrev pub GroupsFiles : Outside → FileScan → List FileNo → GroupRulesSeen → RunOptions → Result ℕ Fault → Outside → Type 0
GroupsFiles old scan numbers group options result new = IsLeftSo old result new
    ⊎ (IsDialect (csv_scan scan).options × GroupsScan (side_scan scan numbers 0 options) group old result new)

-- few sweeps were made of them; or none was
abbrev pub SweepsGroupFiles : Outside → FileScan → List FileNo → RunOptions → ℕ → ℕ → Type 0
SweepsGroupFiles opened scan numbers options before after = (after ≡ before)
    ⊎ (IsDialect (csv_scan scan).options × SweepsGroups (side_scan scan numbers 0 options) opened before after)

-- the rows of a join of two scans, of which the left one is kept, or the right one, were grouped
abbrev pub GroupsSides : Bool → JoinScan → JoinScan → JoinRules → GroupRulesSeen → Outside → Result ℕ Fault → Outside → Type 0
GroupsSides true left right rules group old result new = GroupsJoin left right rules group old result new
GroupsSides false left right rules group old result new = GroupsJoin right left rules group old result new

-- the rows of a join of two scans' open files were grouped, and the rows of the group-by written; or memory ran out before anything was read
abbrev pub JoinsGroups : Outside → FileScan → FileScan → List FileNo → List FileNo → JoinRules → GroupRulesSeen → RunOptions → Result ℕ Fault → Outside → Type 0
JoinsGroups old left right lefts rights rules group options result new = IsLeftSo old result new
    ⊎ (IsDialect (csv_scan left).options × IsDialect (csv_scan right).options
    × GroupsSides (keeps_left rules.how rules.maintain_order) (side_scan left lefts 0 options) (side_scan right rights (length left.sources) options) rules group old result new)

-- few sweeps were made of a join, of which the left side is kept, or the right one, and of a group-by of its rows
abbrev pub SweepsGroupSides : Bool → JoinScan → JoinScan → Outside → ℕ → ℕ → Type 0
SweepsGroupSides true left right opened before after = SweepsGroupsJoin left right opened before after
SweepsGroupSides false left right opened before after = SweepsGroupsJoin right left opened before after

-- the same of two scans' open files; or none was made
abbrev pub SweepsJoinedGroups : Outside → FileScan → FileScan → List FileNo → List FileNo → JoinRules → RunOptions → ℕ → ℕ → Type 0
SweepsJoinedGroups opened left right lefts rights rules options before after = (after ≡ before)
    ⊎ (IsDialect (csv_scan left).options × IsDialect (csv_scan right).options
    × SweepsGroupSides (keeps_left rules.how rules.maintain_order) (side_scan left lefts 0 options) (side_scan right rights (length left.sources) options) opened before after)

-- the numbers are those of open files
abbrev pub AreOpenIn : Outside → List FileNo → Type 0
AreOpenIn o numbers = (source : ℕ) (file : FileNo) → slice_get numbers source ≡ Some file → file.0 < length o.sizes

-- a scan's names meet its columns, and its slice counts from the first row
pub record IsPlannedScan (files : FileScan) : Type 0 where
  pub flawless : scan_flaw (scan_asked files) ≡ None
  pub from_first : slice_fault files.asked.slice ≡ None

-- a side of a join: a scan with a plan, the columns of its rows, and the numbers of its open files
pub record IsOpenSide (o : Outside) (spec : ScanSpec) (columns : List Field) (numbers : List FileNo) : Type 0 where
  pub some : 0 < length spec.sources.items
  pub few : length spec.sources.items ≤ 65536
  pub one_each : length numbers ≡ length spec.sources.items
  pub opened : AreOpenIn o numbers
  pub planned : IsPlannedScan (file_scan spec)
  pub columns_are : columns ≡ output_fields (scan_asked (file_scan spec))
