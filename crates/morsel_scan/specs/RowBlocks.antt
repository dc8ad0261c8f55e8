-- A file of which records with rows are given, one stretch after the other; what is passed between them has no row.
use Rattle.std.specs.Prelude.{◌≡◌, ◌⊎◌, ℕ, ◌+◌, ◌<◌, ◌≤◌, Bool, false, Option, Some, None, Result, Ok, Err, List, [], ◌∷◌, ◌++◌, length, take, drop, slice_range, IsUtf8}
use Rattle.morsel_meaning.specs.declared.fault.Fault.{Fault}
use Rattle.morsel_meaning.specs.declared.fault.Fault.TheVariants as faults
use Rattle.morsel_meaning.specs.declared.fault.ComputeKind.TheVariants as kinds
use Rattle.morsel_grammar.specs.Dialect.{Dialect, IsDialect}
use Rattle.morsel_grammar.specs.Grammar.{CsvRecord, IsRecord, Records}
use Rattle.morsel_grammar.specs.Rows.{mark_len, unmarked}
use Rattle.morsel_grammar.specs.GrammarRows.{AreWholeRecords}
use Rattle.morsel_outside.specs.Outside.{Outside}
use Rattle.morsel_outside.specs.Actions.{Action, ReadingRange, FailedReadingRange, Does}
use Rattle.morsel_cut.specs.RowCounts.{row_count}
use Rattle.morsel_scan.specs.declared.reader.front.BlockFront.{BlockFront}
use Rattle.morsel_scan.specs.Scans.{CsvScan}
use Rattle.morsel_scan.specs.CsvPieces.{HaveRows, HasRowsUpTo}
use Rattle.morsel_scan.specs.FileReads.{IsTold, IsChunk, AreNextReads, HoldsNoRecord}
use Rattle.morsel_scan.specs.Blocks.{BlocksRead, blocks_at_start, given_to, IsReadOf, IsLastCut, IsBlockFault, IsBlockFaultOf}

-- a file of which rows are given, as far as it was read
pub record RowsRead : Type 0 where
  pub blocks : BlocksRead
  pub awaits_header : Bool  -- whether its header is still to come

-- nothing was asked
abbrev pub rows_at_start : Dialect → ℕ → ℕ → ℕ → RowsRead
rows_at_start o source file size = record { blocks = blocks_at_start o source file size; awaits_header = o.has_header }

-- the first bytes that are held, so many, are given or passed
abbrev pub passed_to : RowsRead → ℕ → Bool → RowsRead
passed_to r len awaits_header = record { blocks = record r.blocks { held = drop len r.blocks.held }; awaits_header = awaits_header }

-- the same file, given up to a later place
pub record IsLaterIn (old new : BlocksRead) : Type 0 where
  pub file : new.file ≡ old.file
  pub source : new.source ≡ old.source
  pub size : new.size ≡ old.size
  pub given : given_to old ≤ given_to new

-- records of a file with rows
pub record RowStretch : Type 0 where
  pub at : ℕ  -- the place of the first one
  pub rows : ℕ  -- how many of them are rows
  pub bytes : List ℕ

-- the records begin after what was given, have rows, no more than bytes, and end where the file is given to now
pub record EndsAtGiven (old : RowsRead) (stretch : RowStretch) (new : RowsRead) : Type 0 where
  pub order : given_to old.blocks ≤ stretch.at
  pub end : stretch.at + length stretch.bytes ≡ given_to new.blocks
  pub some : 0 < stretch.rows
  pub few : stretch.rows ≤ length stretch.bytes

-- the records of a block after its front are given; or memory is out, and nothing is
abbrev pub GivesStretch : RowsRead → ℕ → BlockFront → Result RowStretch Fault → RowsRead → Type 0
GivesStretch old len front (Ok stretch) new = (stretch ≡ record { at = given_to old.blocks + front.len; rows = front.rows; bytes = drop front.len (take len old.blocks.held) })
    × (new ≡ passed_to old len front.awaits_header)
GivesStretch old len front (Err fault) new = (fault ≡ faults.OutOfMemory) × (new ≡ old)

-- so many rows come before a place of a file, which is where it begins, or is after whole records
abbrev pub HasRowsBeforePlace : CsvScan → List ℕ → ℕ → ℕ → Bool → Type 0
HasRowsBeforePlace s bytes at rows awaits_header = ((at ≡ 0) × (rows ≡ 0) × (awaits_header ≡ s.options.has_header)) ⊎ HasRowsUpTo s bytes at rows awaits_header

-- so many rows come before the place up to which a file was given: where it begins, after whole records, or where it ends
pub record HasRowsGiven (s : CsvScan) (bytes : List ℕ) (rows : ℕ) (r : RowsRead) : Type 0 where
  pub read : IsReadOf s.options bytes r.blocks
  pub cut : IsLastCut s.options bytes r.blocks.asked (given_to r.blocks)
  pub before : HasRowsBeforePlace s bytes (given_to r.blocks) rows r.awaits_header ⊎ ((given_to r.blocks ≡ length bytes) × HaveRows s (bytes ∷ []) rows)

-- the next records of a file with rows: after place `from`, before which so many rows come, what is passed is UTF-8 and has none;
-- then there are these records, each with its eol byte unless they end with the file
pub record AreNextRows (s : CsvScan) (file : List ℕ) (from rows : ℕ) (stretch : RowStretch) : Type 0 where
  pub order : from ≤ stretch.at
  pub before : HasRowsUpTo s file stretch.at rows false
  pub passed : IsUtf8 (slice_range file from stretch.at)
  pub held : slice_range file stretch.at (stretch.at + length stretch.bytes) ≡ stretch.bytes
  pub records : List CsvRecord
  pub split : Records s.options stretch.bytes records
  pub ends : AreWholeRecords s.options stretch.bytes records ⊎ (stretch.at + length stretch.bytes ≡ length file)
  pub rows_are : stretch.rows ≡ row_count (length s.scan.fields) records
  pub some : 0 < stretch.rows

-- a text, which begins at a place, is whole records and then one that is not UTF-8, which begins at another place
pub record HasRecordNotUtf8 (o : Dialect) (at : ℕ) (text : List ℕ) (place : ℕ) : Type 0 where
  pub front : List ℕ
  pub records : List CsvRecord
  pub bytes : List ℕ
  pub rest : List ℕ
  pub split : text ≡ front ++ (bytes ++ rest)
  pub whole : AreWholeRecords o front records
  pub place_is : place ≡ at + length front
  pub first : CsvRecord
  pub is : IsRecord o first (bytes ++ rest) rest
  pub not_utf8 : IsUtf8 bytes → ⊥

-- why a text without rows is refused, if memory is not out
abbrev pub IsTextFault : Dialect → ℕ → ℕ → List ℕ → Fault → Type 0
IsTextFault o source at text faults.OutOfMemory = Unit {0}
IsTextFault o source at text (faults.ComputeError kinds.NotUtf8 number place) = (number ≡ source) × HasRecordNotUtf8 o at text place
IsTextFault o source at text fault = ⊥

-- the faults of a text without rows, whatever it is
abbrev pub IsTextFaultOf : ℕ → Fault → Type 0
IsTextFaultOf source faults.OutOfMemory = Unit {0}
IsTextFaultOf source (faults.ComputeError kinds.NotUtf8 number place) = number ≡ source
IsTextFaultOf source fault = ⊥

-- why no rows of a file are given: as for blocks, or a record that is passed is not UTF-8
abbrev pub IsRowsFault : Dialect → ℕ → List ℕ → Fault → Type 0
IsRowsFault o source file (faults.ComputeError kinds.NotUtf8 number place) = (number ≡ source) × HasRecordNotUtf8 o (mark_len file) (unmarked file) place
IsRowsFault o source file fault = IsBlockFault o source file fault

-- the faults of a search for rows, whatever is told: each names the source
abbrev pub IsRowsFaultOf : ℕ → Fault → Type 0
IsRowsFaultOf source (faults.ComputeError kinds.NotUtf8 number place) = number ≡ source
IsRowsFaultOf source fault = IsBlockFaultOf source fault

-- of a file with these bytes, of which so many rows were given: the next rows, after which it is read on; or it has no more; or a fault
abbrev pub GivesRows : CsvScan → List ℕ → ℕ → RowsRead → Result (Option RowStretch) Fault → RowsRead → Type 0
GivesRows s bytes rows old (Ok (Some stretch)) new = AreNextRows s bytes (given_to old.blocks) rows stretch × HasRowsGiven s bytes (rows + stretch.rows) new
GivesRows s bytes rows old (Ok None) new = HaveRows s (bytes ∷ []) rows × IsUtf8 (slice_range bytes (given_to old.blocks) (length bytes))
GivesRows s bytes rows old (Err fault) new = IsRowsFault s.options old.blocks.source bytes fault

-- up to a place, and at it, no whole row is held: so many rows come before an earlier place, and what was asked after it begins with no whole record
pub record HoldsNoRow (s : CsvScan) (bytes : List ℕ) (rows at : ℕ) : Type 0 where
  pub given : ℕ
  pub awaits_header : Bool
  pub before : HasRowsBeforePlace s bytes given rows awaits_header
  pub none_held : HoldsNoRecord s.options bytes given at

-- each read is made while no whole row is held but those that were given
abbrev pub ReadWithoutRow : CsvScan → List ℕ → ℕ → List Action → Type 0
ReadWithoutRow s bytes rows [] = Unit {0}
ReadWithoutRow s bytes rows (ReadingRange number at len ∷ actions) = HoldsNoRow s bytes rows at × ReadWithoutRow s bytes rows actions
ReadWithoutRow s bytes rows (action ∷ actions) = ⊥

-- what is known of a file of which rows are searched by these options, in so many columns
pub record IsToldFile (o : Dialect) (columns : ℕ) (s : CsvScan) (bytes : List ℕ) (rows : ℕ) (before : Outside) (old : RowsRead) : Type 0 where
  pub options : s.options ≡ o
  pub fit : IsDialect s.options
  pub columns_are : length s.scan.fields ≡ columns
  pub told : IsTold before.held old.blocks.file bytes
  pub given : HasRowsGiven s bytes rows old

-- only the next chunks of the file were read, up to a place, each while no whole row was held but those that were given
pub record ReadsOnForRows (o : Dialect) (columns : ℕ) (before : Outside) (old : RowsRead) (chunk : ℕ) (after : Outside) (to : ℕ) : Type 0 where
  pub reads : List Action
  pub are : AreNextReads old.blocks.file old.blocks.size chunk old.blocks.asked reads to
  pub does : Does before reads after
  pub in_need : (s : CsvScan) (bytes : List ℕ) (rows : ℕ) → IsToldFile o columns s bytes rows before old → ReadWithoutRow s bytes rows reads

-- the same, and then the read of a chunk more failed
pub record FailsToReadForRows (o : Dialect) (columns : ℕ) (before : Outside) (old : RowsRead) (chunk : ℕ) (after : Outside) : Type 0 where
  pub between : Outside
  pub to : ℕ
  pub reads : ReadsOnForRows o columns before old chunk between to
  pub len : ℕ
  pub last : IsChunk old.blocks.size chunk to len
  pub last_in_need : (s : CsvScan) (bytes : List ℕ) (rows : ℕ) → IsToldFile o columns s bytes rows before old → HoldsNoRow s bytes rows to
  pub fails : Does between (FailedReadingRange old.blocks.file to len ∷ []) after

-- what a search for rows did to the outside
abbrev pub ReadsForRows : Dialect → ℕ → Outside → RowsRead → ℕ → Result (Option RowStretch) Fault → Outside → RowsRead → Type 0
ReadsForRows o columns before old chunk (Ok found) after new = ReadsOnForRows o columns before old chunk after new.blocks.asked
ReadsForRows o columns before old chunk (Err (faults.ReadFault number)) after new = (number ≡ old.blocks.source) × FailsToReadForRows o columns before old chunk after
ReadsForRows o columns before old chunk (Err fault) after new = (to : ℕ) × ReadsOnForRows o columns before old chunk after to
