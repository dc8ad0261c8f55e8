-- A file that is read in chunks and given in blocks: each block is some whole records, and the last one may be a record that ends with the file.
use Rattle.std.specs.Prelude.{◌≡◌, ◌⊎◌, ℕ, ◌+◌, ◌-◌, ◌^◌, ◌<◌, ◌≤◌, ◌==◌, ◌&&◌, if◌then◌else◌, Option, Some, None, Result, Ok, Err, List, [], ◌∷◌, length, take, drop, slice_range, slice_index}
use Rattle.morsel_meaning.specs.declared.fault.Fault.{Fault}
use Rattle.morsel_meaning.specs.declared.fault.Fault.TheVariants as faults
use Rattle.morsel_grammar.specs.Dialect.{Dialect, IsDialect}
use Rattle.morsel_grammar.specs.Grammar.{CsvRecord, Records}
use Rattle.morsel_grammar.specs.Rows.{mark_len}
use Rattle.morsel_grammar.specs.GrammarRows.{AreWholeRecords}
use Rattle.morsel_outside.specs.Outside.{Outside}
use Rattle.morsel_outside.specs.Actions.{Action, FailedReadingRange, Does}
use Rattle.morsel_cut.specs.Cutting.{Cutting, cut_opening, fed_with}
use Rattle.morsel_cut.specs.Pieces.{last_cut, StopsAtRecord}
use Rattle.morsel_scan.specs.FileReads.{IsTold, IsChunk, AreNextReads, text_at, HoldsNoRecord, ReadWithoutRecord}

-- a file of which blocks are given, as far as it was read
pub record BlocksRead : Type 0 where
  pub file : ℕ  -- its number as it was opened
  pub source : ℕ  -- the number that its faults tell
  pub size : ℕ  -- how many bytes it has
  pub asked : ℕ  -- how many of them were asked
  pub held : List ℕ  -- those that were asked and not given: the last ones
  pub cutting : Cutting  -- the cutter that was fed what was asked

-- nothing was asked
abbrev pub blocks_at_start : Dialect → ℕ → ℕ → ℕ → BlocksRead
blocks_at_start o source file size = record { file = file; source = source; size = size; asked = 0; held = []; cutting = cut_opening o source }

-- the place up to which the file was given
abbrev pub given_to : BlocksRead → ℕ
given_to b = b.asked - length b.held

-- the file is open with this size, no more was asked than it has, and all that was asked was fed
pub record IsOpenFile (o : Outside) (b : BlocksRead) : Type 0 where
  pub opened : b.file < length o.sizes
  pub size_is : slice_index o.sizes b.file ≡ b.size
  pub within : b.asked ≤ b.size
  pub held_within : length b.held ≤ b.asked
  pub fed : b.cutting.fed ≡ b.asked
  pub source_is : b.cutting.file ≡ b.source
  pub fits : b.size < 2 ^ 64

-- the same file, given up to the same place
pub record IsSameFile (old new : BlocksRead) : Type 0 where
  pub file : new.file ≡ old.file
  pub source : new.source ≡ old.source
  pub size : new.size ≡ old.size
  pub given : given_to new ≡ given_to old

-- of a file with these bytes, the first ones were fed, and the last of them are held
pub record IsReadOf (o : Dialect) (bytes : List ℕ) (b : BlocksRead) : Type 0 where
  pub size_is : b.size ≡ length bytes
  pub fed : b.cutting ≡ fed_with (cut_opening o b.source) (take b.asked bytes)
  pub held_is : b.held ≡ drop (given_to b) (take b.asked bytes)

-- so many bytes of a file were asked, not all, and a place is their last end; or all were, and it is the end of the file
abbrev pub IsLastCut : Dialect → List ℕ → ℕ → ℕ → Type 0
IsLastCut o bytes asked at = ((asked < length bytes) × (at ≡ last_cut o (take asked bytes))) ⊎ ((asked ≡ length bytes) × (at ≡ length bytes))

-- the bytes of a file from a place on, at least one: after the mark, records, each with its eol byte unless they end with the file
pub record IsBlock (o : Dialect) (file : List ℕ) (from : ℕ) (block : List ℕ) : Type 0 where
  pub some : 0 < length block
  pub held : slice_range file from (from + length block) ≡ block
  pub records : List CsvRecord
  pub split : Records o (text_at from block) records
  pub ends : AreWholeRecords o (text_at from block) records ⊎ (from + length block ≡ length file)
  pub mark : from ≡ 0 → mark_len block ≡ mark_len file

-- the number of the zstd compression, where the bytes begin as its files do
abbrev pub zstd_code : List ℕ → Option ℕ
zstd_code (a ∷ b ∷ c ∷ d ∷ bytes) = if a == 40 && (b == 181 && (c == 47 && d == 253)) then Some 40 else None
zstd_code bytes = None

-- the number of the compression whose files begin as these bytes do, gzip or zstd
abbrev pub compression_code : List ℕ → Option ℕ
compression_code (a ∷ b ∷ bytes) = if a == 31 && b == 139 then Some 31 else zstd_code (a ∷ b ∷ bytes)
compression_code bytes = None

-- why no block of the file is found: the record after those that were given is none, or the file is compressed. Of a read that failed, the reads tell
abbrev pub IsBlockFault : Dialect → ℕ → List ℕ → Fault → Type 0
IsBlockFault o source file faults.OutOfMemory = Unit {0}
IsBlockFault o source file (faults.ReadFault number) = number ≡ source
IsBlockFault o source file (faults.Malformed number at) = (number ≡ source) × StopsAtRecord o file at
IsBlockFault o source file (faults.Unsupported number code) = (number ≡ source) × (compression_code file ≡ Some code)
IsBlockFault o source file fault = ⊥

-- the faults of a search for a block, whatever is told: each names the source, and a compression is gzip or zstd
abbrev pub IsBlockFaultOf : ℕ → Fault → Type 0
IsBlockFaultOf source faults.OutOfMemory = Unit {0}
IsBlockFaultOf source (faults.ReadFault number) = number ≡ source
IsBlockFaultOf source (faults.Malformed number at) = number ≡ source
IsBlockFaultOf source (faults.Unsupported number code) = (number ≡ source) × ((code ≡ 31) ⊎ (code ≡ 40))
IsBlockFaultOf source fault = ⊥

-- of a file with these bytes: the first bytes that are held, so many, are a block, and the place after them is the last cut; or all was given
pub record HasFound (o : Dialect) (bytes : List ℕ) (given len : ℕ) (b : BlocksRead) : Type 0 where
  pub read : IsReadOf o bytes b
  pub cut : IsLastCut o bytes b.asked (given + len)
  pub block : 0 < len → IsBlock o bytes given (take len b.held)
  pub end : len ≡ 0 → given ≡ length bytes

-- the same, or a fault
abbrev pub FindsBlock : Dialect → List ℕ → BlocksRead → Result ℕ Fault → BlocksRead → Type 0
FindsBlock o bytes old (Ok len) new = HasFound o bytes (given_to old) len new
FindsBlock o bytes old (Err fault) new = IsBlockFault o old.source bytes fault

-- only the next chunks of the file were read, up to a place, each while no whole record was held
pub record ReadsChunksOn (before : Outside) (old : BlocksRead) (chunk : ℕ) (after : Outside) (to : ℕ) : Type 0 where
  pub reads : List Action
  pub are : AreNextReads old.file old.size chunk old.asked reads to
  pub does : Does before reads after
  pub in_need : (o : Dialect) (bytes : List ℕ) → IsDialect o → IsReadOf o bytes old → IsLastCut o bytes old.asked (given_to old) → IsTold before.held old.file bytes
      → ReadWithoutRecord o bytes (given_to old) reads

-- the same, and then the read of a chunk more failed
pub record FailsToReadOn (before : Outside) (old : BlocksRead) (chunk : ℕ) (after : Outside) : Type 0 where
  pub between : Outside
  pub to : ℕ
  pub reads : ReadsChunksOn before old chunk between to
  pub len : ℕ
  pub last : IsChunk old.size chunk to len
  pub last_in_need : (o : Dialect) (bytes : List ℕ) → IsDialect o → IsReadOf o bytes old → IsLastCut o bytes old.asked (given_to old) → IsTold before.held old.file bytes
      → HoldsNoRecord o bytes (given_to old) to
  pub fails : Does between (FailedReadingRange old.file to len ∷ []) after

-- what a search for a block did to the outside
abbrev pub ReadsForBlock : Outside → BlocksRead → ℕ → Result ℕ Fault → Outside → BlocksRead → Type 0
ReadsForBlock before old chunk (Ok len) after new = ReadsChunksOn before old chunk after new.asked
ReadsForBlock before old chunk (Err (faults.ReadFault number)) after new = (number ≡ old.source) × FailsToReadOn before old chunk after
ReadsForBlock before old chunk (Err fault) after new = (to : ℕ) × ReadsChunksOn before old chunk after to
