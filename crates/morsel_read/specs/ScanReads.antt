-- The files of a CSV scan, read one after the other, and given in pieces.
use Rattle.std.specs.Prelude.{◌≡◌, ℕ, ◌+◌, ◌-◌, ◌^◌, ◌<◌, ◌≤◌, ℤ, pos, nat_abs, min, Option, Some, None, List, [], ◌∷◌, map, length, take, slice_get, slice_index, IsUtf8}
use Rattle.std.specs.List.{sum_by}
use Rattle.morsel_meaning.specs.declared.fault.Fault.{Fault}
use Rattle.morsel_meaning.specs.declared.fault.Fault.TheVariants as faults
use Rattle.morsel_meaning.specs.declared.fault.ComputeKind.TheVariants as kinds
use Rattle.morsel_grammar.specs.Dialect.{Dialect, IsDialect}
use Rattle.morsel_outside.specs.Outside.{Outside}
use Rattle.morsel_outside.specs.declared.io.FileNo.{FileNo}
use Rattle.morsel_scan.specs.Scans.{CsvScan}
use Rattle.morsel_scan.specs.CsvPieces.{HaveRows, bytes_between}
use Rattle.morsel_scan.specs.CsvAxisLaws.{IsAfterPieces}
use Rattle.morsel_scan.specs.FileReads.{IsTold}
use Rattle.morsel_scan.specs.Blocks.{given_to, IsOpenFile}
use Rattle.morsel_scan.specs.RowBlocks.{RowsRead, HasRowsGiven, IsRowsFaultOf}

-- the files of a scan, and what a reader has to know of the scan
pub record FilesAsked : Type 0 where
  pub options : Dialect  -- how the files are written
  pub columns : ℕ  -- how many columns they have
  pub start : ℕ  -- the position of the first row that the slice keeps
  pub stop : ℕ  -- the position after the last one, at most the greatest number of 64 bits
  pub names : List (List ℕ)
  pub files : List FileNo  -- their numbers as they were opened
  pub first : ℕ  -- the number of the first one within the query
  pub chunk : ℕ  -- how many bytes a read asks at most

-- files of which pieces are given, as far as they were read
pub record PiecesRead : Type 0 where
  pub sources : FilesAsked
  pub source : ℕ  -- how many files were read to their ends
  pub current : Option RowsRead  -- the file after them, where it was begun
  pub earlier : ℕ  -- how many bytes the files before it have
  pub given : ℕ  -- the place where the last piece's stretch ends
  pub rows : ℕ  -- how many rows were given
  pub pieces : ℕ  -- how many pieces were given
  pub fault : Option Fault  -- the fault that was answered

-- nothing was asked
abbrev pub pieces_at_start : FilesAsked → PiecesRead
pieces_at_start sources = record { sources = sources; source = 0; current = None; earlier = 0; given = 0; rows = 0; pieces = 0; fault = None }

-- the position of the first row that a slice keeps, whose offset is not below 0
abbrev pub slice_first : Option (ℤ × ℕ) → ℕ
slice_first None = 0
slice_first (Some slice) = nat_abs slice.0

-- the position after the last one that it keeps; the greatest number of 64 bits where there is none, or it is greater
abbrev pub slice_stop : Option (ℤ × ℕ) → ℕ
slice_stop None = 2 ^ 64 - 1
slice_stop (Some slice) = min (nat_abs slice.0 + slice.1) (2 ^ 64 - 1)

-- the offset and the length, within so many rows from a position on, of those between `start` and `stop`
abbrev pub slice_within : ℕ → ℕ → ℕ → ℕ → ℕ × ℕ
slice_within start stop position rows = (min (start - position) rows, min (stop - position) rows - min (start - position) rows)

-- these files, as a scan asks for them
abbrev pub files_asked : CsvScan → List (List ℕ) → List FileNo → ℕ → ℕ → FilesAsked
files_asked s names files first chunk = record {
  options = s.options;
  columns = length s.scan.fields;
  start = slice_first s.scan.asked.slice;
  stop = slice_stop s.scan.asked.slice;
  names = names;
  files = files;
  first = first;
  chunk = chunk;
}

-- how many bytes of the file that is read were asked
abbrev pub asked_within : Option RowsRead → ℕ
asked_within None = 0
asked_within (Some r) = r.blocks.asked

-- the place up to which it is in pieces or passed
abbrev pub settled_within : Option RowsRead → ℕ
settled_within None = 0
settled_within (Some r) = given_to r.blocks

-- how many bytes of all files, one after the other, were asked
abbrev pub asked_to : PiecesRead → ℕ
asked_to r = r.earlier + asked_within r.current

-- the place of their bytes up to which all is in pieces or passed
abbrev pub settled_to : PiecesRead → ℕ
settled_to r = r.earlier + settled_within r.current

-- how many bytes each of these files has, of all that were opened
abbrev pub sizes_in : List ℕ → List FileNo → List ℕ
sizes_in sizes files = map (λ (file : FileNo). slice_index sizes file.0) files

-- the file that is read, where one is, is the one of this number, and open
abbrev pub IsCurrent : Outside → FilesAsked → ℕ → Option RowsRead → Type 0
IsCurrent o sources source None = Unit {0}
IsCurrent o sources source (Some r) = IsOpenFile o r.blocks × (slice_get sources.files source ≡ Some (record { 0 = r.blocks.file }))
    × (r.blocks.source ≡ sources.first + source)

-- how many bytes it has
abbrev pub size_within : Option RowsRead → ℕ
size_within None = 0
size_within (Some r) = r.blocks.size

-- files, one for each name, with numbers within the query, of which a read asks at least one byte
pub record AreNumbered (sources : FilesAsked) : Type 0 where
  pub one_each : length sources.names ≡ length sources.files
  pub numbers : sources.first + length sources.files ≤ 4294967295
  pub chunk : 0 < sources.chunk

-- the files are open in this outside, and so much of them was read
pub record AreOpen (o : Outside) (r : PiecesRead) : Type 0 where
  pub numbered : AreNumbered r.sources
  pub within : r.source ≤ length r.sources.files
  pub opened : (source : ℕ) (file : FileNo) → slice_get r.sources.files source ≡ Some file → file.0 < length o.sizes
  pub current : IsCurrent o r.sources r.source r.current
  pub earlier : r.earlier ≡ sum_by (λ n. n) (take r.source (sizes_in o.sizes r.sources.files))
  pub fits : r.earlier + size_within r.current < 2 ^ 64
  pub order : r.given ≤ settled_to r
  pub few : r.rows ≤ 4294967295
  pub pieces : r.pieces ≤ r.rows

-- the faults of a search for a piece, whatever is told: each but out of memory and too many rows names one of the files
abbrev pub IsPiecesFaultOf : FilesAsked → Fault → Type 0
IsPiecesFaultOf sources faults.OutOfMemory = Unit {0}
IsPiecesFaultOf sources (faults.ComputeError kinds.TooManyRows number at) = (number ≡ 4294967295) × (at ≡ 0)
IsPiecesFaultOf sources fault = (source : ℕ) × (source < length sources.files) × IsRowsFaultOf (sources.first + source) fault

-- the reader has files that are open in this outside; or it has answered a fault, and reads nothing more
pub record SuitsPieces (o : Outside) (r : PiecesRead) : Type 0 where
  pub opened : r.fault ≡ None → AreOpen o r
  pub listed : (fault : Fault) → r.fault ≡ Some fault → IsPiecesFaultOf r.sources fault

-- what the files contain is told: these bytes, and no more
abbrev pub AreTold : Outside → List FileNo → List (List ℕ) → Type 0
AreTold o [] [] = Unit {0}
AreTold o (file ∷ numbers) (bytes ∷ files) = IsTold o.held file.0 bytes × (slice_index o.sizes file.0 ≡ length bytes) × AreTold o numbers files
AreTold o [] (bytes ∷ files) = ⊥
AreTold o (file ∷ numbers) [] = ⊥

-- a slice counts from the first row
abbrev pub CountsFromFirst : Option (ℤ × ℕ) → Type 0
CountsFromFirst None = Unit {0}
CountsFromFirst (Some slice) = pos (nat_abs slice.0) ≡ slice.0

-- so many rows of the file that is read were given
abbrev pub HasGivenWithin : CsvScan → List (List ℕ) → ℕ → ℕ → Option RowsRead → Type 0
HasGivenWithin s files source rows None = rows ≡ 0
HasGivenWithin s files source rows (Some r) = (bytes : List ℕ) × (slice_get files source ≡ Some bytes) × HasRowsGiven s bytes rows r

-- of a scan over files with these bytes, what comes before a place was given or passed: so many rows come before it, and what comes after the last piece is UTF-8
pub record HasGivenRows (s : CsvScan) (files : List (List ℕ)) (o : Outside) (r : PiecesRead) : Type 0 where
  pub fit : IsDialect s.options
  pub is : r.sources ≡ files_asked s r.sources.names r.sources.files r.sources.first r.sources.chunk
  pub from_first : CountsFromFirst s.scan.asked.slice
  pub no_fault : r.fault ≡ None
  pub one_each : length r.sources.names ≡ length files
  pub told : AreTold o r.sources.files files
  pub earlier : ℕ
  pub rows_before : HaveRows s (take r.source files) earlier
  pub within : ℕ
  pub rows_within : HasGivenWithin s files r.source within r.current
  pub rows_are : r.rows ≡ earlier + within
  pub after_pieces : IsAfterPieces s files r.given r.rows
  pub passed : (number : ℕ) → IsUtf8 (bytes_between files number r.given (settled_to r))
