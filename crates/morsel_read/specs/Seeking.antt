-- A search for the next records with rows, file by file.
use Rattle.std.specs.Prelude.{◌≡◌, ℕ, ◌+◌, ◌*◌, ◌^◌, ◌<◌, ◌≤◌, Option, Some, None, Result, Ok, Err, List, [], length, take, slice_get, slice_index, IsUtf8, IfOk, IfErr, IfSome, OnOk}
use Rattle.morsel_meaning.specs.declared.fault.Fault.{Fault}
use Rattle.morsel_meaning.specs.declared.fault.Fault.TheVariants as faults
use Rattle.morsel_meaning.specs.declared.fault.ComputeKind.TheVariants as kinds
use Rattle.morsel_outside.specs.Outside.{Outside}
use Rattle.morsel_outside.specs.declared.io.FileNo.{FileNo}
use Rattle.morsel_pipe.specs.Pieces.{Piece}
use Rattle.morsel_scan.specs.Scans.{CsvScan}
use Rattle.morsel_scan.specs.CsvPieces.{HaveRows, bytes_between}
use Rattle.morsel_scan.specs.Blocks.{IsOpenFile}
use Rattle.morsel_scan.specs.RowBlocks.{RowsRead, RowStretch, rows_at_start, IsLaterIn, EndsAtGiven, AreNextRows, HasRowsGiven, IsRowsFaultOf, IsToldFile, GivesRows, ReadsForRows}
use Rattle.morsel_read.specs.ScanReads.{FilesAsked, PiecesRead, slice_within, asked_to, settled_to, IsPiecesFaultOf, AreOpen, HasGivenRows}
use Rattle.morsel_read.specs.PieceReads.{ReadsOnForPieces, ReadsUpToFault, ReadsForPieces, IsPiecesFault, HasGivenAll, GivesNumbered, FindsPiece}

-- the file that is read is taken out of the reader: the one that was begun, or the next one, of which nothing was asked
pub record TakesCurrent (o : Outside) (old : PiecesRead) (taken : RowsRead) (new : PiecesRead) : Type 0 where
  pub left : new ≡ record old { current = None }
  pub file : FileNo
  pub is : slice_get old.sources.files old.source ≡ Some file
  pub fits : old.earlier + taken.blocks.size < 2 ^ 64
  pub begun : (c : RowsRead) → old.current ≡ Some c → taken ≡ c
  pub anew : old.current ≡ None → taken ≡ rows_at_start old.sources.options (old.sources.first + old.source) file.0 (slice_index o.sizes file.0)

-- only the place within the files changed
abbrev pub AreSameGiven : PiecesRead → PiecesRead → Type 0
AreSameGiven old new = new ≡ record old { source = new.source; current = new.current; earlier = new.earlier }

-- files without more rows were passed
pub record PassesFiles (before : Outside) (old : PiecesRead) (after : Outside) (new : PiecesRead) : Type 0 where
  pub opened : AreOpen after new
  pub same : AreSameGiven old new
  pub order : old.source ≤ new.source
  pub reads : ReadsOnForPieces before old after (asked_to new)
  pub still : old.source ≡ length old.sources.files → (new ≡ old) × (after ≡ before)
  pub told : (s : CsvScan) (files : List (List ℕ)) → HasGivenRows s files before old → HasGivenRows s files after new

-- of files with these bytes, the next records with rows were found
pub record HasFoundRows (s : CsvScan) (files : List (List ℕ)) (before : Outside) (old : PiecesRead) (stretch : RowStretch) (new : PiecesRead) : Type 0 where
  pub had : HasGivenRows s files before old
  pub bytes : List ℕ
  pub is : slice_get files new.source ≡ Some bytes
  pub earlier : ℕ
  pub rows_before : HaveRows s (take new.source files) earlier
  pub within : ℕ
  pub rows_are : old.rows ≡ earlier + within
  pub from : ℕ
  pub next : AreNextRows s bytes from within stretch
  pub passed : (number : ℕ) → IsUtf8 (bytes_between files number old.given (new.earlier + stretch.at))
  pub current : RowsRead
  pub current_is : new.current ≡ Some current
  pub given : HasRowsGiven s bytes (within + stretch.rows) current

-- the next records with rows, up to whose end the files are given
pub record FindsStretch (before : Outside) (old : PiecesRead) (stretch : RowStretch) (after : Outside) (new : PiecesRead) : Type 0 where
  pub opened : AreOpen after new
  pub same : AreSameGiven old new
  pub order : old.given ≤ new.earlier + stretch.at
  pub end : new.earlier + stretch.at + length stretch.bytes ≡ settled_to new
  pub some : 0 < stretch.rows
  pub few : stretch.rows ≤ length stretch.bytes
  pub more : old.source < length old.sources.files
  pub source : new.source < length new.sources.files
  pub reads : ReadsOnForPieces before old after (asked_to new)
  pub told : (s : CsvScan) (files : List (List ℕ)) → HasGivenRows s files before old → HasFoundRows s files before old stretch new

-- all files were read to their ends
pub record EndsFiles (before : Outside) (old : PiecesRead) (after : Outside) (new : PiecesRead) : Type 0 where
  pub passes : PassesFiles before old after new
  pub all : new.source ≡ length new.sources.files
  pub none : new.current ≡ None

-- a search for records with rows fails
pub record FailsToFind (before : Outside) (old : PiecesRead) (fault : Fault) (after : Outside) (new : PiecesRead) : Type 0 where
  pub more : old.source < length old.sources.files
  pub same : AreSameGiven old new
  pub listed : IsPiecesFaultOf old.sources fault
  pub reads : ReadsUpToFault before old fault after
  pub told : (s : CsvScan) (files : List (List ℕ)) → HasGivenRows s files before old → IsPiecesFault s old.sources.first files (asked_to new) fault

-- what a search for records with rows finds
abbrev pub SeeksRows : Outside → PiecesRead → Result (Option RowStretch) Fault → Outside → PiecesRead → Type 0
SeeksRows before old (Ok (Some stretch)) after new = FindsStretch before old stretch after new
SeeksRows before old (Ok None) after new = EndsFiles before old after new
SeeksRows before old (Err fault) after new = FailsToFind before old fault after new

-- what a search in one file finds, as its reader says
pub record FindsRows (sources : FilesAsked) (before : Outside) (old : RowsRead) (result : Result (Option RowStretch) Fault) (after : Outside) (new : RowsRead) : Type 0 where
  pub file : OnOk result (IsOpenFile after new.blocks)
  pub same : OnOk result (IsLaterIn old.blocks new.blocks)
  pub place : IfOk result (λ (found : Option RowStretch). IfSome found (λ stretch. EndsAtGiven old stretch new))
  pub end : IfOk result (λ (found : Option RowStretch). found ≡ None → new.blocks.asked ≡ new.blocks.size)
  pub listed : IfErr result (λ fault. IsRowsFaultOf old.blocks.source fault)
  pub reads : ReadsForRows sources.options sources.columns before old sources.chunk result after new
  pub rows : (s : CsvScan) (bytes : List ℕ) (rows : ℕ) → IsToldFile sources.options sources.columns s bytes rows before old → GivesRows s bytes rows old result new

-- the next file is to be read, after one of so many bytes
abbrev pub passed_source : PiecesRead → ℕ → PiecesRead
passed_source r size = record r { source = r.source + 1; earlier = r.earlier + size }

-- the piece that records with rows are, of a file with this name
abbrev pub piece_of : PiecesRead → List ℕ → RowStretch → Piece
piece_of r name stretch = record {
  seq = 2 * r.pieces;
  file = r.sources.first + r.source;
  source = name;
  at = stretch.at;
  first_row = r.rows;
  rows = stretch.rows;
  slice = slice_within r.sources.start r.sources.stop r.rows stretch.rows;
  parts = [];
  bytes = stretch.bytes;
  from = r.given;
  to = r.earlier + stretch.at + length stretch.bytes;
}

-- they are given
abbrev pub after_piece : PiecesRead → RowStretch → PiecesRead
after_piece r stretch = record r { given = r.earlier + stretch.at + length stretch.bytes; rows = r.rows + stretch.rows; pieces = r.pieces + 1 }

-- records with rows are made the next piece; or memory is out, or there are too many rows
abbrev pub GivesStretchOf : PiecesRead → RowStretch → Result Piece Fault → PiecesRead → Type 0
GivesStretchOf old stretch (Ok piece) new = (name : List ℕ) × (slice_get old.sources.names old.source ≡ Some name) × (piece ≡ piece_of old name stretch)
    × (old.rows + stretch.rows ≤ 4294967295) × (new ≡ after_piece old stretch)
GivesStretchOf old stretch (Err faults.OutOfMemory) new = new ≡ old
GivesStretchOf old stretch (Err (faults.ComputeError kinds.TooManyRows number at)) new = (new ≡ old) × (number ≡ 4294967295) × (at ≡ 0) × (4294967295 < old.rows + stretch.rows)
GivesStretchOf old stretch (Err fault) new = ⊥

-- what a search for a piece does, of a reader that has not failed
pub record SearchesPiece (before : Outside) (old : PiecesRead) (result : Result (Option Piece) Fault) (after : Outside) (new : PiecesRead) : Type 0 where
  pub same : new.sources ≡ old.sources
  pub no_fault : new.fault ≡ None
  pub opened : OnOk result (AreOpen after new)
  pub listed : IfErr result (λ fault. IsPiecesFaultOf old.sources fault)
  pub numbered : IfOk result (λ found. GivesNumbered old found new)
  pub reads : ReadsForPieces before old result after new
  pub ended : HasGivenAll old → (result ≡ Ok None) × (new ≡ old) × (after ≡ before)
  pub told : (s : CsvScan) (files : List (List ℕ)) → HasGivenRows s files before old → FindsPiece s files old result after new

-- the fault is of a kind that a reader answers
abbrev pub IsReaderKind : Fault → Type 0
IsReaderKind faults.OutOfMemory = Unit {0}
IsReaderKind (faults.ReadFault file) = Unit {0}
IsReaderKind (faults.Malformed file at) = Unit {0}
IsReaderKind (faults.Unsupported file code) = Unit {0}
IsReaderKind (faults.ComputeError kind file at) = Unit {0}
IsReaderKind fault = ⊥
