-- What a search for the next piece of a scan's files reads, and what it answers.
use Rattle.std.specs.Prelude.{◌≡◌, ◌⊎◌, ℕ, ◌+◌, ◌*◌, ◌<◌, ◌≤◌, ℤ, nat_abs, Bool, Option, Some, None, Result, Ok, Err, List, [], ◌∷◌, length, take, get_or, slice_get}
use Rattle.std.specs.List.{sum_by}
use Rattle.morsel_meaning.specs.declared.fault.Fault.{Fault}
use Rattle.morsel_meaning.specs.declared.fault.Fault.TheVariants as faults
use Rattle.morsel_meaning.specs.declared.fault.ComputeKind.TheVariants as kinds
use Rattle.morsel_outside.specs.Outside.{Outside}
use Rattle.morsel_outside.specs.declared.io.FileNo.{FileNo}
use Rattle.morsel_outside.specs.Actions.{Action, ReadingRange, FailedReadingRange, Does}
use Rattle.morsel_pipe.specs.Pieces.{Piece}
use Rattle.morsel_scan.specs.Scans.{CsvScan}
use Rattle.morsel_scan.specs.CsvScans.{FitsScan}
use Rattle.morsel_scan.specs.CsvPieces.{HaveRows, IsRowPlace, BeginsStretch, IsPieceOf}
use Rattle.morsel_scan.specs.CsvAxis.{csv_axis}
use Rattle.morsel_scan.specs.Ahead.{EndsNoRow}
use Rattle.morsel_scan.specs.StretchRows.{Gives, HasFaultWithin}
use Rattle.morsel_scan.specs.FileReads.{IsChunk}
use Rattle.morsel_scan.specs.RowBlocks.{IsRowsFault}
use Rattle.morsel_read.specs.ScanReads.{PiecesRead, slice_within, asked_to, sizes_in, HasGivenRows}

-- a read of a file is of the next of the bytes of all files, within the file, and of a chunk at most
pub record IsNextChunk (files : List FileNo) (sizes : List ℕ) (chunk asked file at len : ℕ) : Type 0 where
  pub source : ℕ
  pub is : slice_get files source ≡ Some (record { 0 = file })
  pub next : asked ≡ sum_by (λ n. n) (take source sizes) + at
  pub within : IsChunk (get_or sizes source 0) chunk at len

-- each action reads the next chunk, from one place of the bytes of all files up to another
abbrev pub AreNextChunks : List FileNo → List ℕ → ℕ → ℕ → List Action → ℕ → Type 0
AreNextChunks files sizes chunk asked [] to = asked ≡ to
AreNextChunks files sizes chunk asked (ReadingRange file at len ∷ actions) to =
    IsNextChunk files sizes chunk asked file at len × AreNextChunks files sizes chunk (asked + len) actions to
AreNextChunks files sizes chunk asked (action ∷ actions) to = ⊥

-- no row of the files ends between two places
abbrev pub EndsNoRowOf : CsvScan → ℕ → List (List ℕ) → List (List ℕ) → ℕ → ℕ → Type 0
EndsNoRowOf s first names files from to = EndsNoRow (csv_axis s first names files [] 0 (λ rows. [])) from to

-- each read is made while no row ends between place `given` and the place up to which all was asked
abbrev pub AreInNeed : CsvScan → ℕ → List (List ℕ) → List (List ℕ) → ℕ → ℕ → List Action → Type 0
AreInNeed s first names files given asked [] = Unit {0}
AreInNeed s first names files given asked (ReadingRange file at len ∷ actions) =
    EndsNoRowOf s first names files given asked × AreInNeed s first names files given (asked + len) actions
AreInNeed s first names files given asked (action ∷ actions) = ⊥

-- only the next chunks were read, up to a place, each while no whole row was held
pub record ReadsOnForPieces (before : Outside) (old : PiecesRead) (after : Outside) (to : ℕ) : Type 0 where
  pub reads : List Action
  pub are : AreNextChunks old.sources.files (sizes_in before.sizes old.sources.files) old.sources.chunk (asked_to old) reads to
  pub does : Does before reads after
  pub in_need : (s : CsvScan) (files : List (List ℕ)) → HasGivenRows s files before old
      → AreInNeed s old.sources.first old.sources.names files old.given (asked_to old) reads

-- the same, and then the read of a chunk of the file of this number within the query failed
pub record FailsToReadForPieces (before : Outside) (old : PiecesRead) (after : Outside) (number : ℕ) : Type 0 where
  pub between : Outside
  pub to : ℕ
  pub reads : ReadsOnForPieces before old between to
  pub file : ℕ
  pub at : ℕ
  pub len : ℕ
  pub last : IsNextChunk old.sources.files (sizes_in before.sizes old.sources.files) old.sources.chunk to file at len
  pub last_in_need : (s : CsvScan) (files : List (List ℕ)) → HasGivenRows s files before old
      → EndsNoRowOf s old.sources.first old.sources.names files old.given to
  pub number_is : number ≡ old.sources.first + last.source
  pub fails : Does between (FailedReadingRange file at len ∷ []) after

-- what a search that fails did to the outside
abbrev pub ReadsUpToFault : Outside → PiecesRead → Fault → Outside → Type 0
ReadsUpToFault before old (faults.ReadFault number) after = FailsToReadForPieces before old after number
ReadsUpToFault before old fault after = (to : ℕ) × ReadsOnForPieces before old after to

-- what a search for a piece did to the outside
abbrev pub ReadsForPieces : {T : Type 0} → Outside → PiecesRead → Result T Fault → Outside → PiecesRead → Type 0
ReadsForPieces before old (Ok found) after new = ReadsOnForPieces before old after (asked_to new)
ReadsForPieces before old (Err fault) after new = ReadsUpToFault before old fault after

-- more rows than this come before a place of the files that was asked, or in all files up to one whose bytes were
abbrev pub HasMoreRows : CsvScan → List (List ℕ) → ℕ → ℕ → Type 0
HasMoreRows s files asked most = (rows : ℕ) × (most < rows)
    × (((source : ℕ) × (at : ℕ) × (place : ℕ) × (head : Bool) × IsRowPlace s files source at place rows head × (place ≤ asked))
    ⊎ ((source : ℕ) × HaveRows s (take source files) rows × (sum_by length (take source files) ≤ asked)))

-- one of the files, before which all are records, is compressed, or has a record that is none or is not UTF-8
abbrev pub IsFaultOfFile : CsvScan → ℕ → List (List ℕ) → Fault → Type 0
IsFaultOfFile s first files fault = (source : ℕ) × (rows : ℕ) × HaveRows s (take source files) rows
    × (bytes : List ℕ) × (slice_get files source ≡ Some bytes) × IsRowsFault s.options (first + source) bytes fault

-- why no piece of the files is given, of which so many bytes were asked. Of a read that failed, the reads tell
abbrev pub IsPiecesFault : CsvScan → ℕ → List (List ℕ) → ℕ → Fault → Type 0
IsPiecesFault s first files asked faults.OutOfMemory = Unit {0}
IsPiecesFault s first files asked (faults.ComputeError kinds.TooManyRows number at) = HasMoreRows s files asked 4294967295
IsPiecesFault s first files asked fault = IsFaultOfFile s first files fault

-- the files are records to their ends, and no more than so many count as rows
abbrev pub HaveRowsAtMost : CsvScan → List (List ℕ) → ℕ → Type 0
HaveRowsAtMost s files most = (rows : ℕ) × HaveRows s files rows × (rows ≤ most)

-- the slice keeps no row after a place, up to which all was given; from there up to where all was asked no place has a fault, whatever the numbers and names of the files; where that is all bytes, there are no more rows than are allowed
pub record IsSliceEnd (s : CsvScan) (files : List (List ℕ)) (given asked : ℕ) : Type 0 where
  pub slice : ℤ × ℕ
  pub is : s.scan.asked.slice ≡ Some slice
  pub rows : ℕ
  pub past : nat_abs slice.0 + slice.1 ≤ rows
  pub begins : BeginsStretch s files given rows
  pub within : given ≤ asked
  pub few : rows ≤ 4294967295
  pub counted : asked ≡ sum_by length files → HaveRowsAtMost s files 4294967295
  pub faultless : (first : ℕ) (names : List (List ℕ)) → length names ≡ length files
      → (fault : Fault) → HasFaultWithin (csv_axis s first names files [] 0 (λ rows. [])).gives given asked fault → ⊥

-- no place of the files gives anything from this one on: all was asked, and there are no more rows than are allowed; or the slice keeps no row after it
abbrev pub IsScanEnd : CsvScan → ℕ → List (List ℕ) → List (List ℕ) → ℕ → ℕ → Type 0
IsScanEnd s first names files given asked =
    ((asked ≡ sum_by length files) × (let gives = (csv_axis s first names files [] 0 (λ rows. [])).gives in Gives gives given (length gives) [])
    × HaveRowsAtMost s files 4294967295)
    ⊎ IsSliceEnd s files given asked

-- the next piece goes on from the last one, with the next number and the next positions, and is of the file that is read now
pub record IsNextPiece (old : PiecesRead) (piece : Piece) (new : PiecesRead) : Type 0 where
  pub seq : piece.seq ≡ 2 * old.pieces
  pub within : new.source < length new.sources.files
  pub file : piece.file ≡ new.sources.first + new.source
  pub source : slice_get new.sources.names new.source ≡ Some piece.source
  pub first_row : piece.first_row ≡ old.rows
  pub slice : piece.slice ≡ slice_within new.sources.start new.sources.stop old.rows piece.rows
  pub parts : piece.parts ≡ []
  pub some : 0 < piece.rows
  pub bytes : 0 < length piece.bytes
  pub begins : old.given ≤ new.earlier + piece.at
  pub from : piece.from ≡ old.given
  pub ends : piece.to ≡ new.earlier + piece.at + length piece.bytes
  pub to : piece.to ≡ new.given
  pub fits : FitsScan piece
  pub rows : new.rows ≡ old.rows + piece.rows
  pub pieces : new.pieces ≡ old.pieces + 1

-- all files were read to their ends, or the slice keeps no more rows
abbrev pub HasGivenAll : PiecesRead → Type 0
HasGivenAll r = (r.source ≡ length r.sources.files) ⊎ (r.sources.stop ≤ r.rows)

-- a piece, or none at the scan's end
abbrev pub GivesNumbered : PiecesRead → Option Piece → PiecesRead → Type 0
GivesNumbered old (Some piece) new = IsNextPiece old piece new
GivesNumbered old None new = (new.given ≡ old.given) × (new.rows ≡ old.rows) × (new.pieces ≡ old.pieces) × HasGivenAll new

-- of files with these bytes: the next piece, after which the reader goes on; or the scan's end; or a fault
abbrev pub FindsPiece : CsvScan → List (List ℕ) → PiecesRead → Result (Option Piece) Fault → Outside → PiecesRead → Type 0
FindsPiece s files old (Ok (Some piece)) after new = IsPieceOf s old.sources.first old.sources.names files piece × HasGivenRows s files after new
FindsPiece s files old (Ok None) after new = IsScanEnd s old.sources.first old.sources.names files new.given (asked_to new) × HasGivenRows s files after new
FindsPiece s files old (Err fault) after new = IsPiecesFault s old.sources.first files (asked_to new) fault
