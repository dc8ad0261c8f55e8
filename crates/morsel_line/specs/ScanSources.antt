-- The reader of a scan's files, as what a line is fed from.
use Rattle.std.specs.Prelude.{◌≡◌, ℕ, ◌+◌, Some, None, List, [], ◌∷◌, ◌++◌, map, slice_get}
use Rattle.std.specs.List.{sum_by}
use Rattle.morsel_meaning.specs.declared.fault.Fault.{Fault}
use Rattle.morsel_meaning.specs.declared.fault.Fault.TheVariants as faults
use Rattle.morsel_outside.specs.Outside.{Outside}
use Rattle.morsel_outside.specs.declared.io.FileNo.{FileNo}
use Rattle.morsel_outside.specs.Actions.{Action, ReadingRange, FailedReadingRange, read_failures}
use Rattle.morsel_read.specs.ScanReads.{FilesAsked, PiecesRead, asked_to, sizes_in, HasGivenRows}
use Rattle.morsel_read.specs.PieceReads.{IsNextChunk}
use Rattle.morsel_line.specs.Jobs.{Job}

-- the numbers of files as they were opened
abbrev pub opened_as : List FileNo → List ℕ
opened_as files = map (λ (file : FileNo). file.0) files

-- each action reads the next chunk of the files, or fails to, from one place of all their bytes up to another
abbrev pub AskNextChunks : List FileNo → List ℕ → ℕ → ℕ → List Action → ℕ → Type 0
AskNextChunks files sizes chunk asked [] to = asked ≡ to
AskNextChunks files sizes chunk asked (ReadingRange file at len ∷ actions) to =
    IsNextChunk files sizes chunk asked file at len × AskNextChunks files sizes chunk (asked + len) actions to
AskNextChunks files sizes chunk asked (FailedReadingRange file at len ∷ actions) to =
    IsNextChunk files sizes chunk asked file at len × AskNextChunks files sizes chunk (asked + len) actions to
AskNextChunks files sizes chunk asked (action ∷ actions) to = ⊥

-- the last of the actions is a read that failed, of the file of this number within the query
pub record EndsInFailure (files : FilesAsked) (number : ℕ) (actions : List Action) : Type 0 where
  pub before : List Action
  pub source : ℕ
  pub file : ℕ
  pub at : ℕ
  pub len : ℕ
  pub is : slice_get files.files source ≡ Some (record { 0 = file })
  pub number_is : number ≡ files.first + source
  pub split : actions ≡ before ++ FailedReadingRange file at len ∷ []

-- what calls of a reader, one after the other, did over files of these sizes; none failed where there is no fault, and a reader that had one does nothing
pub record DidRead (old new : PiecesRead) (sizes : List ℕ) (actions : List Action) : Type 0 where
  pub same : new.sources ≡ old.sources
  pub to : ℕ
  pub are : AskNextChunks old.sources.files (sizes_in sizes old.sources.files) old.sources.chunk (asked_to old) actions to
  pub there : new.fault ≡ None → to ≡ asked_to new
  pub fine : new.fault ≡ None → sum_by read_failures actions ≡ 0
  pub failed : old.fault ≡ None → (number : ℕ) → new.fault ≡ Some (faults.ReadFault number) → EndsInFailure old.sources number actions
  pub after_fault : (fault : Fault) → old.fault ≡ Some fault → (actions ≡ []) × (new ≡ old)

-- the reader reads the files of the job, and has given what comes before its place
pub record ReadsJob (r : PiecesRead) (job : Job) (o : Outside) : Type 0 where
  pub given : HasGivenRows job.scan job.files o r
  pub names : r.sources.names ≡ job.names
  pub first : r.sources.first ≡ job.first
  pub opened : opened_as r.sources.files ≡ job.opened
