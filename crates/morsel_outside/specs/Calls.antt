-- What each call to the outside does, by cases on its answer. One that ran out of memory changes nothing.
use Rattle.std.specs.Prelude.{◌≡◌, ℕ, ◌+◌, ◌≤◌, Option, Some, None, Result, Ok, Err, List, [], ◌∷◌, length, take, slice_range, get_or}
use Rattle.morsel_outside.specs.declared.io.FileNo.{FileNo}
use Rattle.morsel_outside.specs.declared.io.IoErr.{IoErr}
use Rattle.morsel_outside.specs.declared.io.IoErr.TheVariants.{OutOfMemory, Failed}
use Rattle.morsel_outside.specs.Outside.{Outside, IsSized}
use Rattle.morsel_outside.specs.Actions.{Does, Opening, FailedOpening, ReadingRange, FailedReadingRange, Making, FailedMaking, Writing, FailedWriting, Printing, FailedPrinting}

-- the file has these bytes from this place on, where its bytes are told
abbrev pub Holds : Option (List (List ℕ)) → ℕ → ℕ → List ℕ → Type 0
Holds None file at bytes = Unit {0}
Holds (Some files) file at bytes = slice_range (get_or files file []) at (at + length bytes) ≡ bytes

-- a file with these bytes has the next number
pub record IsNextFile (old : Outside) (name : List ℕ) (file : ℕ) (bytes : List ℕ) (new : Outside) : Type 0 where
  pub number : file ≡ length old.sizes
  pub sized : IsSized new.held new.sizes
  pub does : Does old (Opening name bytes ∷ []) new

-- the file is open, with some bytes; or it could not be opened
abbrev pub Opens : Outside → List ℕ → Result FileNo IoErr → Outside → Type 0
Opens old name (Ok file) new = (bytes : List ℕ) × IsNextFile old name file.0 bytes new
Opens old name (Err OutOfMemory) new = new ≡ old
Opens old name (Err Failed) new = Does old (FailedOpening (length old.sizes) name ∷ []) new

-- `bytes` is the buffer at the return: what the file has there at Ok, and anything of its length otherwise
abbrev pub Reads : Outside → ℕ → ℕ → List ℕ → Result (Unit {0}) IoErr → Outside → Type 0
Reads old file at bytes (Ok _) new = Holds old.held file at bytes × Does old (ReadingRange file at (length bytes) ∷ []) new
Reads old file at bytes (Err OutOfMemory) new = new ≡ old
Reads old file at bytes (Err Failed) new = Does old (FailedReadingRange file at (length bytes) ∷ []) new

-- a sink of this name is the last; or it could not be made
abbrev pub Makes : Outside → List ℕ → Result (Unit {0}) IoErr → Outside → Type 0
Makes old name (Ok _) new = Does old (Making name ∷ []) new
Makes old name (Err OutOfMemory) new = new ≡ old
Makes old name (Err Failed) new = Does old (FailedMaking name ∷ []) new

-- the text of the last sink has the piece at its end; a write that fails takes some bytes of the piece
abbrev pub Writes : Outside → List ℕ → Result (Unit {0}) IoErr → Outside → Type 0
Writes old piece (Ok _) new = Does old (Writing piece ∷ []) new
Writes old piece (Err OutOfMemory) new = new ≡ old
Writes old piece (Err Failed) new = (taken : ℕ) × (taken ≤ length piece) × Does old (FailedWriting (take taken piece) ∷ []) new

-- the line is printed; or it could not be
abbrev pub Prints : Outside → List ℕ → Result (Unit {0}) IoErr → Outside → Type 0
Prints old line (Ok _) new = Does old (Printing line ∷ []) new
Prints old line (Err OutOfMemory) new = new ≡ old
Prints old line (Err Failed) new = Does old (FailedPrinting ∷ []) new
