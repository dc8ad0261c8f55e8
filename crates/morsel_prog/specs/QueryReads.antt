-- What the steps to a query do: the query file is opened, read whole, and read as a query.
use Rattle.std.specs.Prelude.{◌≡◌, ℕ, ◌<◌, ◌≤◌, slice_index, Result, Ok, Err, List, [], ◌∷◌, length, Vec}
use Rattle.std.specs.declared.alloc.Global.{Global}
use Rattle.morsel_meaning.specs.declared.fault.Fault.{Fault}
use Rattle.morsel_meaning.specs.declared.fault.Fault.TheVariants as faults
use Rattle.morsel_outside.specs.declared.io.FileNo.{FileNo}
use Rattle.morsel_outside.specs.Outside.{Outside}
use Rattle.morsel_outside.specs.Actions.{FailedOpening, ReadingRange, FailedReadingRange, Rises, Does}
use Rattle.morsel_outside.specs.Calls.{Holds, IsNextFile}
use Rattle.morsel_query.specs.Queries.{QueryParts}
use Rattle.morsel_query.specs.RunOptions.{RunOptions}
use Rattle.morsel_prog.specs.Words.{Command}
use Rattle.morsel_prog.specs.QueryFiles.{most_query_bytes}
use Rattle.morsel_prog.specs.CommandQueries.{ReadsQueryFiles, NoReadFails, SamePrints, HasQuery, LacksQuery}

-- a vector of bytes seen as its list
abbrev pub bytes_seen : Result (Vec ℕ Global) Fault → Result (List ℕ) Fault
bytes_seen (Ok bytes) = Ok bytes.items
bytes_seen (Err fault) = Err fault

-- the query file is open, or could not be opened
abbrev pub OpensQueryFile : Outside → List ℕ → Result FileNo Fault → Outside → Type 0
OpensQueryFile old name (Ok file) new = (bytes : List ℕ) × IsNextFile old name file.0 bytes new
OpensQueryFile old name (Err faults.OutOfMemory) new = new ≡ old
OpensQueryFile old name (Err (faults.ReadFault file)) new = (file ≡ 4294967295) × Does old (FailedOpening (length old.sizes) name ∷ []) new
OpensQueryFile old name (Err fault) new = ⊥

-- an open file was read whole; or it has too many bytes, and was not read; or could not be read
abbrev pub ReadsOpened : Outside → ℕ → Result (List ℕ) Fault → Outside → Type 0
ReadsOpened old file (Ok bytes) new = (length bytes ≡ slice_index old.sizes file) × (length bytes ≤ most_query_bytes) × Holds old.held file 0 bytes
    × Does old (ReadingRange file 0 (length bytes) ∷ []) new
ReadsOpened old file (Err faults.OutOfMemory) new = new ≡ old
ReadsOpened old file (Err (faults.ReadFault number)) new = (number ≡ 4294967295) × Does old (FailedReadingRange file 0 (slice_index old.sizes file) ∷ []) new
ReadsOpened old file (Err faults.QueryText) new = (new ≡ old) × (most_query_bytes < slice_index old.sizes file)
ReadsOpened old file (Err fault) new = ⊥

-- why the query file was not read whole
abbrev pub IsNotReadFor : Outside → List (List ℕ) → Outside → Fault → Type 0
IsNotReadFor old texts new faults.OutOfMemory = NoReadFails old new
IsNotReadFor old texts new (faults.ReadFault file) = (file ≡ 4294967295) × Rises old.read_faults new.read_faults × (new.failed ≡ length old.sizes)
IsNotReadFor old texts new faults.QueryText = NoReadFails old new × (text : List ℕ) × (texts ≡ text ∷ []) × (most_query_bytes < length text)
IsNotReadFor old texts new fault = ⊥

-- the query file was opened and read whole, and has these bytes; or it was not, for a fault
abbrev pub ReadsWhole : Outside → List ℕ → Result (List ℕ) Fault → Outside → Type 0
ReadsWhole old name (Ok bytes) new = (length bytes ≤ most_query_bytes) × ReadsQueryFiles old (name ∷ []) (bytes ∷ []) new × NoReadFails old new × SamePrints old new
ReadsWhole old name (Err fault) new = (texts : List (List ℕ)) × ReadsQueryFiles old (name ∷ []) texts new × IsNotReadFor old texts new fault × SamePrints old new

-- a command has this query, to be run by these options; or it has none, for a fault
abbrev pub HasOrLacks : Outside → Command → Result (QueryParts × RunOptions) Fault → Outside → Type 0
HasOrLacks old command (Ok pair) new = (had : HasQuery old command new) × (had.query ≡ pair.0) × (had.options ≡ pair.1)
HasOrLacks old command (Err fault) new = LacksQuery old command new fault × SamePrints old new
