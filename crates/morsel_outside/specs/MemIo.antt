-- An outside in memory whose numbered calls fail.
use Rattle.std.specs.Prelude.{◌≡◌, ℕ, ◌+◌, ◌==◌, ◌||◌, Bool, true, false, if◌then◌else◌, Option, Some, None, IsSome, is_none, unwrap_or, Result, Ok, Err, List, [], ◌∷◌, length, take, slice_range, get_or, min}
use Rattle.std.specs.List.{list_any}
use Rattle.morsel_outside.specs.declared.io.FileNo.{FileNo}
use Rattle.morsel_outside.specs.declared.io.IoErr.{IoErr}
use Rattle.morsel_outside.specs.declared.io.IoErr.TheVariants.{OutOfMemory, Failed}
use Rattle.morsel_outside.specs.declared.events.IoEvent.TheVariants.{ReadAt}
use Rattle.morsel_outside.specs.declared.events.Asked.TheVariants.{Open, Make}
use Rattle.morsel_outside.specs.Outside.{Outside}
use Rattle.morsel_outside.specs.Actions.{Rises, raised}
use Rattle.morsel_outside.specs.Memory.{StoredFile, Contents, untouched, bytes_of, sizes_of, told, with_opened, with_made, with_event, with_asked, with_written, with_printed}

-- the contents, the calls that fail, and the counts
pub record FaultyMemory : Type 0 where
  pub contents : Contents
  pub fail_reads : List ℕ  -- the numbers of the opens and reads that fail
  pub fail_writes : List (ℕ × ℕ)  -- the numbers of the makes, writes and prints that fail, with how many bytes are taken
  pub reads : ℕ  -- how many opens and reads there were
  pub writes : ℕ  -- how many makes, writes and prints there were
  pub read_faults : ℕ
  pub write_faults : ℕ
  pub print_faults : ℕ
  pub failed : ℕ

-- what it tells
abbrev pub told_of : FaultyMemory → Outside
told_of memory = told memory.contents memory.read_faults memory.write_faults memory.print_faults memory.failed

-- nothing was done yet
abbrev pub at_start : List StoredFile → List ℕ → List (ℕ × ℕ) → FaultyMemory
at_start files fail_reads fail_writes = record {
  contents = untouched files;
  fail_reads = fail_reads;
  fail_writes = fail_writes;
  reads = 0;
  writes = 0;
  read_faults = 0;
  write_faults = 0;
  print_faults = 0;
  failed = 0;
}

-- whether the next open or read is one that fails
abbrev pub read_fails : FaultyMemory → Bool
read_fails memory = list_any (λ number. number == memory.reads) memory.fail_reads

-- the same, or there is no file of this name
abbrev pub open_fails : FaultyMemory → List ℕ → Bool
open_fails memory name = read_fails memory || is_none (bytes_of memory.contents.files name)

-- how many bytes the first pair of this number takes
abbrev pub taken_at : List (ℕ × ℕ) → ℕ → Option ℕ
taken_at [] number = None
taken_at (pair ∷ pairs) number = if pair.0 == number then Some pair.1 else taken_at pairs number

-- how many bytes the next make, write or print takes where it fails
abbrev pub next_taken : FaultyMemory → Option ℕ
next_taken memory = taken_at memory.fail_writes memory.writes

-- how many bytes of the piece the next write takes where it fails
abbrev pub part_taken : FaultyMemory → List ℕ → List ℕ
part_taken memory piece = take (min (unwrap_or (next_taken memory) 0) (length piece)) piece

-- one open or read more, after which these are the contents
abbrev pub after_read : FaultyMemory → Contents → FaultyMemory
after_read old contents = record old { contents = contents; reads = raised old.reads }

-- the same, where it failed on this file
abbrev pub after_read_fault : FaultyMemory → Contents → ℕ → FaultyMemory
after_read_fault old contents file = record old {
  contents = contents;
  reads = raised old.reads;
  read_faults = raised old.read_faults;
  failed = file;
}

-- one make, write or print more, after which these are the contents
abbrev pub after_write : FaultyMemory → Contents → FaultyMemory
after_write old contents = record old { contents = contents; writes = raised old.writes }

-- the same, where it failed
abbrev pub after_write_fault : FaultyMemory → Contents → FaultyMemory
after_write_fault old contents = record old {
  contents = contents;
  writes = raised old.writes;
  write_faults = raised old.write_faults;
}

-- the same, where it was a print that failed
abbrev pub after_print_fault : FaultyMemory → FaultyMemory
after_print_fault old = record old {
  writes = raised old.writes;
  write_faults = raised old.write_faults;
  print_faults = raised old.print_faults;
}

-- the first file of the name is opened; it fails where its number says so, or there is no such file
abbrev pub OpensStored : FaultyMemory → List ℕ → Result FileNo IoErr → FaultyMemory → Type 0
OpensStored old name (Ok file) new = (open_fails old name ≡ false) × (file.0 ≡ length (sizes_of old.contents))
    × (new ≡ after_read old (with_opened old.contents name))
OpensStored old name (Err OutOfMemory) new = new ≡ old
OpensStored old name (Err Failed) new = (open_fails old name ≡ true) × Rises old.read_faults (raised old.read_faults)
    × (new ≡ after_read_fault old (with_asked old.contents (Open name)) (length (sizes_of old.contents)))

-- the bytes that are held are read; it fails where its number says so
abbrev pub ReadsHeld : FaultyMemory → ℕ → ℕ → List ℕ → Result (Unit {0}) IoErr → FaultyMemory → Type 0
ReadsHeld old file at bytes (Ok _) new = (read_fails old ≡ false)
    × (bytes ≡ slice_range (get_or old.contents.held file []) at (at + length bytes))
    × (new ≡ after_read old (with_event old.contents (ReadAt file at (length bytes))))
ReadsHeld old file at bytes (Err OutOfMemory) new = new ≡ old
ReadsHeld old file at bytes (Err Failed) new = (read_fails old ≡ true) × Rises old.read_faults (raised old.read_faults)
    × (new ≡ after_read_fault old (with_event old.contents (ReadAt file at (length bytes))) file)

-- a sink is made; it fails where its number says so
abbrev pub MakesKept : FaultyMemory → List ℕ → Result (Unit {0}) IoErr → FaultyMemory → Type 0
MakesKept old name (Ok _) new = (next_taken old ≡ None) × (new ≡ after_write old (with_made old.contents name))
MakesKept old name (Err OutOfMemory) new = new ≡ old
MakesKept old name (Err Failed) new = IsSome (next_taken old) × Rises old.write_faults (raised old.write_faults)
    × (new ≡ after_write_fault old (with_asked old.contents (Make name)))

-- the piece is appended; it fails where its number says so, and as many bytes as that says are appended
abbrev pub WritesKept : FaultyMemory → List ℕ → Result (Unit {0}) IoErr → FaultyMemory → Type 0
WritesKept old piece (Ok _) new = (next_taken old ≡ None) × (new ≡ after_write old (with_written old.contents piece))
WritesKept old piece (Err OutOfMemory) new = new ≡ old
WritesKept old piece (Err Failed) new = IsSome (next_taken old) × Rises old.write_faults (raised old.write_faults)
    × (new ≡ after_write_fault old (with_written old.contents (part_taken old piece)))

-- the line is kept; it fails where its number says so
abbrev pub PrintsKept : FaultyMemory → List ℕ → Result (Unit {0}) IoErr → FaultyMemory → Type 0
PrintsKept old line (Ok _) new = (next_taken old ≡ None) × (new ≡ after_write old (with_printed old.contents line))
PrintsKept old line (Err OutOfMemory) new = new ≡ old
PrintsKept old line (Err Failed) new = IsSome (next_taken old) × Rises old.write_faults (raised old.write_faults)
    × (new ≡ after_print_fault old)
