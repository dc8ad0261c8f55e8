-- What an outside in memory whose numbered calls fail does is what any outside may do.
use Rattle.std.specs.Prelude.{ℕ, min, List, length, Result, Ok, Err, unwrap_or, refl}
use Rattle.std.proofs.Common.{ap, sym, arith, ◌∙◌}
use Rattle.morsel_outside.specs.declared.io.FileNo.{FileNo}
use Rattle.morsel_outside.specs.declared.io.IoErr.{IoErr}
use Rattle.morsel_outside.specs.declared.io.IoErr.TheVariants.{OutOfMemory, Failed}
use Rattle.morsel_outside.specs.Actions.{raised}
use Rattle.morsel_outside.specs.Calls.{Opens, Reads, Makes, Writes, Prints}
use Rattle.morsel_outside.specs.Memory.{bytes_or_none}
use Rattle.morsel_outside.specs.MemIo.{FaultyMemory, told_of, OpensStored, ReadsHeld, MakesKept, WritesKept, PrintsKept, next_taken, part_taken}
use Rattle.morsel_outside.proofs.DoesLemmas.{does-opening, does-failed_opening, does-reading, does-failed_reading, does-making, does-failed_making, does-writing, does-failed_writing, does-printing, does-failed_printing}
use Rattle.morsel_outside.proofs.MemoryLemmas.{told-opened, told-made, told-written}

-- an opening of a stored file
pub opens-stored : (old : FaultyMemory) (name : List ℕ) (result : Result FileNo IoErr) (new : FaultyMemory) → OpensStored old name result new → Opens (told_of old) name result (told_of new)
opens-stored old name (Ok file) new kept = (
  bytes_or_none old.contents.files name,
  record {
    number = kept.1;
    sized = refl;
    does = does-opening _ _ name _ (ap told_of kept.2 ∙ told-opened old.contents name old.read_faults old.write_faults old.print_faults old.failed);
  },
)
opens-stored old name (Err OutOfMemory) new kept = ap told_of kept
opens-stored old name (Err Failed) new kept = does-failed_opening _ _ _ name _ kept.1 (ap told_of kept.2)

-- a read of what is held
pub reads-held : (old : FaultyMemory) (file at : ℕ) (bytes : List ℕ) (result : Result (Unit {0}) IoErr) (new : FaultyMemory) → ReadsHeld old file at bytes result new → Reads (told_of old) file at bytes result (told_of new)
reads-held old file at bytes (Ok done) new kept = (sym kept.1, does-reading _ _ file at (length bytes) (ap told_of kept.2))
reads-held old file at bytes (Err OutOfMemory) new kept = ap told_of kept
reads-held old file at bytes (Err Failed) new kept = does-failed_reading _ _ file at (length bytes) _ kept.1 (ap told_of kept.2)

-- a sink that is kept
pub makes-kept : (old : FaultyMemory) (name : List ℕ) (result : Result (Unit {0}) IoErr) (new : FaultyMemory) → MakesKept old name result new → Makes (told_of old) name result (told_of new)
makes-kept old name (Ok done) new kept = does-making _ _ name (ap told_of kept.1 ∙ told-made old.contents name old.read_faults old.write_faults old.print_faults old.failed)
makes-kept old name (Err OutOfMemory) new kept = ap told_of kept
makes-kept old name (Err Failed) new kept = does-failed_making _ _ name _ kept.1 (ap told_of kept.2)

-- a piece that is kept
pub writes-kept : (old : FaultyMemory) (piece : List ℕ) (result : Result (Unit {0}) IoErr) (new : FaultyMemory) → WritesKept old piece result new → Writes (told_of old) piece result (told_of new)
writes-kept old piece (Ok done) new kept = does-writing _ _ piece (ap told_of kept.1 ∙ told-written old.contents piece old.read_faults old.write_faults old.print_faults old.failed)
writes-kept old piece (Err OutOfMemory) new kept = ap told_of kept
writes-kept old piece (Err Failed) new kept = (
  min (unwrap_or (next_taken old) 0) (length piece),
  omega arith,
  does-failed_writing _ _ (part_taken old piece) _ kept.1
      (ap told_of kept.2 ∙ told-written old.contents (part_taken old piece) old.read_faults (raised old.write_faults) old.print_faults old.failed),
)

-- a line that is kept
pub prints-kept : (old : FaultyMemory) (line : List ℕ) (result : Result (Unit {0}) IoErr) (new : FaultyMemory) → PrintsKept old line result new → Prints (told_of old) line result (told_of new)
prints-kept old line (Ok done) new kept = does-printing _ _ line (ap told_of kept.1)
prints-kept old line (Err OutOfMemory) new kept = ap told_of kept
prints-kept old line (Err Failed) new kept = does-failed_printing _ _ _ kept.1 (ap told_of kept.2)
