-- What the writer of a sink does.
use Rattle.std.specs.Prelude.{◌≡◌, ℕ, ◌+◌, ◌≤◌, Result, Ok, Err, List, [], ◌∷◌, length, take}
use Rattle.morsel_meaning.specs.declared.value.Field.{Field}
use Rattle.morsel_meaning.specs.declared.fault.Fault.{Fault}
use Rattle.morsel_meaning.specs.declared.fault.Fault.TheVariants as faults
use Rattle.morsel_outside.specs.declared.io.IoErr.{IoErr}
use Rattle.morsel_outside.specs.declared.io.IoErr.TheVariants as io_errors
use Rattle.morsel_outside.specs.Outside.{Outside}
use Rattle.morsel_outside.specs.Actions.{Does, Making, FailedMaking, Writing, FailedWriting}
use Rattle.morsel_pipe.specs.Pieces.{Part}
use Rattle.morsel_sink.specs.declared.spec.SinkFormat.{SinkFormat}

-- a writer: the columns of its rows, the name of its sink, the format, and how many rows were written
pub record WriterSeen : Type 0 where
  pub schema : List Field
  pub name : List ℕ
  pub format : SinkFormat
  pub rows : ℕ

-- what went wrong with the outside, as a fault of a sink
abbrev pub write_fault : {A : Type 0} → Result A IoErr → Result A Fault
write_fault (Ok x) = Ok x
write_fault (Err io_errors.OutOfMemory) = Err faults.OutOfMemory
write_fault (Err io_errors.Failed) = Err faults.WriteFault

-- the sink is made, with what comes before its first row, which is nothing in NDJSON; or it could not be
abbrev pub BeginsSink : WriterSeen → Outside → Result (Unit {0}) Fault → Outside → Type 0
BeginsSink writer old (Ok _) new = Does old (Making writer.name ∷ []) new
BeginsSink writer old (Err faults.OutOfMemory) new = new ≡ old
BeginsSink writer old (Err faults.WriteFault) new = Does old (FailedMaking writer.name ∷ []) new
BeginsSink writer old (Err fault) new = ⊥

-- the part is written, and its rows are counted; or a front of it is, where the write failed
abbrev pub PutsPart : WriterSeen → Part → Outside → Result (Unit {0}) Fault → WriterSeen → Outside → Type 0
PutsPart was part old (Ok _) now new = (now ≡ record was { rows = was.rows + part.rows }) × Does old (Writing part.bytes ∷ []) new
PutsPart was part old (Err faults.OutOfMemory) now new = new ≡ old
PutsPart was part old (Err faults.WriteFault) now new = (taken : ℕ) × (taken ≤ length part.bytes) × Does old (FailedWriting (take taken part.bytes) ∷ []) new
PutsPart was part old (Err fault) now new = ⊥
