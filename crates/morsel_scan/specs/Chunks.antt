-- One chunk more of a file: what reading it does, and what it makes of what is held.
use Rattle.std.specs.Prelude.{◌≡◌, ℕ, ◌+◌, ◌<◌, ◌≤◌, Some, Result, Ok, Err, List, [], ◌∷◌, ◌++◌, length}
use Rattle.morsel_meaning.specs.declared.fault.Fault.{Fault}
use Rattle.morsel_meaning.specs.declared.fault.Fault.TheVariants as faults
use Rattle.morsel_grammar.specs.Machine.{joined_place, last_end, RefusesRecord, RefusesEnd}
use Rattle.morsel_outside.specs.Outside.{Outside}
use Rattle.morsel_outside.specs.declared.io.IoErr.{IoErr}
use Rattle.morsel_outside.specs.declared.io.IoErr.TheVariants.{OutOfMemory, Failed}
use Rattle.morsel_outside.specs.Calls.{Holds}
use Rattle.morsel_outside.specs.Actions.{ReadingRange, FailedReadingRange, Does}
use Rattle.morsel_cut.specs.Cutting.{Cutting, fed_with, begun_fault}
use Rattle.morsel_scan.specs.FileReads.{IsChunk}
use Rattle.morsel_scan.specs.Blocks.{BlocksRead, compression_code}

-- the chunk was read from where the last one ended
pub record HasReadChunk (before : Outside) (old : BlocksRead) (chunk : ℕ) (piece : List ℕ) (after : Outside) : Type 0 where
  pub is_chunk : IsChunk old.size chunk old.asked (length piece)
  pub held : Holds before.held old.file old.asked piece
  pub does : Does before (ReadingRange old.file old.asked (length piece) ∷ []) after

-- the chunk was asked, is held and was fed
abbrev pub with_chunk : BlocksRead → List ℕ → BlocksRead
with_chunk b piece = record b { asked = b.asked + length piece; held = b.held ++ piece; cutting = fed_with b.cutting piece }

-- how many bytes that are held there are up to the last end of a record in the chunk, 0 where none ends in it
abbrev pub end_with_chunk : BlocksRead → List ℕ → ℕ
end_with_chunk b piece = joined_place 0 (length b.held) (last_end b.cutting.options b.cutting.state piece)

-- a chunk was read and fed; or the file is compressed, or the record that is under way is none; or the read failed; or memory ran out before it
abbrev pub ReadsChunk : Outside → BlocksRead → ℕ → Result ℕ Fault → Outside → BlocksRead → Type 0
ReadsChunk before old chunk (Ok len) after new = (piece : List ℕ) × HasReadChunk before old chunk piece after × (new ≡ with_chunk old piece) × (len ≡ end_with_chunk old piece)
ReadsChunk before old chunk (Err faults.OutOfMemory) after new = after ≡ before
ReadsChunk before old chunk (Err (faults.ReadFault number)) after new = (number ≡ old.source) × (len : ℕ) × IsChunk old.size chunk old.asked len
    × Does before (FailedReadingRange old.file old.asked len ∷ []) after
ReadsChunk before old chunk (Err (faults.Unsupported number code)) after new = (number ≡ old.source) × (piece : List ℕ) × HasReadChunk before old chunk piece after
    × (length old.held ≡ old.asked) × (compression_code (old.held ++ piece) ≡ Some code)
ReadsChunk before old chunk (Err (faults.Malformed number at)) after new = (piece : List ℕ) × HasReadChunk before old chunk piece after
    × (faults.Malformed number at ≡ begun_fault (fed_with old.cutting piece)) × RefusesRecord (fed_with old.cutting piece).state
ReadsChunk before old chunk (Err fault) after new = ⊥

-- so many bytes of a file are added to a buffer; or the read failed; or memory ran out before it
abbrev pub ReadsMore : Outside → ℕ → ℕ → ℕ → List ℕ → Result (Unit {0}) IoErr → Outside → List ℕ → Type 0
ReadsMore before file at len old (Ok _) after new = (piece : List ℕ) × (length piece ≡ len) × (new ≡ old ++ piece)
    × Holds before.held file at piece × Does before (ReadingRange file at len ∷ []) after
ReadsMore before file at len old (Err OutOfMemory) after new = after ≡ before
ReadsMore before file at len old (Err Failed) after new = Does before (FailedReadingRange file at len ∷ []) after

-- a chunk was fed, before which so many bytes are held; up to its last end there are so many, 0 where it has none; or the record that is under way is none
abbrev pub FeedsHeld : Cutting → ℕ → List ℕ → Result ℕ Fault → Cutting → Type 0
FeedsHeld old before piece (Ok len) new = (new ≡ fed_with old piece) × (len ≡ joined_place 0 before (last_end old.options old.state piece)) × (len ≤ before + length piece)
FeedsHeld old before piece (Err fault) new = (new ≡ fed_with old piece) × (fault ≡ begun_fault (fed_with old piece)) × RefusesRecord (fed_with old piece).state

-- all that is held at the end of the file; or the record that is under way is none
abbrev pub FindsLast : BlocksRead → Result ℕ Fault → Type 0
FindsLast b (Ok len) = (len ≡ length b.held) × (0 < len → RefusesEnd b.cutting.state → ⊥)
FindsLast b (Err fault) = (fault ≡ begun_fault b.cutting) × RefusesEnd b.cutting.state
