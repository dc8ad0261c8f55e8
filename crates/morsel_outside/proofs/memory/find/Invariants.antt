use Rattle.std.proofs.Common.{◌≡◌, drop}
use Rattle.morsel_outside.specs.Memory.{bytes_of}
use Rattle.morsel_outside.specs.MemoryParts.{stored_files}
use Rattle.morsel_outside.proofs.memory.find.Given as goal

-- the first file of the name is among those that are left, or there is none
abbrev pub invariant-loop-file : goal.invariant-loop-file
invariant-loop-file l = bytes_of (stored_files (drop l.file-index l.files)) l.name ≡ bytes_of (stored_files l.files) l.name
