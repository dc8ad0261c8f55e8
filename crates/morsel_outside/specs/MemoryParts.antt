-- What the parts of an outside in memory stand for.
use Rattle.std.specs.Prelude.{ℕ, List, map, Vec}
use Rattle.std.specs.declared.alloc.Global.{Global}
use Rattle.morsel_outside.specs.Outside.{Sink}
use Rattle.morsel_outside.specs.Memory.{StoredFile}
use Rattle.morsel_outside.specs.declared.memory.MemSink.{MemSink}

-- a file as a name and its bytes
abbrev pub stored_of : List ℕ × Vec ℕ Global → StoredFile
stored_of file = record { name = file.0; bytes = file.1.items }

-- the files that a list of names and bytes stands for
abbrev pub stored_files : List (List ℕ × Vec ℕ Global) → List StoredFile
stored_files files = map stored_of files

-- the bytes of each opened file
abbrev pub held_files : List (Vec ℕ Global) → List (List ℕ)
held_files held = map (λ bytes. bytes.items) held

-- a sink as its name and its text
abbrev pub sink_of : MemSink → Sink
sink_of sink = record { name = sink.name; text = sink.text.items }

-- the sinks that a list of them stands for
abbrev pub sinks_of : List MemSink → List Sink
sinks_of sinks = map sink_of sinks
