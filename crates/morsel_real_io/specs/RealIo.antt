-- What an outside of real files tells: sizes, counts and names, and nothing of any content.
use Rattle.std.specs.Prelude.{ℕ, ◌+◌, None, List, [], ◌∷◌, ◌++◌}
use Rattle.morsel_outside.specs.declared.events.Asked.{Asked}
use Rattle.morsel_outside.specs.declared.events.Asked.TheVariants.{Open}
use Rattle.morsel_outside.specs.Outside.{Outside}
use Rattle.morsel_outside.specs.Actions.{raised}

-- files of these sizes are open, so many sinks were made, so many calls failed, and these names were asked for
abbrev pub untold : List ℕ → ℕ → ℕ → ℕ → ℕ → ℕ → List Asked → Outside
untold sizes sinks read_faults write_faults print_faults failed asked = record {
  sizes = sizes;
  held = None;
  sinks = sinks;
  made = None;
  printed = None;
  events = None;
  read_faults = read_faults;
  write_faults = write_faults;
  print_faults = print_faults;
  failed = failed;
  asked = asked;
}

-- one file more is open, of this size and under this name
abbrev pub with_source : Outside → ℕ → List ℕ → Outside
with_source old size name = record old { sizes = old.sizes ++ size ∷ []; asked = old.asked ++ Open name ∷ [] }

-- one sink more was made
abbrev pub with_sink_made : Outside → Outside
with_sink_made old = record old { sinks = old.sinks + 1 }

-- one name more was asked for
abbrev pub with_name_asked : Outside → Asked → Outside
with_name_asked old asked = record old { asked = old.asked ++ asked ∷ [] }

-- an open or a read failed on this file
abbrev pub with_read_fault : Outside → ℕ → Outside
with_read_fault old file = record old { read_faults = raised old.read_faults; failed = file }

-- a make or a write failed
abbrev pub with_write_fault : Outside → Outside
with_write_fault old = record old { write_faults = raised old.write_faults }

-- a print failed
abbrev pub with_print_fault : Outside → Outside
with_print_fault old = record old { write_faults = raised old.write_faults; print_faults = raised old.print_faults }
