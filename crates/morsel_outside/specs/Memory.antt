-- An outside in memory: files that can be opened, and all that was opened, made, printed and asked.
use Rattle.std.specs.Prelude.{ℕ, Option, Some, None, if◌then◌else◌, List, [], ◌∷◌, ◌++◌, map, length, nat_eq, unwrap_or}
use Rattle.std.specs.Cmp.Lexicographic.{pointwise}
use Rattle.morsel_outside.specs.declared.events.IoEvent.{IoEvent}
use Rattle.morsel_outside.specs.declared.events.IoEvent.TheVariants.{Wrote}
use Rattle.morsel_outside.specs.declared.events.Asked.{Asked}
use Rattle.morsel_outside.specs.declared.events.Asked.TheVariants.{Open, Make}
use Rattle.morsel_outside.specs.Outside.{Outside, Sink, append_last}

-- a file that can be opened
pub record StoredFile : Type 0 where
  pub name : List ℕ
  pub bytes : List ℕ

-- the files that can be opened, and what was done
pub record Contents : Type 0 where
  pub files : List StoredFile
  pub held : List (List ℕ)  -- the bytes of each opened file
  pub made : List Sink
  pub printed : List (List ℕ)
  pub events : List IoEvent
  pub asked : List Asked

-- files to open, and nothing done
abbrev pub untouched : List StoredFile → Contents
untouched files = record { files = files; held = []; made = []; printed = []; events = []; asked = [] }

-- the bytes of the first file of this name
abbrev pub bytes_of : List StoredFile → List ℕ → Option (List ℕ)
bytes_of [] name = None
bytes_of (file ∷ files) name = if pointwise nat_eq file.name name then Some file.bytes else bytes_of files name

-- the same, or no bytes where there is no such file
abbrev pub bytes_or_none : List StoredFile → List ℕ → List ℕ
bytes_or_none files name = unwrap_or (bytes_of files name) []

-- the sizes of the opened files
abbrev pub sizes_of : Contents → List ℕ
sizes_of contents = map length contents.held

-- all is told; the counts of faults and the file of the last read fault are given
abbrev pub told : Contents → ℕ → ℕ → ℕ → ℕ → Outside
told contents read_faults write_faults print_faults failed = record {
  sizes = sizes_of contents;
  held = Some contents.held;
  sinks = length contents.made;
  made = Some contents.made;
  printed = Some contents.printed;
  events = Some contents.events;
  read_faults = read_faults;
  write_faults = write_faults;
  print_faults = print_faults;
  failed = failed;
  asked = contents.asked;
}

-- what an outside that never fails tells: its counts are 0
abbrev pub sure : Contents → Outside
sure contents = told contents 0 0 0 0

-- one file more is open
abbrev pub with_opened : Contents → List ℕ → Contents
with_opened contents name = record contents {
  held = contents.held ++ bytes_or_none contents.files name ∷ [];
  asked = contents.asked ++ Open name ∷ [];
}

-- one sink more, with an empty text
abbrev pub with_made : Contents → List ℕ → Contents
with_made contents name = record contents {
  made = contents.made ++ record { name = name; text = [] } ∷ [];
  asked = contents.asked ++ Make name ∷ [];
}

-- one read or write more
abbrev pub with_event : Contents → IoEvent → Contents
with_event contents event = record contents { events = contents.events ++ event ∷ [] }

-- one name more was asked for
abbrev pub with_asked : Contents → Asked → Contents
with_asked contents asked = record contents { asked = contents.asked ++ asked ∷ [] }

-- the last sink gained a piece
abbrev pub with_written : Contents → List ℕ → Contents
with_written contents piece = record contents {
  made = append_last contents.made piece;
  events = contents.events ++ Wrote (length piece) ∷ [];
}

-- one line more was printed
abbrev pub with_printed : Contents → List ℕ → Contents
with_printed contents line = record contents { printed = contents.printed ++ line ∷ [] }
