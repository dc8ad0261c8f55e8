-- All that contracts see of the outside. What is under `Option` is told by some objects only.
use Rattle.std.specs.Prelude.{◌≡◌, ℕ, Option, Some, None, List, [], ◌∷◌, ◌++◌, map, length}
use Rattle.morsel_outside.specs.declared.events.IoEvent.{IoEvent}
use Rattle.morsel_outside.specs.declared.events.Asked.{Asked}

-- a file that is written: its name, and its text so far
pub record Sink : Type 0 where
  pub name : List ℕ
  pub text : List ℕ

-- the outside at one moment
pub record Outside : Type 0 where
  pub sizes : List ℕ  -- of the opened files, in order of opening
  pub held : Option (List (List ℕ))  -- their bytes
  pub sinks : ℕ  -- how many were made
  pub made : Option (List Sink)  -- the sinks, in order of making
  pub printed : Option (List (List ℕ))  -- the printed lines
  pub events : Option (List IoEvent)  -- reads and writes, in order
  pub read_faults : ℕ  -- how many opens and reads failed
  pub write_faults : ℕ  -- how many makes, writes and prints failed
  pub print_faults : ℕ  -- how many of these were prints
  pub failed : ℕ  -- the file of the last read fault
  pub asked : List Asked  -- the names that were opened or made, or failed to be

-- a list with more items at the end, where it is told
abbrev pub with_more : {A : Type 0} → Option (List A) → List A → Option (List A)
with_more None more = None
with_more (Some items) more = Some (items ++ more)

-- one item more at the end
abbrev pub with_last : {A : Type 0} → Option (List A) → A → Option (List A)
with_last items item = with_more items (item ∷ [])

-- the sinks, where the text of the last has a piece more
abbrev pub append_last : List Sink → List ℕ → List Sink
append_last [] piece = []
append_last (sink ∷ []) piece = record { name = sink.name; text = sink.text ++ piece } ∷ []
append_last (sink ∷ next ∷ sinks) piece = sink ∷ append_last (next ∷ sinks) piece

-- the sinks, where they are told, and the text of the last has a piece more
abbrev pub with_piece : Option (List Sink) → List ℕ → Option (List Sink)
with_piece None piece = None
with_piece (Some sinks) piece = Some (append_last sinks piece)

-- the sinks with one more, of this name and text
abbrev pub with_sink : Option (List Sink) → List ℕ → List ℕ → Option (List Sink)
with_sink made name text = with_last made (record { name = name; text = text })

-- what is held of each file is as long as its size
abbrev pub IsSized : Option (List (List ℕ)) → List ℕ → Type 0
IsSized None sizes = Unit {0}
IsSized (Some files) sizes = map length files ≡ sizes
