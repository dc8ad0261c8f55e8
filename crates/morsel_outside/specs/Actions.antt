-- What was done to an outside, one action after another, and what that left.
use Rattle.std.specs.Prelude.{◌≡◌, ◌⊎◌, ℕ, zero, suc, ◌+◌, ◌-◌, ◌^◌, ◌<◌, ◌≤◌, min, Option, List, [], ◌∷◌, ◌++◌, map, length}
use Rattle.std.specs.List.{fold, flat_map, sum_by}
use Rattle.morsel_outside.specs.declared.events.IoEvent.{IoEvent}
use Rattle.morsel_outside.specs.declared.events.IoEvent.TheVariants.{ReadAt, Wrote}
use Rattle.morsel_outside.specs.declared.events.Asked.{Asked}
use Rattle.morsel_outside.specs.declared.events.Asked.TheVariants.{Open, Make}
use Rattle.morsel_outside.specs.Outside.{Outside, Sink, with_more, with_piece, with_sink}

-- what one call did
pub data Action : Type 0 where
  Opening : List ℕ → List ℕ → Action  -- a file of this name was opened, and has these bytes
  FailedOpening : ℕ → List ℕ → Action  -- the file of this number and name could not be opened
  ReadingRange : ℕ → ℕ → ℕ → Action  -- of this file, from this byte on, so many bytes were read
  FailedReadingRange : ℕ → ℕ → ℕ → Action  -- the same, where they did not all come
  Making : List ℕ → Action  -- a sink of this name was made, with an empty text
  FailedMaking : List ℕ → Action  -- a sink of this name could not be made
  Writing : List ℕ → Action  -- the text of the last sink gained these bytes
  FailedWriting : List ℕ → Action  -- the same, and then the write failed
  Printing : List ℕ → Action  -- this line was printed
  FailedPrinting : Action  -- a line could not be printed

-- the bytes of the file that an action opened
abbrev pub opened_by : Action → List (List ℕ)
opened_by (Opening name bytes) = bytes ∷ []
opened_by action = []

-- the sinks, after an action
abbrev pub made_after : Option (List Sink) → Action → Option (List Sink)
made_after made (Making name) = with_sink made name []
made_after made (Writing piece) = with_piece made piece
made_after made (FailedWriting piece) = with_piece made piece
made_after made action = made

-- how many sinks an action made
abbrev pub sinks_by : Action → ℕ
sinks_by (Making name) = 1
sinks_by action = 0

-- the line that an action printed
abbrev pub printed_by : Action → List (List ℕ)
printed_by (Printing line) = line ∷ []
printed_by action = []

-- the read or write that an action is; a write tells the number of bytes that the text gained
abbrev pub event_of : Action → List IoEvent
event_of (ReadingRange file at len) = ReadAt file at len ∷ []
event_of (FailedReadingRange file at len) = ReadAt file at len ∷ []
event_of (Writing piece) = Wrote (length piece) ∷ []
event_of (FailedWriting piece) = Wrote (length piece) ∷ []
event_of action = []

-- the name that an action asked for
abbrev pub asked_by : Action → List Asked
asked_by (Opening name bytes) = Open name ∷ []
asked_by (FailedOpening number name) = Open name ∷ []
asked_by (Making name) = Make name ∷ []
asked_by (FailedMaking name) = Make name ∷ []
asked_by action = []

-- whether an open or a read failed, as a number
abbrev pub read_failures : Action → ℕ
read_failures (FailedOpening number name) = 1
read_failures (FailedReadingRange file at len) = 1
read_failures action = 0

-- whether a make, a write or a print failed, as a number
abbrev pub write_failures : Action → ℕ
write_failures (FailedMaking name) = 1
write_failures (FailedWriting piece) = 1
write_failures FailedPrinting = 1
write_failures action = 0

-- the file of the last read fault, after an action
abbrev pub failed_after : ℕ → Action → ℕ
failed_after failed (FailedOpening number name) = number
failed_after failed (FailedReadingRange file at len) = file
failed_after failed action = failed

-- a count of faults that rose: it is greater, or it is at the end of its type
pub record Rises (before now : ℕ) : Type 0 where
  pub no_lower : before ≤ now
  pub rose : (before < now) ⊎ (now ≡ 2 ^ 64 - 1)

-- a count with one more, which stays where it is at the end of its type
abbrev pub raised : ℕ → ℕ
raised count = min (count + 1) (2 ^ 64 - 1)

-- what so many failures do to a count: none leave it, and some make it rise, by how much is not told
abbrev pub RisesBy : ℕ → ℕ → ℕ → Type 0
RisesBy zero before now = now ≡ before
RisesBy (suc more) before now = Rises before now

-- the count of prints that failed, after an action; it is exact
abbrev pub print_faults_after : ℕ → Action → ℕ
print_faults_after count FailedPrinting = raised count
print_faults_after count action = count

-- the new outside is the old one after these actions, one by one; whether each was allowed is not said here
pub record Does (old : Outside) (actions : List Action) (new : Outside) : Type 0 where
  pub sizes : new.sizes ≡ old.sizes ++ map length (flat_map opened_by actions)
  pub held : new.held ≡ with_more old.held (flat_map opened_by actions)
  pub sinks : new.sinks ≡ old.sinks + sum_by sinks_by actions
  pub made : new.made ≡ fold made_after old.made actions
  pub printed : new.printed ≡ with_more old.printed (flat_map printed_by actions)
  pub events : new.events ≡ with_more old.events (flat_map event_of actions)
  pub read_faults : RisesBy (sum_by read_failures actions) old.read_faults new.read_faults
  pub write_faults : RisesBy (sum_by write_failures actions) old.write_faults new.write_faults
  pub print_faults : new.print_faults ≡ fold print_faults_after old.print_faults actions
  pub failed : new.failed ≡ fold failed_after old.failed actions
  pub asked : new.asked ≡ old.asked ++ flat_map asked_by actions

-- the law of actions: what is done after other actions is, with them, one list of actions
abbrev pub DoesAfter : Type 0
DoesAfter = (old between new : Outside) (first second : List Action) → Does old first between → Does between second new → Does old (first ++ second) new

-- the bytes that an action added to a text
abbrev pub text_by : Action → List ℕ
text_by (Writing piece) = piece
text_by (FailedWriting piece) = piece
text_by action = []

-- how many bytes an event tells of a text
abbrev pub bytes_told : IoEvent → ℕ
bytes_told (ReadAt file at len) = 0
bytes_told (Wrote len) = len

-- the lengths that the events of writes tell add up to the length of what was written
abbrev pub EventsTellTexts : Type 0
EventsTellTexts = (actions : List Action) → sum_by bytes_told (flat_map event_of actions) ≡ length (flat_map text_by actions)
