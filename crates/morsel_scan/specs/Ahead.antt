-- How far reading runs ahead of writing: over the reads and writes of a run, by what each byte of the sources gives.
use Rattle.std.specs.Prelude.{◌≡◌, ◌⊎◌, ℕ, ◌+◌, ◌<◌, ◌≤◌, nat_eq, Bool, true, false, if◌then◌else◌, Some, Result, Ok, Err, List, [], ◌∷◌, length, take, get_or, slice_get, slice_range}
use Rattle.std.specs.List.{sum_by, list_any}
use Rattle.morsel_meaning.specs.declared.fault.Fault.{Fault}
use Rattle.morsel_meaning.specs.Values.{Row}
use Rattle.morsel_outside.specs.declared.events.IoEvent.{IoEvent}
use Rattle.morsel_outside.specs.declared.events.IoEvent.TheVariants.{ReadAt, Wrote}

-- the places of a scan's input, which are the bytes of all sources, one after the other
pub record Axis : Type 0 where
  pub files : List ℕ  -- the numbers of the sources as they were opened
  pub sizes : List ℕ  -- how many bytes each has
  pub gives : List (Result (List Row) Fault)  -- for each place the rows that it gives, or its fault: a record's last byte gives what the record gives, each other byte nothing
  pub of_rows : List Bool  -- for each place whether it is of a record that is a row
  pub row_ends : List Bool  -- for each place whether it is the last of a record that is a row, also where no eol ends it
  pub head : ℕ  -- how many bytes the sink's text has before that of its first row
  pub text_of : List Row → List ℕ  -- the text that rows add to the sink
  pub longest : ℕ  -- how many bytes the longest record has, with its end

-- one for true
abbrev pub one_if : Bool → ℕ
one_if true = 1
one_if false = 0

-- how many bytes of rows are between two places
abbrev pub row_bytes : Axis → ℕ → ℕ → ℕ
row_bytes axis from to = sum_by one_if (slice_range axis.of_rows from to)

-- how many bytes of text a place adds
abbrev pub text_size : (List Row → List ℕ) → Result (List Row) Fault → ℕ
text_size text_of (Ok rows) = length (text_of rows)
text_size text_of (Err fault) = 0

-- how many bytes of text the places before one add
abbrev pub text_to : Axis → ℕ → ℕ
text_to axis place = sum_by (text_size axis.text_of) (take place axis.gives)

-- whether a file is one of the sources
abbrev pub is_source : Axis → ℕ → Bool
is_source axis file = list_any (nat_eq file) axis.files

-- the next place that was not asked, after a read of a file
abbrev pub asked_after : Axis → ℕ → ℕ → ℕ → ℕ
asked_after axis asked file len = if is_source axis file then asked + len else asked

-- the read is of the next place of its source, and within it
pub record IsNextRead (axis : Axis) (asked file at len : ℕ) : Type 0 where
  pub source : ℕ
  pub is : slice_get axis.files source ≡ Some file
  pub next : asked ≡ sum_by (λ n. n) (take source axis.sizes) + at
  pub within : at + len ≤ get_or axis.sizes source 0

-- no row ends at one of these places
abbrev pub EndsNoRow : Axis → ℕ → ℕ → Type 0
EndsNoRow axis from to = (place : ℕ) → from ≤ place → place < to → get_or axis.row_ends place false ≡ false

-- places at which no row ends are of one row at most: they have no more bytes of rows than the longest record
abbrev pub EndsEachRow : Axis → Type 0
EndsEachRow axis = (from to : ℕ) → EndsNoRow axis from to → row_bytes axis from to ≤ axis.longest

-- the text that the places before one add is written, and the sink's head before it
abbrev pub IsWrittenTo : Axis → ℕ → ℕ → Type 0
IsWrittenTo axis place written = (text_to axis place ≡ 0) ⊎ (axis.head + text_to axis place ≤ written)

-- a read is made in time: where at least `w` bytes of rows were asked behind a place, all text that comes before it is written
abbrev pub IsInTime : Axis → ℕ → ℕ → ℕ → Type 0
IsInTime axis w asked written = (place : ℕ) → w ≤ row_bytes axis place asked → IsWrittenTo axis place written

-- a read of a source is the next, no longer than a chunk, and in time; one of another file is free
abbrev pub MayRead : Axis → ℕ → ℕ → ℕ → ℕ → ℕ → ℕ → ℕ → Bool → Type 0
MayRead axis w chunk asked written file at len true = IsNextRead axis asked file at len × (len ≤ chunk) × IsInTime axis w asked written
MayRead axis w chunk asked written file at len false = Unit {0}

-- each read may be made where it is made, given how many places were asked before and how many bytes of the sink's text, its head among them, were written
abbrev pub ReadsAhead : Axis → ℕ → ℕ → ℕ → ℕ → List IoEvent → Type 0
ReadsAhead axis w chunk asked written [] = Unit {0}
ReadsAhead axis w chunk asked written (ReadAt file at len ∷ events) = MayRead axis w chunk asked written file at len (is_source axis file)
    × ReadsAhead axis w chunk (asked_after axis asked file len) written events
ReadsAhead axis w chunk asked written (Wrote len ∷ events) = ReadsAhead axis w chunk asked (written + len) events

-- how many places were asked after these events
abbrev pub asked_up_to : Axis → ℕ → List IoEvent → ℕ
asked_up_to axis asked [] = asked
asked_up_to axis asked (ReadAt file at len ∷ events) = asked_up_to axis (asked_after axis asked file len) events
asked_up_to axis asked (Wrote len ∷ events) = asked_up_to axis asked events

-- how many bytes of the sink's text, its head among them, were written after these events
abbrev pub written_up_to : ℕ → List IoEvent → ℕ
written_up_to written [] = written
written_up_to written (ReadAt file at len ∷ events) = written_up_to written events
written_up_to written (Wrote len ∷ events) = written_up_to (written + len) events

-- each event is a read of the next place, no longer than a chunk, made while no row ends at a place that was asked and is behind place `given`
abbrev pub Seeks : Axis → ℕ → ℕ → ℕ → List IoEvent → Type 0
Seeks axis chunk given asked [] = Unit {0}
Seeks axis chunk given asked (ReadAt file at len ∷ events) = IsNextRead axis asked file at len × (len ≤ chunk) × EndsNoRow axis given asked
    × (is_source axis file ≡ true) × Seeks axis chunk given (asked + len) events
Seeks axis chunk given asked (Wrote len ∷ events) = ⊥
