-- Reads in time: over one list of events after another, under a greater bound, and where they are made while little is not yet written.
use Rattle.std.specs.Prelude.{◌≡◌, ℕ, ◌+◌, ◌-◌, ◌<◌, ◌≤◌, List, ◌++◌}
use Rattle.morsel_outside.specs.declared.events.IoEvent.{IoEvent}
use Rattle.morsel_scan.specs.Ahead.{Axis, EndsEachRow, IsWrittenTo, ReadsAhead, asked_up_to, written_up_to, Seeks}

-- events in time, and then others in time, are all in time
abbrev pub ReadsOn : Type 0
ReadsOn = (axis : Axis) (w chunk asked written : ℕ) (first later : List IoEvent) → ReadsAhead axis w chunk asked written first
    → ReadsAhead axis w chunk (asked_up_to axis asked first) (written_up_to written first) later → ReadsAhead axis w chunk asked written (first ++ later)

-- what was asked and written by events and then by others
abbrev pub CountsOn : Type 0
CountsOn = (axis : Axis) (asked written : ℕ) (first later : List IoEvent)
    → (asked_up_to axis asked (first ++ later) ≡ asked_up_to axis (asked_up_to axis asked first) later)
    × (written_up_to written (first ++ later) ≡ written_up_to (written_up_to written first) later)

-- reads that are in time are so under a greater bound
abbrev pub ReadsWithin : Type 0
ReadsWithin = (axis : Axis) (w more chunk asked written : ℕ) (events : List IoEvent) → w ≤ more
    → ReadsAhead axis w chunk asked written events → ReadsAhead axis more chunk asked written events

-- reads are in time where they are made while fewer places than a bound are given and not written, and each row that was asked to its end is given
abbrev pub SeeksInTime : Type 0
SeeksInTime = (axis : Axis) (bound chunk given next asked written : ℕ) (reads : List IoEvent) → EndsEachRow axis → given - next < bound → IsWrittenTo axis next written
    → Seeks axis chunk given asked reads → ReadsAhead axis (bound + axis.longest) chunk asked written reads

-- a search for a piece writes nothing
abbrev pub SeeksOnly : Type 0
SeeksOnly = (axis : Axis) (chunk given asked written : ℕ) (reads : List IoEvent) → Seeks axis chunk given asked reads → written_up_to written reads ≡ written
