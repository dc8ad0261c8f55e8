-- Keys that arrive, and how many rows each has: what is refused.
use Rattle.std.specs.Prelude.{◌≡◌, ◌<◌, ◌⊎◌, ℕ, if◌then◌else◌, Option, None, List, [], ◌∷◌, length, get_or}
use Rattle.morsel_meaning.specs.declared.fault.Fault.{Fault}
use Rattle.morsel_meaning.specs.declared.fault.Fault.TheVariants.{OutOfMemory, ComputeError}
use Rattle.morsel_meaning.specs.declared.fault.ComputeKind.TheVariants.{TooManyGroups, LenTooLarge}
use Rattle.morsel_meaning.specs.Values.{Row}
use Rattle.morsel_keys.specs.Keyed.{Keyed}
use Rattle.morsel_keys.specs.Slots.{no_number}
use Rattle.morsel_keys.specs.Reductions.{Entry, entry_len, len_limit}
use Rattle.morsel_group.specs.declared.table.GroupKeys.{GroupKeys}
use Rattle.morsel_group.specs.declared.table.GroupKeys.TheVariants as group_keys
use Rattle.morsel_group.specs.Grouping.{arrived}

-- the keys of a table, as they arrived
abbrev pub keyed_in : GroupKeys → Keyed
keyed_in (group_keys.Alone there) = record { kinds = []; keys = if there then [] ∷ [] else [] }
keyed_in (group_keys.Rows rows) = rows

-- why keys are refused that come to others: there are more than may be; or memory is short
abbrev pub RefusesKeys : List Row → List Row → Fault → Type 0
RefusesKeys old keys fault = (fault ≡ OutOfMemory) ⊎ ((fault ≡ ComputeError TooManyGroups 4294967295 0) × (no_number < length (arrived old keys)))

-- why groups are refused: one has more values than may be; or memory is short
abbrev pub RefusesLens : List (Option Entry) → Fault → Type 0
RefusesLens entries fault = (fault ≡ OutOfMemory)
    ⊎ ((fault ≡ ComputeError LenTooLarge 4294967295 0) × ((group : ℕ) × (group < length entries) × (len_limit < entry_len (get_or entries group None))))
