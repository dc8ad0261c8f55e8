-- What stretches of places give: the rows of their places one after the other, or the first fault.
use Rattle.std.specs.Prelude.{◌≡◌, ℕ, ◌<◌, ◌≤◌, Some, Result, Ok, Err, List, [], ◌∷◌, ◌++◌, length, slice_get, slice_range}
use Rattle.morsel_meaning.specs.declared.fault.Fault.{Fault}
use Rattle.morsel_meaning.specs.Values.{Row}
use Rattle.morsel_scan.specs.ScanRows.{followed_by}

-- the rows of all places, one after the other; the first fault, where there is one
abbrev pub collected : List (Result (List Row) Fault) → Result (List Row) Fault
collected [] = Ok []
collected (given ∷ later) = followed_by given (collected later)

-- the places `from .. to` give these rows, and no fault
pub record Gives (gives : List (Result (List Row) Fault)) (from to : ℕ) (rows : List Row) : Type 0 where
  pub order : from ≤ to
  pub within : to ≤ length gives
  pub all : collected (slice_range gives from to) ≡ Ok rows

-- the rows before the first fault
abbrev pub before_fault : List (Result (List Row) Fault) → List Row
before_fault [] = []
before_fault (Ok rows ∷ later) = rows ++ before_fault later
before_fault (Err fault ∷ later) = []

-- one of the places `from .. to` has the fault
abbrev pub HasFaultWithin : List (Result (List Row) Fault) → ℕ → ℕ → Fault → Type 0
HasFaultWithin gives from to fault = (place : ℕ) × (from ≤ place) × (place < to) × (slice_get gives place ≡ Some (Err fault))
