-- Loads whose rows were taken, and the places of their rows in the input.
use Rattle.std.specs.Prelude.{◌≤◌, ◌+◌, ◌≡◌, ◌++◌, ℕ, max, List, [], ◌∷◌, map, length, IsPermutation}
use Rattle.std.specs.List.{flat_map}
use Rattle.morsel_meaning.specs.Values.{Row}
use Rattle.morsel_load.specs.Loads.{LoadSeen, SeenMorsel, SeenPiece, SeenPart}
use Rattle.morsel_keys.specs.Reductions.{input_place}
use Rattle.morsel_group.specs.Grouping.{RowAt}
use Rattle.morsel_group.specs.Takes.{placed_rows}
use Rattle.morsel_rows_job.specs.RowsJobs.{FollowCuts, RowsCut, rows_of_cuts}
use Rattle.morsel_group_units.specs.declared.taken_load.TakenLoad.{TakenLoad}

-- a load of rows as a cut of what its lane gives
abbrev pub cuts_of_load : LoadSeen → List RowsCut
cuts_of_load (SeenMorsel frame seq source stretch) = record { seq = seq; stretch = stretch; frame = frame } ∷ []
cuts_of_load (SeenPiece piece) = []
cuts_of_load (SeenPart seq part) = []

-- and one that was taken
abbrev pub taken_cut : TakenLoad → RowsCut
taken_cut load = record { seq = load.seq; stretch = load.stretch; frame = load.frame.value }

-- the rows, one load after the other
abbrev pub rows_taken : List TakenLoad → List Row
rows_taken loads = rows_of_cuts (map taken_cut loads)

-- the rows of a load with their places in the input: its number, and how many rows its unit took before
abbrev pub placed_load : TakenLoad → List RowAt
placed_load load = placed_rows (input_place load.seq load.arrival) load.frame.value.rows

abbrev pub placed_loads : List TakenLoad → List RowAt
placed_loads loads = flat_map placed_load loads

-- the places of the rows rise from one load to the next, from a place on
abbrev pub PlacesRise : ℕ → List TakenLoad → Type 0
PlacesRise at [] = Unit {0}
PlacesRise at (load ∷ loads) = (at ≤ input_place load.seq load.arrival) × PlacesRise (input_place load.seq load.arrival + length load.frame.value.rows) loads

-- the place up to which their stretches go
abbrev pub greatest_place : List TakenLoad → ℕ
greatest_place [] = 0
greatest_place (load ∷ loads) = max load.stretch.to (greatest_place loads)

-- to these loads others were put, in an order in which they follow one another from the first place of their lanes up to another
pub record HasOrdered (before taken now : List TakenLoad) (to : ℕ) : Type 0 where
  pub ordered : List TakenLoad
  pub same : IsPermutation taken ordered
  pub follow : FollowCuts (map taken_cut ordered) to
  pub now_is : now ≡ before ++ ordered
