-- The rows of lanes that ended, one after the other.
use Rattle.std.specs.Prelude.{◌≡◌, ◌++◌, ℕ, List, [], ◌∷◌}
use Rattle.morsel_meaning.specs.Values.{Row}
use Rattle.morsel_group_phases.specs.declared.lane_end.LaneEnd.{LaneEnd}

-- what lanes were for, and up to which place they went
abbrev pub lane_ended : {J : Type 0} → LaneEnd J → J × ℕ
lane_ended end = (end.job.value, end.to)

-- the rows are those of all places of these lanes up to their ends, in their order
abbrev pub TookFrom : {J : Type 0} → (J → ℕ → List Row → Type 0) → List (J × ℕ) → List Row → Type 0
TookFrom yields [] rows = rows ≡ []
TookFrom yields (end ∷ ends) rows = (own : List Row) × (later : List Row) × yields end.0 end.1 own × TookFrom yields ends later × (rows ≡ own ++ later)
