-- Kept rows that no row finds.
use Rattle.std.specs.Prelude.{◌≡◌, ℕ, Bool, false, if◌then◌else◌, List, [], ◌∷◌, map, drop, get_or}
use Rattle.std.specs.Arc.{arc_value}
use Rattle.morsel_meaning.specs.Values.{Row}
use Rattle.morsel_join.specs.declared.build_side.Build.{Build}
use Rattle.morsel_join.specs.declared.lone_rows.LoneRows.{LoneRows}
use Rattle.morsel_join.specs.BuildSides.{IsBuild, kept_side}
use Rattle.morsel_join.specs.Hits.{AreMarks}
use Rattle.morsel_join.specs.Sides.{joined_row}

-- the rows whose keys, of these numbers, are not marked
abbrev pub unmarked_rows : List Bool → List ℕ → List Row → List Row
unmarked_rows marks [] rows = []
unmarked_rows marks (n ∷ numbers) [] = []
unmarked_rows marks (n ∷ numbers) (row ∷ rows) = if get_or marks n false then unmarked_rows marks numbers rows else row ∷ unmarked_rows marks numbers rows

-- the rows of the join of the kept rows from a place on whose keys are not marked
abbrev pub rows_alone_from : Build → List Bool → ℕ → List Row
rows_alone_from build marks at = map (joined_row (kept_side build) []) (unmarked_rows marks (drop at build.keyed.numbers.items) (drop at build.kept.rows))

-- a kept side, with a mark for each of its keys
pub record AreLone (lone : LoneRows) : Type 0 where
  pub built : IsBuild (arc_value lone.build)
  pub marks : AreMarks (arc_value lone.build) lone.hits.seen.items
  pub blank : lone.none ≡ record { schema = (arc_value lone.build).asked; rows = [] }

-- these rows are still to be given of the kept rows that no row finds
abbrev pub LeavesAlone : LoneRows → List Row → Type 0
LeavesAlone lone rest = rest ≡ rows_alone_from (arc_value lone.build) lone.hits.seen.items lone.at
