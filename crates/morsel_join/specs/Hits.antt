-- Which kept rows were found: a mark for each key.
use Rattle.std.specs.Prelude.{◌≡◌, ℕ, Bool, false, Some, List, length, get_or, slice_get}
use Rattle.morsel_meaning.specs.Values.{Row}
use Rattle.morsel_join.specs.declared.build_side.Build.{Build}
use Rattle.morsel_join.specs.BuildSides.{kept_side}
use Rattle.morsel_join.specs.Sides.{is_asked_for}

-- there is a mark for each key of the kept rows
abbrev pub AreMarks : Build → List Bool → Type 0
AreMarks build marks = length marks ≡ length build.keyed.keys.keys

-- these rows set the marks: the key of a kept row is marked exactly where one of them finds it
pub record HaveHit (build : Build) (marks : List Bool) (asked : List Row) : Type 0 where
  pub len : AreMarks build marks
  pub each : (j : ℕ) (kept : Row) → slice_get build.kept.rows j ≡ Some kept → get_or marks (get_or build.keyed.numbers.items j 0) false ≡ is_asked_for (kept_side build) asked kept
