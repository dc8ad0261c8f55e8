-- The kept side of a join, by its keys.
use Rattle.std.specs.Prelude.{◌<◌, ◌^◌, List, length}
use Rattle.std.specs.List.{flat_map}
use Rattle.morsel_meaning.specs.Values.{Row, Table}
use Rattle.morsel_join.specs.declared.build_side.Build.{Build}
use Rattle.morsel_join.specs.Builds.{AreKeyed}
use Rattle.morsel_join.specs.Sides.{KeptSide, IsRightSide, FitSides, kept_keys}

-- what is kept
abbrev pub kept_side : Build → KeptSide
kept_side build = record { rules = build.rules; is_left = build.is_left; rows = build.kept.rows }

-- the rows of tables, one table after the other
abbrev pub rows_of_tables : List Table → List Row
rows_of_tables tables = flat_map (λ (table : Table). table.rows) tables

-- the side that the rules say is kept, and its rows are found by their keys
pub record IsBuild (build : Build) : Type 0 where
  pub side : IsRightSide (kept_side build)
  pub fit : FitSides build.is_left build.kept.schema build.asked build.rules
  pub short : length build.kept.rows < 2 ^ 32
  pub keyed : AreKeyed build.rules.join_nulls (kept_keys (kept_side build)) build.rules.kinds.items build.kept.rows build.keyed
