-- Loads of the kept rows of a join that no row finds.
use Rattle.std.specs.Prelude.{◌≡◌, ◌<◌, ◌++◌, ℕ, Bool, true, false, List, [], ◌∷◌}
use Rattle.std.specs.Arc.{arc_value}
use Rattle.std.specs.List.{All}
use Rattle.morsel_meaning.specs.Values.{Row}
use Rattle.morsel_load.specs.Loads.{LoadSeen, seen_seq}
use Rattle.morsel_rows_job.specs.RowsJobs.{alone_stretch}
use Rattle.morsel_join.specs.BuildSides.{kept_side}
use Rattle.morsel_join.specs.Hits.{HaveHit}
use Rattle.morsel_join.specs.LoneRows.{AreLone, LeavesAlone}
use Rattle.morsel_join.specs.Sides.{KeptSide, rows_alone}
use Rattle.morsel_join_units.specs.RowCutters.{HasCut, rows_of_loads, stretch_of}
use Rattle.morsel_join_units.specs.declared.lone_giver.LoneGiver.{LoneGiver}

-- a giver has a kept side with marks, and its place
pub record IsLoneGiver (giver : LoneGiver) : Type 0 where
  pub lone : AreLone giver.lone
  pub some : 0 < giver.rows
  pub place : stretch_of giver.cutter ≡ alone_stretch

-- of all these rows so many were given, and the others are still to be given
abbrev pub HasLeft : List Row → LoneGiver → Type 0
HasLeft all giver = HasCut (LeavesAlone giver.lone) all giver.cutter.given

-- its loads are for a job of the kept rows that none of another one's rows finds
pub record GivesAloneFor {J : Type 0} (is_all : J → List Row → Type 0) (is_alone : KeptSide → J → J → Type 0) (to : J) (giver : LoneGiver) : Type 0 where
  pub from : J
  pub asked : List Row
  pub alone : is_alone (kept_side (arc_value giver.lone.build)) from to
  pub all : is_all from asked
  pub giver_is : IsLoneGiver giver
  pub left : HasLeft (rows_alone (kept_side (arc_value giver.lone.build)) asked) giver

-- its place, where it is still to be ended
abbrev pub place_left : Bool → List (ℕ × ℕ)
place_left true = []
place_left false = (0, 1) ∷ []

-- the rows of the loads that were given, and those that are still to be given, are the kept rows that are alone; all loads have one number
pub record DidGiveAlone (giver : LoneGiver) (made : List LoadSeen) : Type 0 where
  pub rest : List Row
  pub left : LeavesAlone giver.lone rest
  pub all : (asked : List Row) → HaveHit (arc_value giver.lone.build) giver.hits.value.seen.items asked → rows_of_loads made ++ rest ≡ rows_alone (kept_side (arc_value giver.lone.build)) asked
  pub none : giver.ended ≡ true → rest ≡ []
  pub numbers : All (λ load. seen_seq load ≡ giver.cutter.seq) made

-- the kept side, its marks and the number of the loads are the same
pub record IsLaterGiver (giver later : LoneGiver) : Type 0 where
  pub build : arc_value later.lone.build ≡ arc_value giver.lone.build
  pub hits : later.hits.value ≡ giver.hits.value
  pub number : later.cutter.seq ≡ giver.cutter.seq
