-- Loads of the rows of a group-by.
use Rattle.std.specs.Prelude.{◌≡◌, ◌<◌, ◌≤◌, ℕ, Bool, true, false, List, [], ◌∷◌, length, take}
use Rattle.std.specs.List.{All, flat_map}
use Rattle.morsel_meaning.specs.declared.value.Field.{Field}
use Rattle.morsel_meaning.specs.Values.{Row}
use Rattle.morsel_load.specs.Loads.{LoadSeen, seen_seq}
use Rattle.morsel_rows_job.specs.RowsJobs.{rows_of_cuts}
use Rattle.morsel_group_units.specs.TakenLoads.{cuts_of_load}
use Rattle.morsel_group_units.specs.declared.giver.GroupGiver.{GroupGiver}

-- its loads are for a job of the rows that it has
pub record GivesGroupsFor {J : Type 0} (is_given : List Field → List Row → J → Type 0) (to : J) (giver : GroupGiver) : Type 0 where
  pub given : is_given giver.frame.schema giver.frame.rows to
  pub some : 0 < giver.rows
  pub within : giver.at ≤ length giver.frame.rows

-- their place, where it is still to be ended
abbrev pub groups_left : Bool → List (ℕ × ℕ)
groups_left true = []
groups_left false = (0, 1) ∷ []

-- the rows of the loads that were given are the first of all, and once it has ended all of them; all loads have one number
pub record DidGiveGroups (giver : GroupGiver) (made : List LoadSeen) : Type 0 where
  pub rows : rows_of_cuts (flat_map cuts_of_load made) ≡ take giver.at giver.frame.rows
  pub all : giver.ended ≡ true → giver.at ≡ length giver.frame.rows
  pub numbers : All (λ load. seen_seq load ≡ giver.seq) made

-- the rows and the number of the loads are the same
pub record IsLaterGroupGiver (giver later : GroupGiver) : Type 0 where
  pub frame : later.frame ≡ giver.frame
  pub number : later.seq ≡ giver.seq
