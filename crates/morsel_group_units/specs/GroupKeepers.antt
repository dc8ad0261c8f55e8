-- What the units of a group-by take, and what all of them have.
use Rattle.std.specs.Prelude.{◌≡◌, ◌≤◌, List, map, length}
use Rattle.std.specs.List.{All}
use Rattle.morsel_meaning.specs.declared.value.Field.{Field}
use Rattle.morsel_meaning.specs.Values.{Table}
use Rattle.morsel_load.specs.Loads.{LoadSeen}
use Rattle.morsel_group.specs.Grouping.{Grouped}
use Rattle.morsel_group.specs.GroupCauses.{FitsGroups}
use Rattle.morsel_rows_job.specs.RowsJobs.{IsCutFor}
use Rattle.morsel_group_units.specs.GroupAsks.{GroupRulesSeen, rules_output, rules_shape}
use Rattle.morsel_group_units.specs.TakenLoads.{rows_taken, taken_cut}
use Rattle.morsel_group_units.specs.declared.taken_load.TakenLoad.{TakenLoad}

-- what a unit took, in its order
pub record GroupKeeperSeen : Type 0 where
  pub rules : GroupRulesSeen
  pub taken : List TakenLoad

-- what all units took: from lanes that ended, in the order of the input, and from those that did not
pub record TakenGroupsSeen : Type 0 where
  pub rules : GroupRulesSeen
  pub ordered : List TakenLoad
  pub taken : List TakenLoad

-- the loads are those of a job of rows of these columns
pub record KeepsCutsOf {J : Type 0} (suits : J → LoadSeen → Type 0) (gives_cuts : J → List Field → Type 0) (keeper : GroupKeeperSeen) (job : J) : Type 0 where
  pub cuts : gives_cuts job keeper.rules.columns
  pub all : All (IsCutFor suits job) (map taken_cut keeper.taken)

-- the rows of a group-by, and the loads of whose rows they are, in the order of the input
pub record GroupedRowsSeen : Type 0 where
  pub rules : GroupRulesSeen
  pub taken : List TakenLoad
  pub frame : Table

-- they are the group-by of these rows, which has an answer
pub record AreGroupedRows (seen : GroupedRowsSeen) : Type 0 where
  pub columns : seen.frame.schema ≡ rules_output seen.rules
  pub grouped : Grouped (rules_shape seen.rules) (rows_taken seen.taken) seen.frame.rows
  pub fits : FitsGroups (rules_shape seen.rules) (rows_taken seen.taken)
  pub few : length seen.frame.rows ≤ length (rows_taken seen.taken)
