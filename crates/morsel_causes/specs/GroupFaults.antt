-- The law of the faults of groups: a group-by of rows has an answer, if there is memory, exactly where there is no cause of one.
use Rattle.std.specs.Prelude.{◌↔◌, List}
use Rattle.morsel_meaning.specs.declared.fault.Fault.{Fault}
use Rattle.morsel_meaning.specs.Values.{Row}
use Rattle.morsel_group.specs.Asked.{GroupShape}
use Rattle.morsel_group.specs.GroupCauses.{GroupCause, FitsGroups}

-- a group-by of rows has an answer, if there is memory, exactly where no fault has a cause in them
abbrev pub GroupsFitWithoutCause : Type 0
GroupsFitWithoutCause = (shape : GroupShape) (rows : List Row) → FitsGroups shape rows ↔ ((fault : Fault) → GroupCause shape rows fault → ⊥)
