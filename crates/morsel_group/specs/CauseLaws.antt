-- The laws of the faults that local groups answer: each has its cause in all rows, and rows without one have groups.
use Rattle.std.specs.Prelude.{◌≢◌, ◌++◌, List}
use Rattle.morsel_meaning.specs.declared.fault.Fault.{Fault}
use Rattle.morsel_meaning.specs.declared.fault.Fault.TheVariants.{OutOfMemory}
use Rattle.morsel_meaning.specs.Often.{AsOften}
use Rattle.morsel_group.specs.Asked.{GroupShape}
use Rattle.morsel_group.specs.Grouping.{RowAt, in_order}
use Rattle.morsel_group.specs.GroupCauses.{FitsGroups, GroupCause}
use Rattle.morsel_group.specs.Locals.{AreFewEnough, HasSums, IsGroupFault, IsSumFault}

-- a fault that some of the rows have, in whatever order they came, has its cause in all rows in the order of the input
abbrev pub GroupsHaveCauses : Type 0
GroupsHaveCauses = (shape : GroupShape) (some more all : List RowAt) (fault : Fault) → IsGroupFault shape some fault → fault ≢ OutOfMemory → AsOften (some ++ more) all → GroupCause shape (in_order all) fault

-- a sum that is refused of rows, in whatever order they came, is too large in the order of the input
abbrev pub SumsHaveCauses : Type 0
SumsHaveCauses = (shape : GroupShape) (some all : List RowAt) (fault : Fault) → IsSumFault shape some fault → fault ≢ OutOfMemory → AsOften some all → GroupCause shape (in_order all) fault

-- rows that were not refused, in whatever order they came, and whose sums are within 64 bits have an answer in the order of the input
abbrev pub RowsHaveGroups : Type 0
RowsHaveGroups = (shape : GroupShape) (some all : List RowAt) → AreFewEnough shape some → HasSums shape some → AsOften some all → FitsGroups shape (in_order all)
