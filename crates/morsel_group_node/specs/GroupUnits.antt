-- The units of a group-by.
use Rattle.morsel_lane_pipe.specs.Tasks.{Has, TaskSeen}
use Rattle.morsel_lane_pipe.specs.declared.receipts.PipeOut.{PipeOut}
use Rattle.morsel_lane_pipe.specs.declared.receipts.Receipts.{Receipts}
use Rattle.morsel_lane_pipe.specs.declared.stepping.Stepping.{Stepping}
use Rattle.morsel_ports.specs.Nodes.{UnitEnd, UnitSeen, lanes_of_task}
use Rattle.morsel_pair.specs.declared.two_of.TwoOf.{TwoOf}
use Rattle.morsel_pair.specs.declared.two_of.TwoOf.TheVariants.{First, Second}
use Rattle.morsel_units.specs.declared.finished.Finished.{Finished}
use Rattle.morsel_group_phases.specs.declared.places.GroupAt.{GroupAt}
use Rattle.morsel_group_phases.specs.declared.places.GroupAt.TheVariants.{Sink, Source, Done}
use Rattle.morsel_join_node.specs.JoinUnits.{end_of_work}

-- the lanes of a unit, by its kind
abbrev pub group_lanes : {A Z : Type 0} → (A → TaskSeen) → (Z → TaskSeen) → TwoOf (Stepping A) (Stepping Z) → UnitSeen
group_lanes of_first of_second (First unit) = lanes_of_task of_first unit.task
group_lanes of_first of_second (Second unit) = lanes_of_task of_second unit.task

-- how it ended
abbrev pub end_of_group : {R S A Z : Type 0} → TwoOf (PipeOut (Finished (Receipts R S) A)) (PipeOut (Finished (Receipts R S) Z)) → UnitEnd R S
end_of_group (First out) = end_of_work out
end_of_group (Second out) = end_of_work out

-- a unit is of the kind that a group-by has there, and this is so of it until it has ended
abbrev pub IsGroupUnitAt : {A Z : Type 0} → GroupAt → TwoOf (Stepping A) (Stepping Z) → (A → Type 0) → (Z → Type 0) → Type 0
IsGroupUnitAt Sink (First unit) takes gives = Has unit.task takes
IsGroupUnitAt Sink (Second unit) takes gives = ⊥
IsGroupUnitAt Source (First unit) takes gives = ⊥
IsGroupUnitAt Source (Second unit) takes gives = Has unit.task gives
IsGroupUnitAt Done unit takes gives = ⊥
