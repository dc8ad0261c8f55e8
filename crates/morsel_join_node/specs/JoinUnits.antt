-- The units of a join.
use Rattle.std.specs.Prelude.{◌≡◌, Option, None, Some, List, []}
use Rattle.atomic_table.specs.Seated.{TableId}
use Rattle.morsel_meaning.specs.declared.fault.Fault.TheVariants as faults
use Rattle.morsel_prims.specs.Polled.{BoardId, LaneId}
use Rattle.morsel_lane_pipe.specs.Tasks.{Has, TaskSeen}
use Rattle.morsel_lane_pipe.specs.declared.receipts.PipeOut.{PipeOut}
use Rattle.morsel_lane_pipe.specs.declared.receipts.PipeOut.TheVariants.{Whole, Cut, OutOfMemory, Failed}
use Rattle.morsel_lane_pipe.specs.declared.receipts.Receipts.{Receipts}
use Rattle.morsel_lane_pipe.specs.declared.stepping.Stepping.{Stepping}
use Rattle.morsel_ports.specs.Nodes.{EndedBy, EndedCut, EndedWhole, UnitEnd, UnitSeen, lanes_of_task}
use Rattle.morsel_stage.specs.declared.one_of.OneOf.{OneOf}
use Rattle.morsel_stage.specs.declared.one_of.OneOf.TheVariants.{First, Second, Third}
use Rattle.morsel_units.specs.declared.finished.Finished.{Finished}
use Rattle.morsel_join_phases.specs.declared.places.JoinAt.{JoinAt}
use Rattle.morsel_join_phases.specs.declared.places.JoinAt.TheVariants.{Build, Probe, Emit, Done}

-- the lanes of a unit, by its kind
abbrev pub unit_lanes : {A M Z : Type 0} → (A → TaskSeen) → (M → TaskSeen) → (Z → TaskSeen) → OneOf (Stepping A) (Stepping M) (Stepping Z) → UnitSeen
unit_lanes of_first of_second of_third (First unit) = lanes_of_task of_first unit.task
unit_lanes of_first of_second of_third (Second unit) = lanes_of_task of_second unit.task
unit_lanes of_first of_second of_third (Third unit) = lanes_of_task of_third unit.task

-- how a unit ended, by what it worked with too
abbrev pub end_of_work : {R S W : Type 0} → PipeOut (Finished (Receipts R S) W) → UnitEnd R S
end_of_work (Whole finished) = EndedWhole finished.receipts.taken.items finished.receipts.sent.items
end_of_work Cut = EndedCut
end_of_work OutOfMemory = EndedBy faults.OutOfMemory
end_of_work (Failed fault) = EndedBy fault

abbrev pub end_of_join : {R S A M Z : Type 0} → OneOf (PipeOut (Finished (Receipts R S) A)) (PipeOut (Finished (Receipts R S) M)) (PipeOut (Finished (Receipts R S) Z)) → UnitEnd R S
end_of_join (First out) = end_of_work out
end_of_join (Second out) = end_of_work out
end_of_join (Third out) = end_of_work out

-- what it worked with, where it ended whole
abbrev pub work_of : {R W : Type 0} → PipeOut (Finished R W) → Option W
work_of (Whole finished) = Some finished.work
work_of Cut = None
work_of OutOfMemory = None
work_of (Failed fault) = None

-- a unit is of the kind that a join has there, and this is so of it until it has ended
abbrev pub IsUnitAt : {A M Z : Type 0} → JoinAt → OneOf (Stepping A) (Stepping M) (Stepping Z) → (A → Type 0) → (M → Type 0) → (Z → Type 0) → Type 0
IsUnitAt Build (First unit) keeps probes gives = Has unit.task keeps
IsUnitAt Build (Second unit) keeps probes gives = ⊥
IsUnitAt Build (Third unit) keeps probes gives = ⊥
IsUnitAt Probe (First unit) keeps probes gives = ⊥
IsUnitAt Probe (Second unit) keeps probes gives = Has unit.task probes
IsUnitAt Probe (Third unit) keeps probes gives = ⊥
IsUnitAt Emit (First unit) keeps probes gives = ⊥
IsUnitAt Emit (Second unit) keeps probes gives = ⊥
IsUnitAt Emit (Third unit) keeps probes gives = Has unit.task gives
IsUnitAt Done unit keeps probes gives = ⊥

-- a unit was made between these lanes of a table, where it may be polled with a board that has this table and to which this is so; and this is so of it
pub record IsMadeUnit {U : Type 0} (can_poll : BoardId → U → Type 0) (seen : U → UnitSeen) (is : U → Type 0) (table : TableId) (from to : List LaneId) (tokens : BoardId → Type 0) (unit : U) : Type 0 where
  pub pollable : (id : BoardId) → table ≡ id.lane_table → tokens id → can_poll id unit
  pub lanes : seen unit ≡ record { home = table; from = from; to = to }
  pub made : is unit

-- a unit may look up what it takes between these ends: they are of one board and for such jobs, and nothing went through them
pub record CanLookUp {R S J T : Type 0} (receiver_home : R → TableId) (receiver_job : R → J) (taken : R → List T) (sender_home : S → TableId) (sender_job : S → J) (sent : S → List T) (joins : J → J → Type 0) (from : R) (to : S) : Type 0 where
  pub same_home : sender_home to ≡ receiver_home from
  pub joined : joins (receiver_job from) (sender_job to)
  pub none_taken : taken from ≡ []
  pub none_sent : sent to ≡ []
