-- What was made for its ends, in its place among the kinds of units.
use Rattle.std.proofs.Common.{◌≡◌, Some, List, [], sym, ap, subst, ◌∙◌}
use Rattle.atomic_table.specs.Seated.{TableId}
use Rattle.morsel_prims.specs.Polled.{BoardId, LaneId}
use Rattle.morsel_lane_pipe.specs.Tasks.{GivesOwn, Has, KeepsAll, TaskSeen}
use Rattle.morsel_lane_pipe.specs.declared.stepping.Stepping.{Stepping}
use Rattle.morsel_ports.specs.Nodes.{UnitSeen, lanes_of_task}
use Rattle.morsel_pair.specs.declared.two_of.TwoOf.{TwoOf}
use Rattle.morsel_pair.specs.declared.two_of.TwoOf.TheVariants.{First, Second}
use Rattle.morsel_pair.specs.Pairs.{ByEither}
use Rattle.morsel_group_phases.specs.declared.places.GroupAt.TheVariants as at
use Rattle.morsel_join_node.specs.JoinUnits.{IsMadeUnit}
use Rattle.morsel_group_node.specs.GroupUnits.{IsGroupUnitAt, group_lanes}

-- what is seen of a unit with these lanes
abbrev pub seen_of : TableId → List LaneId → List LaneId → UnitSeen
seen_of home from to = record { home = home; from = from; to = to }

module _ {A Z U : Type 0} (task_of : U → TwoOf (Stepping A) (Stepping Z)) (first_can : BoardId → A → Type 0) (second_can : BoardId → Z → Type 0)
    (first_home : A → TableId) (first_from first_to : A → List LaneId) (second_home : Z → TableId) (second_from second_to : Z → List LaneId) where
  abbrev CanPoll : BoardId → TwoOf (Stepping A) (Stepping Z) → Type 0
  CanPoll id unit = ByEither unit (λ stepping. Has stepping.task (first_can id)) (λ stepping. Has stepping.task (second_can id))

  abbrev first_seen : A → TaskSeen
  first_seen task = record { work = KeepsAll; home = first_home task; from = first_from task; to = first_to task; places = [] }

  abbrev second_seen : Z → TaskSeen
  second_seen task = record { work = GivesOwn; home = second_home task; from = second_from task; to = second_to task; places = [] }

  -- the lanes of a unit; its work and the places where it waits are not among them
  abbrev lanes_of : TwoOf (Stepping A) (Stepping Z) → UnitSeen
  lanes_of unit = group_lanes first_seen second_seen unit

  -- one that takes rows
  pub taking_made : (P : A → Type 0) (Q : Z → Type 0) (unit : U) (stepping : Stepping A) (task : A) (home : TableId) (from to : List LaneId) (tokens : BoardId → Type 0) → task_of unit ≡ First stepping → stepping.task ≡ Some task
      → ((id : BoardId) → home ≡ id.lane_table → tokens id → first_can id task) → seen_of (first_home task) (first_from task) (first_to task) ≡ seen_of home from to → P task
      → IsMadeUnit (λ id unit. CanPoll id (task_of unit)) (λ unit. lanes_of (task_of unit)) (λ unit. IsGroupUnitAt at.Sink (task_of unit) P Q) home from to tokens unit
  taking_made P Q unit stepping task home from to tokens unit_is is can seen holds = record {
    pollable = λ id same of. subst (CanPoll id) (sym unit_is) (subst (λ held. Has held (first_can id)) (sym is) (can id same of));
    lanes = ap lanes_of unit_is ∙ ap (lanes_of_task first_seen) is ∙ seen;
    made = subst (λ (one : TwoOf (Stepping A) (Stepping Z)). IsGroupUnitAt at.Sink one P Q) (sym unit_is) (subst (λ held. Has held P) (sym is) holds);
  }

  -- one that gives
  pub giving_made : (P : A → Type 0) (Q : Z → Type 0) (unit : U) (stepping : Stepping Z) (task : Z) (home : TableId) (from to : List LaneId) (tokens : BoardId → Type 0) → task_of unit ≡ Second stepping → stepping.task ≡ Some task
      → ((id : BoardId) → home ≡ id.lane_table → tokens id → second_can id task) → seen_of (second_home task) (second_from task) (second_to task) ≡ seen_of home from to → Q task
      → IsMadeUnit (λ id unit. CanPoll id (task_of unit)) (λ unit. lanes_of (task_of unit)) (λ unit. IsGroupUnitAt at.Source (task_of unit) P Q) home from to tokens unit
  giving_made P Q unit stepping task home from to tokens unit_is is can seen holds = record {
    pollable = λ id same of. subst (CanPoll id) (sym unit_is) (subst (λ held. Has held (second_can id)) (sym is) (can id same of));
    lanes = ap lanes_of unit_is ∙ ap (lanes_of_task second_seen) is ∙ seen;
    made = subst (λ (one : TwoOf (Stepping A) (Stepping Z)). IsGroupUnitAt at.Source one P Q) (sym unit_is) (subst (λ held. Has held Q) (sym is) holds);
  }
