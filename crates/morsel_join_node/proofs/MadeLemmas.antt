-- What was made for its ends, in its place among the kinds of units.
use Rattle.std.proofs.Common.{◌≡◌, Some, List, [], sym, ap, subst, ◌∙◌}
use Rattle.atomic_table.specs.Seated.{TableId}
use Rattle.morsel_prims.specs.Polled.{BoardId, LaneId}
use Rattle.morsel_lane_pipe.specs.Tasks.{GivesOwn, Has, KeepsAll, MakesOthers, TaskSeen}
use Rattle.morsel_lane_pipe.specs.declared.stepping.Stepping.{Stepping}
use Rattle.morsel_ports.specs.Nodes.{UnitSeen, lanes_of_task}
use Rattle.morsel_stage.specs.declared.one_of.OneOf.{OneOf}
use Rattle.morsel_stage.specs.declared.one_of.OneOf.TheVariants.{First, Second, Third}
use Rattle.morsel_stage.specs.Kinds.{ByKind}
use Rattle.morsel_join_phases.specs.declared.places.JoinAt.TheVariants as at
use Rattle.morsel_join_node.specs.JoinUnits.{IsMadeUnit, IsUnitAt, unit_lanes}

-- what is seen of a unit with these lanes
abbrev pub seen_of : TableId → List LaneId → List LaneId → UnitSeen
seen_of home from to = record { home = home; from = from; to = to }

module _ {A M Z U : Type 0} (task_of : U → OneOf (Stepping A) (Stepping M) (Stepping Z)) (first_can : BoardId → A → Type 0) (second_can : BoardId → M → Type 0) (third_can : BoardId → Z → Type 0)
    (first_home : A → TableId) (first_from first_to : A → List LaneId) (second_home : M → TableId) (second_from second_to : M → List LaneId) (third_home : Z → TableId) (third_from third_to : Z → List LaneId) where
  abbrev CanPoll : BoardId → OneOf (Stepping A) (Stepping M) (Stepping Z) → Type 0
  CanPoll id unit = ByKind unit (λ stepping. Has stepping.task (first_can id)) (λ stepping. Has stepping.task (second_can id)) (λ stepping. Has stepping.task (third_can id))

  abbrev first_seen : A → TaskSeen
  first_seen task = record { work = KeepsAll; home = first_home task; from = first_from task; to = first_to task; places = [] }

  abbrev second_seen : M → TaskSeen
  second_seen task = record { work = MakesOthers; home = second_home task; from = second_from task; to = second_to task; places = [] }

  abbrev third_seen : Z → TaskSeen
  third_seen task = record { work = GivesOwn; home = third_home task; from = third_from task; to = third_to task; places = [] }

  -- the lanes of a unit; its work and the places where it waits are not among them
  abbrev lanes_of : OneOf (Stepping A) (Stepping M) (Stepping Z) → UnitSeen
  lanes_of unit = unit_lanes first_seen second_seen third_seen unit

  -- one that keeps
  pub keeping_made : (P : A → Type 0) (Q : M → Type 0) (N : Z → Type 0) (unit : U) (stepping : Stepping A) (task : A) (home : TableId) (from to : List LaneId) (tokens : BoardId → Type 0) → task_of unit ≡ First stepping → stepping.task ≡ Some task
      → ((id : BoardId) → home ≡ id.lane_table → tokens id → first_can id task) → seen_of (first_home task) (first_from task) (first_to task) ≡ seen_of home from to → P task
      → IsMadeUnit (λ id unit. CanPoll id (task_of unit)) (λ unit. lanes_of (task_of unit)) (λ unit. IsUnitAt at.Build (task_of unit) P Q N) home from to tokens unit
  keeping_made P Q N unit stepping task home from to tokens unit_is is can seen holds = record {
    pollable = λ id same of. subst (CanPoll id) (sym unit_is) (subst (λ held. Has held (first_can id)) (sym is) (can id same of));
    lanes = ap lanes_of unit_is ∙ ap (lanes_of_task first_seen) is ∙ seen;
    made = subst (λ (one : OneOf (Stepping A) (Stepping M) (Stepping Z)). IsUnitAt at.Build one P Q N) (sym unit_is) (subst (λ held. Has held P) (sym is) holds);
  }

  -- one that looks up
  pub probing_made : (P : A → Type 0) (Q : M → Type 0) (N : Z → Type 0) (unit : U) (stepping : Stepping M) (task : M) (home : TableId) (from to : List LaneId) (tokens : BoardId → Type 0) → task_of unit ≡ Second stepping → stepping.task ≡ Some task
      → ((id : BoardId) → home ≡ id.lane_table → tokens id → second_can id task) → seen_of (second_home task) (second_from task) (second_to task) ≡ seen_of home from to → Q task
      → IsMadeUnit (λ id unit. CanPoll id (task_of unit)) (λ unit. lanes_of (task_of unit)) (λ unit. IsUnitAt at.Probe (task_of unit) P Q N) home from to tokens unit
  probing_made P Q N unit stepping task home from to tokens unit_is is can seen holds = record {
    pollable = λ id same of. subst (CanPoll id) (sym unit_is) (subst (λ held. Has held (second_can id)) (sym is) (can id same of));
    lanes = ap lanes_of unit_is ∙ ap (lanes_of_task second_seen) is ∙ seen;
    made = subst (λ (one : OneOf (Stepping A) (Stepping M) (Stepping Z)). IsUnitAt at.Probe one P Q N) (sym unit_is) (subst (λ held. Has held Q) (sym is) holds);
  }

  -- one that gives
  pub giving_made : (P : A → Type 0) (Q : M → Type 0) (N : Z → Type 0) (unit : U) (stepping : Stepping Z) (task : Z) (home : TableId) (from to : List LaneId) (tokens : BoardId → Type 0) → task_of unit ≡ Third stepping → stepping.task ≡ Some task
      → ((id : BoardId) → home ≡ id.lane_table → tokens id → third_can id task) → seen_of (third_home task) (third_from task) (third_to task) ≡ seen_of home from to → N task
      → IsMadeUnit (λ id unit. CanPoll id (task_of unit)) (λ unit. lanes_of (task_of unit)) (λ unit. IsUnitAt at.Emit (task_of unit) P Q N) home from to tokens unit
  giving_made P Q N unit stepping task home from to tokens unit_is is can seen holds = record {
    pollable = λ id same of. subst (CanPoll id) (sym unit_is) (subst (λ held. Has held (third_can id)) (sym is) (can id same of));
    lanes = ap lanes_of unit_is ∙ ap (lanes_of_task third_seen) is ∙ seen;
    made = subst (λ (one : OneOf (Stepping A) (Stepping M) (Stepping Z)). IsUnitAt at.Emit one P Q N) (sym unit_is) (subst (λ held. Has held N) (sym is) holds);
  }
