-- The tasks between pairs of ends.
use Rattle.std.proofs.Common.{◌≡◌, ◌+◌, ℕ, suc, Bool, All, List, [], ◌∷◌, ◌++◌, length, map, Option, Some, refl, sym, ap, subst, ◌∙◌, arith}
use Rattle.std.proofs.lemmas.List.{length-map}
use Rattle.std.proofs.lemmas.List.Elements.{All-cons, All-head, All-tail}
use Rattle.atomic_table.specs.Seated.{TableId}
use Rattle.morsel_prims.specs.Polled.{BoardId, LaneId}
use Rattle.morsel_merge.proofs.AskLemmas.{All-from_map, map_twice}
use Rattle.morsel_merge.proofs.SpreadLemmas.{All-to_map}
use Rattle.morsel_merge.specs.Ends.{IsNewReceiver, IsNewSender}
use Rattle.morsel_lane_pipe.specs.Tasks.{Has, HoldsTokensOf}
use Rattle.morsel_pipe_task.specs.PipeTasks.{ByWork}
use Rattle.morsel_lane_pipe.specs.declared.merging.Merging as merging
use Rattle.morsel_lane_pipe.specs.declared.inserting.Inserting as inserting
use Rattle.morsel_lane_pipe.specs.declared.distributing.Distributing as distributing
use Rattle.morsel_lane_pipe.specs.declared.handing_on.HandingOn as handing_on
use Rattle.morsel_pipe_task.specs.declared.pipe_task.PipeWork.{PipeWork}
use Rattle.morsel_pipe_task.specs.declared.pipe_task.PipeWork.TheVariants.{Merging, Inserting, Distributing, HandingOn}
use Rattle.morsel_ports.specs.Joining.{MayJoin}
use Rattle.morsel_ports.specs.Between.{PipeKind, TaskLanes, tasks_by_pairs}

-- where this is true of the ends on both sides, and there are as many, it may be made between each pair
pub may_join-all : {X Y : Type 0} (P : X → Type 0) (Q : Y → Type 0) (may : X → Y → Type 0) → ((x : X) (y : Y) → P x → Q y → may x y) → (xs : List X) (ys : List Y) → length ys ≡ length xs → All P xs → All Q ys → MayJoin may xs ys
may_join-all P Q may joins [] [] long froms tos = tt
may_join-all P Q may joins [] (y ∷ ys) long froms tos = absurd (omega (arith, long))
may_join-all P Q may joins (x ∷ xs) [] long froms tos = absurd (omega (arith, long))
may_join-all P Q may joins (x ∷ xs) (y ∷ ys) long froms tos = (joins x y (All-head P x xs froms) (All-head Q y ys tos), may_join-all P Q may joins xs ys (omega (arith, long)) (All-tail P x xs froms) (All-tail Q y ys tos))

-- a task may pass loads on between new ends for one job
pub may_join-new : {X Y J K T : Type 0} (home : X → TableId) (job : X → J) (taken : X → List T) (whole cut : X → Bool) (home_to : Y → TableId) (job_to : Y → J) (room : Y → ℕ) (sent : Y → List T) (holds : J → K → Type 0) (token_home : K → TableId) (before now : BoardId) (for : J) (places : ℕ) (xs : List X) (ys : List Y)
    → now ≡ before → length ys ≡ length xs → All (IsNewReceiver home job taken whole cut before.lane_table for) xs → All (IsNewSender home_to job_to room sent before.lane_table for places) ys → HoldsTokensOf holds token_home for before.group_table
    → MayJoin (λ x y. (home x ≡ now.lane_table) × (home_to y ≡ now.lane_table) × (job_to y ≡ job x) × (taken x ≡ []) × (sent y ≡ []) × HoldsTokensOf holds token_home (job x) now.group_table) xs ys
may_join-new home job taken whole cut home_to job_to room sent holds token_home before now for places xs ys same long froms tos tokens =
    let table = ap (λ id. id.lane_table) (sym same) in
    let held = subst (λ id. HoldsTokensOf holds token_home for id.group_table) (sym same) tokens in
    may_join-all (IsNewReceiver home job taken whole cut before.lane_table for) (IsNewSender home_to job_to room sent before.lane_table for places) (λ x y. (home x ≡ now.lane_table) × (home_to y ≡ now.lane_table) × (job_to y ≡ job x) × (taken x ≡ []) × (sent y ≡ []) × HoldsTokensOf holds token_home (job x) now.group_table)
    (λ x y from to. (from.0 ∙ table, to.0 ∙ table, to.1 ∙ sym from.1, from.2, to.3, subst (λ j. HoldsTokensOf holds token_home j now.group_table) (sym from.1) held)) xs ys long froms tos

-- one task that was put into an empty list, and then the others
pub gathered : {T W I : Type 0} (work : T → Option W) (wrap : I → W) (none one tasks : List T) (task : T) (first : W) (made : List I)
    → none ≡ [] → one ≡ none ++ task ∷ [] → work task ≡ Some first → map work tasks ≡ map work one ++ map (λ task. Some (wrap task)) made → map work tasks ≡ Some first ∷ map (λ task. Some (wrap task)) made
gathered work wrap none one tasks task first made empty pushed is are =
    are ∙ ap (λ xs. map work xs ++ map (λ task. Some (wrap task)) made) (pushed ∙ ap (λ xs. xs ++ task ∷ []) empty) ∙ ap (λ x. x ∷ map (λ task. Some (wrap task)) made) is

-- one task, and then the others, each in the list by its kind
module _ {T W I : Type 0} (work : T → Option W) (wrap : I → W) (tasks : List T) (first : W) (made : List I) where
  pub gathered-lanes : (lanes : Option W → Option TaskLanes) (one : Option TaskLanes) (others : List (Option TaskLanes))
      → map work tasks ≡ Some first ∷ map (λ task. Some (wrap task)) made → lanes (Some first) ≡ one → map (λ task. lanes (Some (wrap task))) made ≡ others → map (λ task. lanes (work task)) tasks ≡ one ∷ others
  gathered-lanes lanes one others are first_is others_are =
      map_twice lanes work tasks ∙ ap (map lanes) are ∙ ap (λ x. x ∷ map lanes (map (λ task. Some (wrap task)) made)) first_is
      ∙ ap (λ more. one ∷ more) (sym (map_twice lanes (λ task. Some (wrap task)) made) ∙ others_are)

  pub gathered-can_poll : (can : Option W → Type 0)
      → map work tasks ≡ Some first ∷ map (λ task. Some (wrap task)) made → can (Some first) → All (λ task. can (Some (wrap task))) made → All (λ task. can (work task)) tasks
  gathered-can_poll can are first_can others_can =
      All-from_map can work tasks (subst (All can) (sym are) (All-cons can (Some first) (map (λ task. Some (wrap task)) made) first_can (All-to_map can (λ task. Some (wrap task)) made others_can)))

-- what a task of each kind may do is true of all that are gathered
module _ {T L J B G K S R X Y Z : Type 0} {a : _} {b : _} {c : _} {d : _} {e : _} {f : _} (work : T → Option (PipeWork L J B G K S R X Y Z a b c d e f))
    (can_merge : merging.Merging L J B G K S R X Y Z a b c d e f → Type 0) (can_insert : inserting.Inserting L J B G K S R X Y → Type 0)
    (can_distribute : distributing.Distributing L J B G K S R X Y Z a b c d e f → Type 0) (can_hand_on : handing_on.HandingOn L J B G K S R X Y → Type 0) (tasks : List T) where
  pub merging-can_poll : (first : _) (made : _) → map work tasks ≡ Some (Merging first) ∷ map (λ task. Some (Inserting task)) made → can_merge first → All can_insert made
      → All (λ task. Has (work task) (λ one. ByWork one can_merge can_insert can_distribute can_hand_on)) tasks
  merging-can_poll first made are first_can others_can =
      gathered-can_poll work Inserting tasks (Merging first) made (λ one. Has one (λ w. ByWork w can_merge can_insert can_distribute can_hand_on)) are first_can others_can

  pub spreading-can_poll : (first : _) (made : _) → map work tasks ≡ Some (Distributing first) ∷ map (λ task. Some (HandingOn task)) made → can_distribute first → All can_hand_on made
      → All (λ task. Has (work task) (λ one. ByWork one can_merge can_insert can_distribute can_hand_on)) tasks
  spreading-can_poll first made are first_can others_can =
      gathered-can_poll work HandingOn tasks (Distributing first) made (λ one. Has one (λ w. ByWork w can_merge can_insert can_distribute can_hand_on)) are first_can others_can

-- there are as many tasks as pairs
pub pairs-length : (kind : PipeKind) (home : TableId) (from to : List LaneId) → length to ≡ length from → length (tasks_by_pairs kind home from to) ≡ length from
pairs-length kind home [] to long = refl
pairs-length kind home (x ∷ xs) [] long = absurd (omega (arith, long))
pairs-length kind home (x ∷ xs) (y ∷ ys) long = ap suc (pairs-length kind home xs ys (omega (arith, long)))

pub paired-length : {T : Type 0} (lanes : T → Option TaskLanes) (tasks : List T) (one : Option TaskLanes) (kind : PipeKind) (home : TableId) (from to : List LaneId) (count : ℕ) → map lanes tasks ≡ one ∷ tasks_by_pairs kind home from to → length from ≡ count → length to ≡ count → length tasks ≡ count + 1
paired-length lanes tasks one kind home from to count same from_long to_long =
    let long = sym (length-map tasks lanes) ∙ ap length same in
    omega (arith, long, pairs-length kind home from to (to_long ∙ sym from_long), from_long)
