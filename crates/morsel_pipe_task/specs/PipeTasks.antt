-- The kinds of tasks of a pipe.
use Rattle.morsel_lane_pipe.specs.declared.merging.Merging as merging
use Rattle.morsel_lane_pipe.specs.declared.inserting.Inserting as inserting
use Rattle.morsel_lane_pipe.specs.declared.distributing.Distributing as distributing
use Rattle.morsel_lane_pipe.specs.declared.handing_on.HandingOn as handing_on
use Rattle.morsel_pipe_task.specs.declared.pipe_task.PipeWork.{PipeWork}
use Rattle.morsel_pipe_task.specs.declared.pipe_task.PipeWork.TheVariants.{Merging, Inserting, Distributing, HandingOn}

-- what it is for a task, by its kind
abbrev pub by_work : {L J B G K S R X Y Z : Type 0} {a : _} {b : _} {c : _} {d : _} {e : _} {f : _} {V : Type 0} → PipeWork L J B G K S R X Y Z a b c d e f
    → (merging.Merging L J B G K S R X Y Z a b c d e f → V) → (inserting.Inserting L J B G K S R X Y → V) → (distributing.Distributing L J B G K S R X Y Z a b c d e f → V) → (handing_on.HandingOn L J B G K S R X Y → V) → V
by_work (Merging task) to_merge to_insert to_distribute to_hand_on = to_merge task
by_work (Inserting task) to_merge to_insert to_distribute to_hand_on = to_insert task
by_work (Distributing task) to_merge to_insert to_distribute to_hand_on = to_distribute task
by_work (HandingOn task) to_merge to_insert to_distribute to_hand_on = to_hand_on task

-- the fact for a task of its kind
abbrev pub ByWork : {L J B G K S R X Y Z : Type 0} {a : _} {b : _} {c : _} {d : _} {e : _} {f : _} → PipeWork L J B G K S R X Y Z a b c d e f
    → (merging.Merging L J B G K S R X Y Z a b c d e f → Type 0) → (inserting.Inserting L J B G K S R X Y → Type 0) → (distributing.Distributing L J B G K S R X Y Z a b c d e f → Type 0) → (handing_on.HandingOn L J B G K S R X Y → Type 0) → Type 0
ByWork (Merging task) to_merge to_insert to_distribute to_hand_on = to_merge task
ByWork (Inserting task) to_merge to_insert to_distribute to_hand_on = to_insert task
ByWork (Distributing task) to_merge to_insert to_distribute to_hand_on = to_distribute task
ByWork (HandingOn task) to_merge to_insert to_distribute to_hand_on = to_hand_on task
