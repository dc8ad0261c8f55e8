-- The tasks between the ends of a pipe: of which kind each is, and between which lanes of which board.
use Rattle.std.specs.Prelude.{List, [], ◌∷◌, Option, None, Some}
use Rattle.atomic_table.specs.Seated.{TableId}
use Rattle.morsel_prims.specs.Polled.{LaneId}
use Rattle.morsel_lane_pipe.specs.Tasks.{PipeRole, HandsOn, Merges, Spreads, TaskSeen}
use Rattle.morsel_pipe_task.specs.declared.pipe_task.PipeWork.{PipeWork}
use Rattle.morsel_pipe_task.specs.declared.pipe_task.PipeWork.TheVariants.{Merging, Inserting, Distributing, HandingOn}

-- the four kinds of tasks of a pipe
pub data PipeKind : Type 0 where
  MergingKind : PipeKind
  InsertingKind : PipeKind
  DistributingKind : PipeKind
  HandingOnKind : PipeKind

-- what a task is: its kind and what it does, the table of its board, the lanes from which it takes and through which it sends
pub record TaskLanes : Type 0 where
  pub kind : PipeKind
  pub work : PipeRole
  pub home : TableId
  pub from : List LaneId
  pub to : List LaneId

abbrev pub kind_of_work : {L J B G K S R X Y Z : Type 0} {a : _} {b : _} {c : _} {d : _} {e : _} {f : _} → PipeWork L J B G K S R X Y Z a b c d e f → PipeKind
kind_of_work (Merging task) = MergingKind
kind_of_work (Inserting task) = InsertingKind
kind_of_work (Distributing task) = DistributingKind
kind_of_work (HandingOn task) = HandingOnKind

abbrev pub lanes_of_work : PipeKind → TaskSeen → TaskLanes
lanes_of_work kind seen = record { kind = kind; work = seen.work; home = seen.home; from = seen.from; to = seen.to }

-- of a task that has not ended
abbrev pub task_lanes : {L J B G K S R X Y Z : Type 0} {a : _} {b : _} {c : _} {d : _} {e : _} {f : _}
    → (PipeWork L J B G K S R X Y Z a b c d e f → TaskSeen) → Option (PipeWork L J B G K S R X Y Z a b c d e f) → Option TaskLanes
task_lanes seen None = None
task_lanes seen (Some work) = Some (lanes_of_work (kind_of_work work) (seen work))

-- a task of this kind that hands on from one lane to another
abbrev pub passing_task : PipeKind → TableId → LaneId → LaneId → TaskLanes
passing_task kind home from to = record { kind = kind; work = HandsOn; home = home; from = from ∷ []; to = to ∷ [] }

-- a task of this kind for each pair of lanes, which hands on from the first to the second
abbrev pub tasks_by_pairs : PipeKind → TableId → List LaneId → List LaneId → List (Option TaskLanes)
tasks_by_pairs kind home [] to = []
tasks_by_pairs kind home (x ∷ xs) [] = []
tasks_by_pairs kind home (x ∷ xs) (y ∷ ys) = Some (passing_task kind home x y) ∷ tasks_by_pairs kind home xs ys

-- what merges the lanes `from` into the lanes `to`: one task behind the inner lanes, and one before each of them
abbrev pub merging_tasks : TableId → List LaneId → List LaneId → List LaneId → List (Option TaskLanes)
merging_tasks home from inner to = Some (record { kind = MergingKind; work = Merges; home = home; from = inner; to = to }) ∷ tasks_by_pairs InsertingKind home from inner

-- what spreads the lanes `from` over the lanes `to`: one task before the inner lanes, and one behind each of them
abbrev pub spreading_tasks : TableId → List LaneId → List LaneId → List LaneId → List (Option TaskLanes)
spreading_tasks home from inner to = Some (record { kind = DistributingKind; work = Spreads; home = home; from = from; to = inner }) ∷ tasks_by_pairs HandingOnKind home inner to
