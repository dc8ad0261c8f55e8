use Rattle.std.proofs.Common.{◌≡◌, ◌∷◌, [], Option, Some, List, length, map, sym, ap, ◌∙◌, arith}
use Rattle.std.proofs.lemmas.List.{length-map}
use Rattle.atomic_table.specs.Seated.{TableId}
use Rattle.morsel_prims.specs.Polled.{LaneId}
use Rattle.morsel_lane_pipe.specs.Tasks.{Merges}
use Rattle.morsel_pipe_task.specs.PipeTasks.{by_work}
use Rattle.morsel_pipe_task.specs.declared.pipe_task.PipeWork.TheVariants.{Inserting, Merging}
use Rattle.morsel_ports.specs.Between.{InsertingKind, MergingKind, TaskLanes, lanes_of_work, task_lanes, tasks_by_pairs}
use Rattle.morsel_ports.proofs.BetweenLemmas.{gathered-lanes, may_join-new, merging-can_poll}
use Rattle.morsel_ports.proofs.JoinLemmas.{if_ok-on}
use Rattle.morsel_ports.proofs.tasks.merged.Goals as goal

pub join_each-requires : goal.join_each-requires
join_each-requires g c = record {
  may_join = may_join-new g.L.Receiver.LaneReceiver.home g.L.Receiver.LaneReceiver.job g.L.Receiver.LaneReceiver.taken g.L.Receiver.LaneReceiver.is_whole g.L.Receiver.LaneReceiver.is_cut
      (λ to. g.L.Sender.LaneSender.home to.sender) (λ to. g.L.Sender.LaneSender.job to.sender) (λ to. g.L.Sender.LaneSender.room to.sender) (λ to. g.L.Sender.LaneSender.sent to.sender) g.J.LoadJob.holds g.L.Tokens.token_home
      (g.L.Board.Board.id c.args.board.now) (g.L.Board.Board.id c.new.new.board) c.args.job.now (g.L.Lanes.room_of c.args.room) c.args.receivers.items c.in_ok-linearizer.inserters.items
      c.in_ok-linearizer.ensures.same_board (omega (arith, c.in_ok-linearizer.ensures.len.1)) c.requires.receivers c.in_ok-linearizer.ensures.inserters c.requires.tokens;
}

pub returns-clause-can_poll : goal.returns-clause-can_poll
returns-clause-can_poll g c =
    let id = g.L.Board.Board.id c.args.board.now in
    if_ok-on _ _ c.gather_merging.result c.gather_merging.ensures.tasks
    (λ tasks are. merging-can_poll (λ task. task.task) _ _ _ _ tasks.items c.in_ok-merging.merging c.in_ok-inserting.inserting.items are (c.in_ok-merging.ensures.can_step id c.requires.sender.0) (c.in_ok-inserting.ensures.can_step id (sym c.in_ok-linearizer.ensures.same_board)))

pub returns-clause-merge : goal.returns-clause-merge
returns-clause-merge g c =
    let id = g.L.Board.Board.id c.args.board.now in
    let inner : List LaneId = map g.L.Receiver.LaneReceiver.lane c.in_ok-linearizer.linearizer.receivers.items in
    let long : length inner ≡ length c.args.receivers.items = omega (arith, length-map c.in_ok-linearizer.linearizer.receivers.items g.L.Receiver.LaneReceiver.lane, c.in_ok-linearizer.ensures.len.0) in
    let one : TableId → Option TaskLanes = λ home. Some (record { kind = MergingKind; work = Merges; home = home; from = inner; to = g.L.Sender.LaneSender.lane c.args.sender ∷ [] }) in
    if_ok-on _ _ c.gather_merging.result c.gather_merging.ensures.tasks
    (λ tasks are. (
      inner,
      long,
      gathered-lanes (λ task. task.task) Inserting tasks.items (Merging c.in_ok-merging.merging) c.in_ok-inserting.inserting.items (task_lanes (λ work. by_work work _ _ _ _)) (one id.lane_table) (tasks_by_pairs InsertingKind id.lane_table (map g.L.Receiver.LaneReceiver.lane c.args.receivers.items) inner)
          are (ap (λ seen. Some (lanes_of_work MergingKind seen)) c.in_ok-merging.ensures.seen ∙ ap one c.requires.sender.0)
          (c.in_ok-inserting.ensures.lanes ∙ ap (λ of. tasks_by_pairs InsertingKind of.lane_table (map g.L.Receiver.LaneReceiver.lane c.args.receivers.items) (map (λ to. g.L.Sender.LaneSender.lane to.sender) c.in_ok-linearizer.inserters.items)) c.in_ok-linearizer.ensures.same_board
          ∙ ap (λ lanes. tasks_by_pairs InsertingKind id.lane_table (map g.L.Receiver.LaneReceiver.lane c.args.receivers.items) lanes) c.in_ok-linearizer.ensures.lanes),
    ))

pub new-requires-2-clause-begins : goal.new-requires-2-clause-begins
new-requires-2-clause-begins g c = rw (sym c.in_ok-linearizer.ensures.job) at c.in_ok-linearizer.ensures.begins

pub returns-clause-same_waiting : goal.returns-clause-same_waiting
returns-clause-same_waiting g c = λ place. c.join_each.ensures.same_waiting place ∙ c.new.ensures.same_waiting place
