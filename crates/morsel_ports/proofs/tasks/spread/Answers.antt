use Rattle.std.proofs.Common.{◌≡◌, ◌∷◌, [], Option, Some, List, length, map, sym, ap, subst, ◌∙◌, arith}
use Rattle.std.proofs.lemmas.List.{length-map}
use Rattle.atomic_table.specs.Seated.{TableId}
use Rattle.morsel_prims.specs.Polled.{LaneId}
use Rattle.morsel_lane_pipe.specs.Tasks.{HoldsTokensOf, Spreads}
use Rattle.morsel_pipe_task.specs.PipeTasks.{by_work}
use Rattle.morsel_pipe_task.specs.declared.pipe_task.PipeWork.TheVariants.{Distributing, HandingOn}
use Rattle.morsel_ports.specs.Between.{DistributingKind, HandingOnKind, TaskLanes, lanes_of_work, task_lanes, tasks_by_pairs}
use Rattle.morsel_ports.proofs.BetweenLemmas.{gathered-lanes, may_join-new, spreading-can_poll}
use Rattle.morsel_ports.proofs.JoinLemmas.{if_ok-on}
use Rattle.morsel_ports.proofs.tasks.spread.Goals as goal

pub join_each-requires : goal.join_each-requires
join_each-requires g c = record {
  may_join = may_join-new g.L.Receiver.LaneReceiver.home g.L.Receiver.LaneReceiver.job g.L.Receiver.LaneReceiver.taken g.L.Receiver.LaneReceiver.is_whole g.L.Receiver.LaneReceiver.is_cut
      g.L.Sender.LaneSender.home g.L.Sender.LaneSender.job g.L.Sender.LaneSender.room g.L.Sender.LaneSender.sent g.J.LoadJob.holds g.L.Tokens.token_home
      (g.L.Board.Board.id c.args.board.now) (g.L.Board.Board.id c.distributor_channel.new.board) c.args.job.now (g.L.Lanes.room_of 1) c.in_ok-distributor.lanes.items c.args.senders.items
      c.in_ok-distributor.ensures.same_board (omega (arith, c.in_ok-distributor.ensures.len.1)) c.in_ok-distributor.ensures.receivers c.requires.senders c.requires.tokens;
}

pub returns-clause-can_poll : goal.returns-clause-can_poll
returns-clause-can_poll g c =
    let id = g.L.Board.Board.id c.args.board.now in
    let tokens = subst (λ job. HoldsTokensOf g.J.LoadJob.holds g.L.Tokens.token_home job id.group_table) (sym c.requires.receiver.1) c.requires.tokens in
    if_ok-on _ _ c.gather_spreading.result c.gather_spreading.ensures.tasks
    (λ tasks are. spreading-can_poll (λ task. task.task) _ _ _ _ tasks.items c.in_ok-distributing.distributing c.in_ok-handing_on.handing_on.items are (c.in_ok-distributing.ensures.can_step id c.requires.receiver.0 tokens) (c.in_ok-handing_on.ensures.can_step id (sym c.in_ok-distributor.ensures.same_board)))

pub returns-clause-spread : goal.returns-clause-spread
returns-clause-spread g c =
    let id = g.L.Board.Board.id c.args.board.now in
    let inner : List LaneId = map g.L.Receiver.LaneReceiver.lane c.in_ok-distributor.lanes.items in
    let long : length inner ≡ length c.args.senders.items = omega (arith, length-map c.in_ok-distributor.lanes.items g.L.Receiver.LaneReceiver.lane, c.in_ok-distributor.ensures.len.1) in
    let one : TableId → List LaneId → Option TaskLanes = λ home lanes. Some (record { kind = DistributingKind; work = Spreads; home = home; from = g.L.Receiver.LaneReceiver.lane c.args.receiver ∷ []; to = lanes }) in
    if_ok-on _ _ c.gather_spreading.result c.gather_spreading.ensures.tasks
    (λ tasks are. (
      inner,
      long,
      gathered-lanes (λ task. task.task) HandingOn tasks.items (Distributing c.in_ok-distributing.distributing) c.in_ok-handing_on.handing_on.items (task_lanes (λ work. by_work work _ _ _ _)) (one id.lane_table inner) (tasks_by_pairs HandingOnKind id.lane_table inner (map g.L.Sender.LaneSender.lane c.args.senders.items))
          are (ap (λ seen. Some (lanes_of_work DistributingKind seen)) c.in_ok-distributing.ensures.seen ∙ ap (λ home. one home (map g.L.Sender.LaneSender.lane c.in_ok-distributor.distributor.lanes.items)) c.requires.receiver.0 ∙ ap (one id.lane_table) c.in_ok-distributor.ensures.lanes)
          (c.in_ok-handing_on.ensures.lanes ∙ ap (λ of. tasks_by_pairs HandingOnKind of.lane_table inner (map g.L.Sender.LaneSender.lane c.args.senders.items)) c.in_ok-distributor.ensures.same_board),
    ))

pub returns-clause-same_waiting : goal.returns-clause-same_waiting
returns-clause-same_waiting g c = λ place. c.join_each.ensures.same_waiting place ∙ c.distributor_channel.ensures.same_waiting place
