use Rattle.std.proofs.Common.{Option, false, ◌≡◌, ◌++◌, ◌∷◌, [], ℕ, All, List, length, sym, ap, subst, ◌∙◌}
use Rattle.std.proofs.lemmas.List.Elements.{All-head}
use Rattle.std.specs.Option.{unwrap_or}
use Rattle.morsel_ports.specs.declared.node.PortKind.TheVariants as kinds
use Rattle.atomic_table.specs.Seated.{TableId}
use Rattle.morsel_merge.specs.Ends.{IsNewReceiver, IsNewSender}
use Rattle.morsel_lane_pipe.specs.Tasks.{HoldsTokensOf, MakesOthers, TaskSeen}
use Rattle.morsel_lane_pipe.specs.declared.stepping.Stepping.{Stepping}
use Rattle.morsel_units.specs.declared.node_unit.NodeUnit.{NodeUnit}
use Rattle.morsel_ports.specs.declared.node.Ends.{Ends}
use Rattle.morsel_ports.specs.declared.node.Ends.TheVariants.{Parallel}
use Rattle.morsel_ports.specs.Nodes.{AreUnitsBetween, lanes_of_task, unit_between}
use Rattle.morsel_nodes.specs.MakerNodes.{CanJoin}
use Rattle.morsel_nodes.proofs.PairLemmas.{pairs_of}
use Rattle.morsel_nodes.proofs.NodeLemmas.{as_many_units, as_many_ends, fails_from, one_job, one_port, pipelines_are, units_between}
use Rattle.morsel_nodes.proofs.maker_node.MakerNodeComputeNode.take_tasks.Given.{Over}
use Rattle.morsel_nodes.proofs.maker_node.MakerNodeComputeNode.take_tasks.Goals.{After-take_ends-tos}
use Rattle.morsel_nodes.proofs.maker_node.MakerNodeComputeNode.take_tasks.Goals as goal

module _ (g : Over) where
  abbrev TheUnit : Type 0
  TheUnit = NodeUnit g.row.L.Denot g.row.J.Denot g.row.W-Maker.Denot g.row.L-Board.Denot g.row.L-Group.Denot g.row.L-Token.Denot g.row.L-Sender.Denot g.row.L-Receiver.Denot g.row.L-Sender-Receipt.Denot g.row.L-Receiver-Receipt.Denot

  abbrev task_seen : TheUnit → TaskSeen
  task_seen task = record {
    work = MakesOthers;
    home = g.L.Receiver.LaneReceiver.home task.from;
    from = g.L.Receiver.LaneReceiver.lane task.from ∷ [];
    to = g.L.Sender.LaneSender.lane task.sending.to ∷ [];
    places = g.L.Receiver.LaneReceiver.wait_places task.from ++ g.L.Sender.LaneSender.wait_places task.sending.to;
  }

  abbrev new_from : TableId → g.row.J.Denot → g.row.L-Receiver.Denot → Type 0
  new_from = IsNewReceiver g.L.Receiver.LaneReceiver.home g.L.Receiver.LaneReceiver.job g.L.Receiver.LaneReceiver.taken g.L.Receiver.LaneReceiver.is_whole g.L.Receiver.LaneReceiver.is_cut

  abbrev new_to : TableId → g.row.J.Denot → g.row.L-Sender.Denot → Type 0
  new_to table job end = (room : ℕ) × IsNewSender g.L.Sender.LaneSender.home g.L.Sender.LaneSender.job g.L.Sender.LaneSender.room g.L.Sender.LaneSender.sent table job room end

  abbrev joins : g.row.W.Denot → g.row.L-Receiver.Denot → g.row.L-Sender.Denot → Type 0
  joins makers = CanJoin g.L.Receiver.LaneReceiver.home g.L.Receiver.LaneReceiver.job g.L.Receiver.LaneReceiver.taken g.L.Sender.LaneSender.home g.L.Sender.LaneSender.job g.L.Sender.LaneSender.sent (g.W.LoadMakers.joins makers)

  -- two new ends for jobs that the node joins
  both_new : (table : TableId) (makers : g.row.W.Denot) (first second : g.row.J.Denot) → g.W.LoadMakers.joins makers first second → (x : g.row.L-Receiver.Denot) (y : g.row.L-Sender.Denot) → new_from table first x → new_to table second y → joins makers x y
  both_new table makers first second joined x y p q = record {
    same_home = q.1.0 ∙ sym p.0;
    joined = subst (λ (j : g.row.J.Denot). g.W.LoadMakers.joins makers j (g.L.Sender.LaneSender.job y)) (sym p.1) (subst (λ (j : g.row.J.Denot). g.W.LoadMakers.joins makers first j) (sym q.1.1) joined);
    none_taken = p.2;
    none_sent = q.1.3;
  }

  module _ (c : After-take_ends-tos g) where
    abbrev table : TableId
    table = (g.L.Board.Board.id c.args._board.now).lane_table

    abbrev first : g.row.J.Denot
    first = c.requires.jobs.2.0

    abbrev second : g.row.J.Denot
    second = c.requires.jobs.2.1

    all_from : All (new_from table first) c.take_ends-froms.result.items
    all_from = one_job (new_from table) c.args.recv.now.items c.take_ends-froms.result c.requires.jobs.0 first c.take_ends-froms.ensures.ends c.requires.jobs.2.2 c.requires.jobs.3

    all_to : All (new_to table second) c.take_ends-tos.result.items
    all_to = one_job (new_to table) c.args.send.now.items c.take_ends-tos.result c.requires.jobs.1 second c.take_ends-tos.ensures.ends c.requires.jobs.2.3 c.requires.jobs.4

    as_many : length c.take_ends-froms.result.items ≡ length c.take_ends-tos.result.items
    as_many = as_many_ends c.args.self.now.pipelines (length c.take_ends-froms.result.items) (length c.take_ends-tos.result.items)
        (pipelines_are c.args.self.now.pipelines c.args.recv.now.items c.take_ends-froms.result c.requires.recv c.take_ends-froms.ensures.ends)
        (pipelines_are c.args.self.now.pipelines c.args.send.now.items c.take_ends-tos.result c.requires.send c.take_ends-tos.ensures.ends)

    homes : All (λ (from : g.row.L-Receiver.Denot). g.L.Receiver.LaneReceiver.home from ≡ table) c.take_ends-froms.result.items
    homes = λ k d lt. (all_from k d lt).0

pub take_ends-froms-requires : goal.take_ends-froms-requires
take_ends-froms-requires g c = let port = one_port c.args.self.now.pipelines c.args.recv.now.items c.requires.recv in record { one = (port.0, port.1) }

pub take_ends-tos-requires : goal.take_ends-tos-requires
take_ends-tos-requires g c = let port = one_port c.args.self.now.pipelines c.args.send.now.items c.requires.send in record { one = (port.0, port.1) }

pub units_of-requires : goal.units_of-requires
units_of-requires g c = record {
  pairs = pairs_of (new_from g (table g c) (first g c)) (new_to g (table g c) (second g c)) (joins g c.args.self.now.makers) (both_new g (table g c) c.args.self.now.makers (first g c) (second g c) c.requires.jobs.2.4)
      c.take_ends-froms.result.items c.take_ends-tos.result.items (as_many g c) (all_from g c) (all_to g c);
}

pub returns-clause-can_poll : goal.returns-clause-can_poll
returns-clause-can_poll g c =
    let id = g.L.Board.Board.id c.args._board.now in
    let tokens = All-head (λ (job : g.row.J.Denot). HoldsTokensOf g.J.LoadJob.holds g.L.Tokens.token_home job id.group_table) c.requires.jobs.2.0 []
    (subst (All (λ (job : g.row.J.Denot). HoldsTokensOf g.J.LoadJob.holds g.L.Tokens.token_home job id.group_table)) c.requires.jobs.2.2 c.requires.jobs.5) in
    let from = one_job (new_from g id.lane_table) c.args.recv.now.items c.take_ends-froms.result c.requires.jobs.0 c.requires.jobs.2.0 c.take_ends-froms.ensures.ends c.requires.jobs.2.2 c.requires.jobs.3 in
    c.in_ok-units.ensures.can_poll id (λ k d lt. (
      (from k d lt).0,
      subst (λ (job : g.row.J.Denot). HoldsTokensOf g.J.LoadJob.holds g.L.Tokens.token_home job id.group_table) (sym (from k d lt).1) tokens,
    ))

pub returns-clause-between : goal.returns-clause-between
returns-clause-between g c =
    let table = (g.L.Board.Board.id c.args._board.now).lane_table in
    let from = one_job (new_from g table) c.args.recv.now.items c.take_ends-froms.result c.requires.jobs.0 c.requires.jobs.2.0 c.take_ends-froms.ensures.ends c.requires.jobs.2.2 c.requires.jobs.3 in
    let many = as_many_ends c.args.self.now.pipelines (length c.take_ends-froms.result.items) (length c.take_ends-tos.result.items)
    (pipelines_are c.args.self.now.pipelines c.args.recv.now.items c.take_ends-froms.result c.requires.recv c.take_ends-froms.ensures.ends)
    (pipelines_are c.args.self.now.pipelines c.args.send.now.items c.take_ends-tos.result c.requires.send c.take_ends-tos.ensures.ends) in
    subst (λ (ports : List (Ends g.row.L-Receiver.Denot)). AreUnitsBetween (λ (unit : Stepping (TheUnit g)). lanes_of_task (task_seen g) unit.task) (unit_between g.L.Receiver.LaneReceiver.lane g.L.Sender.LaneSender.lane table ports c.args.send.now.items) ports c.args.send.now.items c.in_ok-units.units.items) (sym c.take_ends-froms.ensures.ends)
    (subst (λ (ports : List (Ends g.row.L-Sender.Denot)). AreUnitsBetween (λ (unit : Stepping (TheUnit g)). lanes_of_task (task_seen g) unit.task) (unit_between g.L.Receiver.LaneReceiver.lane g.L.Sender.LaneSender.lane table (Parallel c.take_ends-froms.result ∷ []) ports) (Parallel c.take_ends-froms.result ∷ []) ports c.in_ok-units.units.items) (sym c.take_ends-tos.ensures.ends)
    (units_between (λ (unit : Stepping (TheUnit g)). lanes_of_task (task_seen g) unit.task) g.L.Receiver.LaneReceiver.lane g.L.Sender.LaneSender.lane table c.take_ends-froms.result c.take_ends-tos.result c.in_ok-units.units.items many
    (c.in_ok-units.ensures.lanes table (λ k d lt. (from k d lt).0))))

pub returns-clause-faults : goal.returns-clause-faults
returns-clause-faults g c from to fits ends_for k d lt fault fails =
    let all = one_job (λ (job : g.row.J.Denot) (end : g.row.L-Receiver.Denot). g.L.Receiver.LaneReceiver.job end ≡ job) c.args.recv.now.items c.take_ends-froms.result from fits.0 c.take_ends-froms.ensures.ends fits.2 ends_for in
    fails_from g.W.Maker.LoadMaker.may_fail from fits.0 fault fits.2 (c.in_ok-units.ensures.fails fits.0 all k d lt fault fails)

pub returns-clause-out : goal.returns-clause-out
returns-clause-out g c =
    let table = (g.L.Board.Board.id c.args._board.now).lane_table in
    let from = one_job (new_from g table) c.args.recv.now.items c.take_ends-froms.result c.requires.jobs.0 c.requires.jobs.2.0 c.take_ends-froms.ensures.ends c.requires.jobs.2.2 c.requires.jobs.3 in
    let of_froms = pipelines_are c.args.self.now.pipelines c.args.recv.now.items c.take_ends-froms.result c.requires.recv c.take_ends-froms.ensures.ends in
    let of_tos = pipelines_are c.args.self.now.pipelines c.args.send.now.items c.take_ends-tos.result c.requires.send c.take_ends-tos.ensures.ends in
    let units = as_many_units (λ (unit : Stepping (TheUnit g)). lanes_of_task (task_seen g) unit.task) g.L.Receiver.LaneReceiver.lane g.L.Sender.LaneSender.lane table c.take_ends-froms.result.items c.take_ends-tos.result.items c.in_ok-units.units.items
    (as_many_ends c.args.self.now.pipelines (length c.take_ends-froms.result.items) (length c.take_ends-tos.result.items) of_froms of_tos)
    (c.in_ok-units.ensures.lanes table (λ k d lt. (from k d lt).0)) in
    let count : c.unwrap_or-self.result ≡ length c.in_ok-units.units.items = c.unwrap_or-self.ensures ∙ ap (λ (pipelines : Option ℕ). unwrap_or pipelines 0) of_froms ∙ sym units in
    ap (λ (n : ℕ). record { name = g.W.LoadMakers.named c.args.self.now.makers; blocks = false; pipelines = c.args.self.now.pipelines; recv_kinds = kinds.Parallel ∷ []; send_kinds = kinds.Parallel ∷ []; units = n }) count
