use Rattle.std.proofs.Common.{◌≡◌, ◌++◌, ◌∷◌, [], List, All, map}
use Rattle.std.specs.Option.{IfSome}
use Rattle.std.specs.Vec.Iter.{into_iter_items}
use Rattle.atomic_table.specs.Seated.{TableId}
use Rattle.morsel_meaning.specs.declared.fault.Fault.{Fault}
use Rattle.morsel_prims.specs.Polled.{BoardId}
use Rattle.morsel_load.specs.Loads.{held_token, load_seen}
use Rattle.morsel_load.specs.declared.load.Load.{Load}
use Rattle.morsel_lane_pipe.specs.Tasks.{Has, HoldsTokensOf, MakesOthers, TaskSeen}
use Rattle.morsel_units.specs.NodeUnits.{IsUnit}
use Rattle.morsel_units.specs.declared.node_unit.NodeUnit.{NodeUnit}
use Rattle.morsel_ports.specs.Joining.{MayJoin}
use Rattle.morsel_ports.specs.Nodes.{lanes_of_task}
use Rattle.morsel_nodes.specs.MakerNodes.{CanJoin, MayFail, UnitFails, lanes_of_pairs}
use Rattle.morsel_nodes.proofs.units.units_of.Given.{Over}
use Rattle.morsel_nodes.proofs.units.units_of.Given as goal

-- what a unit is, and what is so of one
module _ (g : Over) where
  abbrev pub TheUnit : Type 0
  TheUnit = NodeUnit g.row.L.Denot g.row.J.Denot g.row.W-Maker.Denot g.row.L-Board.Denot g.row.L-Group.Denot g.row.L-Token.Denot g.row.L-Sender.Denot g.row.L-Receiver.Denot g.row.L-Sender-Receipt.Denot g.row.L-Receiver-Receipt.Denot

  abbrev pub suits : g.row.J.Denot → Load g.row.L-Token.Denot g.row.J.Denot → Type 0
  suits job load = g.J.LoadJob.suits job (load_seen load) × IfSome (held_token load) (g.J.LoadJob.holds job)

  abbrev pub can_step : BoardId → TheUnit → Type 0
  can_step id task = IsUnit suits g.W.Maker.LoadMaker.joins id.lane_table (g.L.Receiver.LaneReceiver.home task.from) (g.L.Sender.LaneSender.home task.sending.to) task.maker (g.L.Receiver.LaneReceiver.job task.from) (g.L.Sender.LaneSender.job task.sending.to)
      (g.L.Receiver.LaneReceiver.taken task.from) (g.L.Sender.LaneSender.sent task.sending.to) task.sending.held task.lost
      × HoldsTokensOf g.J.LoadJob.holds g.L.Tokens.token_home (g.L.Receiver.LaneReceiver.job task.from) id.group_table

  abbrev pub task_seen : TheUnit → TaskSeen
  task_seen task = record {
    work = MakesOthers;
    home = g.L.Receiver.LaneReceiver.home task.from;
    from = g.L.Receiver.LaneReceiver.lane task.from ∷ [];
    to = g.L.Sender.LaneSender.lane task.sending.to ∷ [];
    places = g.L.Receiver.LaneReceiver.wait_places task.from ++ g.L.Sender.LaneSender.wait_places task.sending.to;
  }

  abbrev pub fails : TheUnit → Fault → Type 0
  fails task fault = g.W.Maker.LoadMaker.may_fail (g.L.Receiver.LaneReceiver.job task.from) fault

  abbrev pub joins : g.row.W.Denot → g.row.L-Receiver.Denot → g.row.L-Sender.Denot → Type 0
  joins makers = CanJoin g.L.Receiver.LaneReceiver.home g.L.Receiver.LaneReceiver.job g.L.Receiver.LaneReceiver.taken g.L.Sender.LaneSender.home g.L.Sender.LaneSender.job g.L.Sender.LaneSender.sent (g.W.LoadMakers.joins makers)

abbrev pub invariant-pairs : goal.invariant-pairs
invariant-pairs g l = record {
  left : MayJoin (joins g l.fn.makers) (into_iter_items l.from-iterator) (into_iter_items l.others);
  part : (before : List g.row.L-Receiver.Denot) × (before ++ into_iter_items l.from-iterator ≡ l.fn.froms.items);
  can_poll : (id : BoardId) → All (λ from. (g.L.Receiver.LaneReceiver.home from ≡ id.lane_table) × HoldsTokensOf g.J.LoadJob.holds g.L.Tokens.token_home (g.L.Receiver.LaneReceiver.job from) id.group_table) l.fn.froms.items
      → All (λ unit. Has unit.task (can_step g id)) l.units.items;
  lanes : (table : TableId) → All (λ from. g.L.Receiver.LaneReceiver.home from ≡ table) l.fn.froms.items
      → map (λ unit. lanes_of_task (task_seen g) unit.task) l.units.items ++ lanes_of_pairs table (map g.L.Receiver.LaneReceiver.lane (into_iter_items l.from-iterator)) (map g.L.Sender.LaneSender.lane (into_iter_items l.others))
      ≡ lanes_of_pairs table (map g.L.Receiver.LaneReceiver.lane l.fn.froms.items) (map g.L.Sender.LaneSender.lane l.fn.tos.items);
  fails_by : (job : g.row.J.Denot) → All (λ from. g.L.Receiver.LaneReceiver.job from ≡ job) l.fn.froms.items
      → All (λ unit. (fault : Fault) → UnitFails (fails g) unit.task fault → MayFail g.W.Maker.LoadMaker.may_fail job fault) l.units.items;
}
