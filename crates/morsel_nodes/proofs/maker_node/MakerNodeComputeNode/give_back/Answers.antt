use Rattle.std.proofs.Common.{◌++◌, ◌∷◌, [], refl}
use Rattle.morsel_meaning.specs.declared.fault.Fault.{Fault}
use Rattle.morsel_lane_pipe.specs.Tasks.{MakesOthers, TaskSeen}
use Rattle.morsel_units.specs.declared.node_unit.NodeUnit.{NodeUnit}
use Rattle.morsel_nodes.proofs.NodeLemmas.{made_by}
use Rattle.morsel_nodes.proofs.maker_node.MakerNodeComputeNode.give_back.Given.{Over}
use Rattle.morsel_nodes.proofs.maker_node.MakerNodeComputeNode.give_back.Goals as goal

module _ (g : Over) where
  abbrev TheUnit : Type 0
  TheUnit = NodeUnit g.row.L.Denot g.row.J.Denot g.row.W-Maker.Denot g.row.L-Board.Denot g.row.L-Group.Denot g.row.L-Token.Denot g.row.L-Sender.Denot g.row.L-Receiver.Denot g.row.L-Sender-Receipt.Denot g.row.L-Receiver-Receipt.Denot

  abbrev task_seen : TheUnit → TaskSeen
  task_seen task = record {
    work = MakesOthers;
    home = g.L.Receiver.LaneReceiver.home task.from;
    from = g.L.Receiver.LaneReceiver.lane task.from ∷ [];
    to = g.L.Sender.LaneSender.lane task.sending.to ∷ [];
    places = g.L.Receiver.LaneReceiver.wait_places task.from ++ g.L.Sender.LaneSender.wait_places task.sending.to;
  }

  abbrev fails : TheUnit → Fault → Type 0
  fails task fault = g.W.Maker.LoadMaker.may_fail (g.L.Receiver.LaneReceiver.job task.from) fault

pub returns-in-Whole-clause-made : goal.returns-in-Whole-clause-made
returns-in-Whole-clause-made g c unit is gives =
    made_by g.L.Receiver.LaneReceiver.receipt_home g.L.Receiver.LaneReceiver.receipt_lane g.L.Receiver.LaneReceiver.all_taken g.L.Sender.LaneSender.receipt_home g.L.Sender.LaneSender.receipt_lane g.L.Sender.LaneSender.all_sent
    (task_seen g) (fails g) (λ task receipts. Unit {0}) (λ task. refl) unit.task c.args.out gives
