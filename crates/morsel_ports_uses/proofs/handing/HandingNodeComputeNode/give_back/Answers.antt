use Rattle.std.proofs.Common.{refl}
use Rattle.morsel_ports_uses.proofs.HandingLemmas.{handed_on}
use Rattle.morsel_ports_uses.proofs.handing.HandingNodeComputeNode.give_back.Goals as goal

pub returns-in-Whole-clause-made : goal.returns-in-Whole-clause-made
returns-in-Whole-clause-made g c = λ unit is gives.
    handed_on g.L.Receiver.LaneReceiver.receipt_home g.L.Receiver.LaneReceiver.receipt_lane g.L.Receiver.LaneReceiver.all_taken g.L.Sender.LaneSender.receipt_home g.L.Sender.LaneSender.receipt_lane g.L.Sender.LaneSender.all_sent _ _ (λ one receipts. Unit {0}) c.args.out unit.task (λ one. refl) gives
