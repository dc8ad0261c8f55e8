use Rattle.std.proofs.Common.{◌≡◌, ◌∷◌, [], All, map, refl, sym, ap, subst, ◌∙◌}
use Rattle.morsel_merge.specs.Merging.{IsMerged}
use Rattle.morsel_lane_pipe.specs.Tasks.{by_seq}
use Rattle.morsel_lane_pipe.proofs.TaskLemmas.{all_from_map, receipts-merged}
use Rattle.morsel_lane_pipe.proofs.merging.MergingStepwiseBoard.finish.Goals as goal

pub returns-clause-gives : goal.returns-clause-gives
returns-clause-gives g c =
    let can = c.requires.can_step in
    let homes : All (λ r. g.L.Receiver.LaneReceiver.receipt_home r ≡ g.L.Sender.LaneSender.home c.args.self.to) c.receipts.result.items =
    subst (λ t. All (λ r. g.L.Receiver.LaneReceiver.receipt_home r ≡ t) c.receipts.result.items) (can.0 ∙ sym can.1)
    (all_from_map g.L.Receiver.LaneReceiver.receipt_home g.L.Receiver.LaneReceiver.home (g.L.Board.Board.id c.args.self.from.board.value).lane_table c.receipts.result.items c.args.self.from.receivers.items c.args.self.from.homes c.receipts.ensures.homes) in
    receipts-merged g.L.Receiver.LaneReceiver.receipt_home g.L.Receiver.LaneReceiver.receipt_lane g.L.Receiver.LaneReceiver.all_taken g.L.Sender.LaneSender.receipt_home g.L.Sender.LaneSender.receipt_lane g.L.Sender.LaneSender.all_sent _
    c.receipts.result.items c.filled.result.items c.finish.result c.filled.ensures homes c.finish.ensures.lane.1 c.receipts.ensures.lanes (ap (λ l. l ∷ []) (sym c.finish.ensures.lane.0)) refl
    (subst (λ lists. IsMerged by_seq lists (g.L.Sender.LaneSender.all_sent c.finish.result)) (sym c.receipts.ensures.taken) (subst (λ xs. IsMerged by_seq (map g.L.Receiver.LaneReceiver.taken c.args.self.from.receivers.items) xs) (sym c.finish.ensures.sent) c.requires.done.1))
