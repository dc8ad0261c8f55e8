use Rattle.std.proofs.Common.{◌≡◌, All, [], ◌∷◌, map, refl, sym, ap, subst, ◌∙◌}
use Rattle.morsel_lane_pipe.proofs.TaskLemmas.{all_from_map, passed-whole, receipts-spread}
use Rattle.morsel_merge.specs.Merging.{AreSpread}
use Rattle.morsel_merge.specs.Spread.{sent_values}
use Rattle.morsel_lane_pipe.proofs.distributing.DistributingStepwiseBoard.finish.Goals as goal

pub returns-clause-gives : goal.returns-clause-gives
returns-clause-gives g c =
    let from = c.args.self.passing.from in
    let to = c.args.self.passing.to in
    let passing = c.requires.can_step.0 in
    let closed = c.finish.ensures.woken.1 in
    let receipts = c.receipts.ensures.same in
    let homes : All (λ s. g.L.Sender.LaneSender.receipt_home s ≡ g.L.Receiver.LaneReceiver.home from) c.receipts.result.items =
    subst (λ t. All (λ s. g.L.Sender.LaneSender.receipt_home s ≡ t) c.receipts.result.items) (passing.to_home ∙ sym passing.from_home)
    (all_from_map g.L.Sender.LaneSender.receipt_home g.L.Sender.LaneSender.home (g.L.Board.Board.id to.board.value).lane_table c.receipts.result.items to.lanes.items to.homes (ap (λ r. map g.L.Sender.LaneSender.receipt_home r.items) receipts ∙ closed.1)) in
    receipts-spread g.L.Receiver.LaneReceiver.receipt_home g.L.Receiver.LaneReceiver.receipt_lane g.L.Receiver.LaneReceiver.all_taken g.L.Sender.LaneSender.receipt_home g.L.Sender.LaneSender.receipt_lane g.L.Sender.LaneSender.all_sent _
    c.filled.result.items c.receipts.result.items c.receipt.result (sent_values to.log.seat.me.0) c.filled.ensures c.receipt.ensures.lane.1 homes (ap (λ l. l ∷ []) (sym c.receipt.ensures.lane.0))
    (ap (λ r. map g.L.Sender.LaneSender.receipt_lane r.items) receipts ∙ closed.0) refl
    (ap (map _) c.receipt.ensures.taken ∙ passed-whole (g.L.Receiver.LaneReceiver.taken from) (sent_values to.log.seat.me.0) c.args.self.passing.held c.requires.done.1 passing.passed)
    (subst (λ values. AreSpread (map g.L.Sender.LaneSender.all_sent c.receipts.result.items) values) c.finish.ensures.sent c.receipts.ensures.spread)
