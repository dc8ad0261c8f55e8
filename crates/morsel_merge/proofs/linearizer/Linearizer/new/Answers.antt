use Rattle.std.proofs.Common.{All, map, ap, sym, subst, ◌∙◌}
use Rattle.morsel_merge.specs.Ends.{IsNewSender}
use Rattle.morsel_merge.proofs.AskLemmas.{All-from_map, map_empty, map_twice}
use Rattle.morsel_merge.proofs.MergeLemmas.{merging-begin}
use Rattle.morsel_merge.proofs.linearizer.Linearizer.new.Goals as goal

pub returns-clause-begins : goal.returns-clause-begins
returns-clause-begins g c =
    merging-begin g.T.Ord.cmp (g.T.Message.suits c.args.job.now) g.met.T.Ord.total (map g.M.Receiver.LaneReceiver.taken c.in_ok-senders.receivers.items) c.in_ok-held.held.items 0 c.args.inserters
    (map_empty g.M.Receiver.LaneReceiver.taken c.in_ok-senders.receivers.items (λ k d within. (c.in_ok-senders.ensures.receivers k d within).2)) c.in_ok-held.ensures.none

pub returns-clause-lanes : goal.returns-clause-lanes
returns-clause-lanes g c =
    map_twice g.M.Sender.LaneSender.lane (λ inserter. inserter.sender) c.in_ok-inserters.inserters.items ∙ ap (λ xs. map g.M.Sender.LaneSender.lane xs) c.in_ok-inserters.ensures.same ∙ c.in_ok-senders.ensures.lanes

pub returns-clause-inserters : goal.returns-clause-inserters
returns-clause-inserters g c =
    let P = IsNewSender g.M.Sender.LaneSender.home g.M.Sender.LaneSender.job g.M.Sender.LaneSender.room g.M.Sender.LaneSender.sent (g.M.Board.Board.id c.args.board.now).lane_table c.args.job.now (g.M.Lanes.room_of c.args.buffer) in
    All-from_map P (λ inserter. inserter.sender) c.in_ok-inserters.inserters.items (subst (λ xs. All P xs) (sym c.in_ok-inserters.ensures.same) c.in_ok-senders.ensures.senders)
