use Rattle.std.proofs.Common.{◌≤◌, ◌∷◌, ◌++◌, [], All, map, ap, sym, subst, ◌∙◌, arith}
use Rattle.std.proofs.lemmas.List.{map_push}
use Rattle.std.proofs.lemmas.List.Elements.{All-push}
use Rattle.morsel_merge.specs.Ends.{IsNewReceiver, IsNewSender}
use Rattle.morsel_merge.proofs.make.make_lanes.Goals as goal

pub lanes-preserved : goal.lanes-preserved
lanes-preserved g c =
    let sent = c.push_reserved.ensures.items in
    let taken = c.push_reserved-in-lanes.ensures.items in
    let table = ap (λ id. id.lane_table) (c.in_ok-sender.ensures.same_board ∙ c.lanes.invariant.board) in
    let made = c.in_ok-sender.ensures in
    let one = made.lane in
    record {
      send_len = omega (arith, c.push_reserved.ensures.len, c.lanes.invariant.send_len);
      recv_len = omega (arith, c.push_reserved-in-lanes.ensures.len, c.lanes.invariant.recv_len);
      send_room = omega (arith, c.push_reserved.ensures.capacity, c.lanes.invariant.send_room);
      recv_room = omega (arith, c.push_reserved-in-lanes.ensures.capacity, c.lanes.invariant.recv_room);
      lanes = ap (λ xs. map g.M.Sender.LaneSender.lane xs) sent ∙ map_push g.M.Sender.LaneSender.lane c.lanes.senders.items c.in_ok-sender.sender ∙ ap (λ xs. xs ++ g.M.Sender.LaneSender.lane c.in_ok-sender.sender ∷ []) c.lanes.invariant.lanes
          ∙ ap (λ x. map g.M.Receiver.LaneReceiver.lane c.lanes.receivers.items ++ x ∷ []) one ∙ sym (map_push g.M.Receiver.LaneReceiver.lane c.lanes.receivers.items c.in_ok-sender.receiver) ∙ ap (λ xs. map g.M.Receiver.LaneReceiver.lane xs) (sym taken);
      senders = subst (λ xs. All (IsNewSender g.M.Sender.LaneSender.home g.M.Sender.LaneSender.job g.M.Sender.LaneSender.room g.M.Sender.LaneSender.sent (g.M.Board.Board.id c.args.board.now).lane_table c.args.job.now (g.M.Lanes.room_of c.args.asked)) xs) (sym sent)
          (All-push (IsNewSender g.M.Sender.LaneSender.home g.M.Sender.LaneSender.job g.M.Sender.LaneSender.room g.M.Sender.LaneSender.sent (g.M.Board.Board.id c.args.board.now).lane_table c.args.job.now (g.M.Lanes.room_of c.args.asked)) c.lanes.senders.items c.in_ok-sender.sender c.lanes.invariant.senders (made.home.0 ∙ table, made.job.0, made.room, made.empty.0));
      receivers = subst (λ xs. All (IsNewReceiver g.M.Receiver.LaneReceiver.home g.M.Receiver.LaneReceiver.job g.M.Receiver.LaneReceiver.taken g.M.Receiver.LaneReceiver.is_whole g.M.Receiver.LaneReceiver.is_cut (g.M.Board.Board.id c.args.board.now).lane_table c.args.job.now) xs) (sym taken)
          (All-push (IsNewReceiver g.M.Receiver.LaneReceiver.home g.M.Receiver.LaneReceiver.job g.M.Receiver.LaneReceiver.taken g.M.Receiver.LaneReceiver.is_whole g.M.Receiver.LaneReceiver.is_cut (g.M.Board.Board.id c.args.board.now).lane_table c.args.job.now) c.lanes.receivers.items c.in_ok-sender.receiver c.lanes.invariant.receivers (made.home.1 ∙ table, made.job.1, made.empty.1, made.unended.0, made.unended.1));
      rooms = subst (λ xs. All (λ end. g.M.Sender.LaneSender.room end ≤ c.args.asked) xs) (sym sent) (All-push (λ end. g.M.Sender.LaneSender.room end ≤ c.args.asked) c.lanes.senders.items c.in_ok-sender.sender c.lanes.invariant.rooms (subst (λ n. n ≤ c.args.asked) (sym made.room) c.lane.ensures.within.1));
      waiting = λ place. c.lane.ensures.same_waiting place ∙ c.lanes.invariant.waiting place;
      board = c.lane.ensures.same_board ∙ c.lanes.invariant.board;
    }
