use Rattle.std.proofs.Common.{◌≡◌, ◌≤◌, All, map, vec_capacity, vec_len}
use Rattle.morsel_prims.specs.Waiting.{SameWaiting}
use Rattle.morsel_merge.specs.Ends.{IsNewReceiver, IsNewSender}
use Rattle.morsel_merge.proofs.make.make_lanes.Given as goal

abbrev pub invariant-lanes : goal.invariant-lanes
invariant-lanes g l = record {
  send_len : vec_len l.senders ≡ l.counter;
  recv_len : vec_len l.receivers ≡ l.counter;
  send_room : l.count ≤ vec_capacity l.senders;
  recv_room : l.count ≤ vec_capacity l.receivers;
  lanes : map g.M.Sender.LaneSender.lane l.senders.items ≡ map g.M.Receiver.LaneReceiver.lane l.receivers.items;
  senders : All (IsNewSender g.M.Sender.LaneSender.home g.M.Sender.LaneSender.job g.M.Sender.LaneSender.room g.M.Sender.LaneSender.sent (g.M.Board.Board.id l.fn.board).lane_table l.fn.job (g.M.Lanes.room_of l.fn.asked)) l.senders.items;
  receivers : All (IsNewReceiver g.M.Receiver.LaneReceiver.home g.M.Receiver.LaneReceiver.job g.M.Receiver.LaneReceiver.taken g.M.Receiver.LaneReceiver.is_whole g.M.Receiver.LaneReceiver.is_cut (g.M.Board.Board.id l.fn.board).lane_table l.fn.job) l.receivers.items;
  rooms : All (λ end. g.M.Sender.LaneSender.room end ≤ l.fn.asked) l.senders.items;
  waiting : SameWaiting (g.M.Board.Board.waits_at l.fn.board) (g.M.Board.Board.waits_at l.board);
  board : g.M.Board.Board.id l.board ≡ g.M.Board.Board.id l.fn.board;
}
