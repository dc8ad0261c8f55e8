use Rattle.std.proofs.Common.{◌≡◌, ◌++◌, All, map}
use Rattle.std.specs.Vec.Iter.{into_iter_items}
use Rattle.morsel_lane_pipe.proofs.settle.settle_lanes.Given as goal

abbrev pub invariant-lanes : goal.invariant-lanes
invariant-lanes g l = record {
  all : l.yielded ++ into_iter_items l.one-iterator ≡ l.fn.sent.items;
  same : map g.L.Sender.LaneSender.all_sent l.yielded ++ map g.L.Receiver.LaneReceiver.all_taken (into_iter_items l.others) ≡ map g.L.Receiver.LaneReceiver.all_taken l.fn.taken.items;
  lanes : map g.L.Sender.LaneSender.receipt_lane (into_iter_items l.one-iterator) ≡ map g.L.Receiver.LaneReceiver.receipt_lane (into_iter_items l.others);
  sent_homes : All (λ s. g.L.Sender.LaneSender.receipt_home s ≡ (g.L.Board.Board.id l.fn.board).lane_table) (into_iter_items l.one-iterator);
  taken_homes : All (λ r. g.L.Receiver.LaneReceiver.receipt_home r ≡ (g.L.Board.Board.id l.fn.board).lane_table) (into_iter_items l.others);
  board : g.L.Board.Board.id l.board ≡ g.L.Board.Board.id l.fn.board;
}
