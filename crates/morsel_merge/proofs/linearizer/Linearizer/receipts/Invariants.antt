use Rattle.std.proofs.Common.{◌≡◌, ◌≤◌, ◌++◌, length, map, vec_capacity, vec_len}
use Rattle.std.specs.Vec.Iter.{into_iter_items}
use Rattle.morsel_merge.proofs.linearizer.Linearizer.receipts.Given as goal

abbrev pub invariant-loop-receiver : goal.invariant-loop-receiver
invariant-loop-receiver g l = record {
  all : l.yielded ++ into_iter_items l.receiver-iterator ≡ l.fn.self.receivers.items;
  len : vec_len l.receipts ≡ length l.yielded;
  room : vec_len l.fn.self.receivers ≤ vec_capacity l.receipts;
  lanes : map g.M.Receiver.LaneReceiver.receipt_lane l.receipts.items ≡ map g.M.Receiver.LaneReceiver.lane l.yielded;
  homes : map g.M.Receiver.LaneReceiver.receipt_home l.receipts.items ≡ map g.M.Receiver.LaneReceiver.home l.yielded;
  taken : map g.M.Receiver.LaneReceiver.all_taken l.receipts.items ≡ map g.M.Receiver.LaneReceiver.taken l.yielded;
}
