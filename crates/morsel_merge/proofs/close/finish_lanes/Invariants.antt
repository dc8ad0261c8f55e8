use Rattle.std.proofs.Common.{◌≡◌, ◌≤◌, ◌++◌, All, length, map, vec_capacity, vec_len}
use Rattle.std.specs.Vec.Iter.{into_iter_items}
use Rattle.morsel_prims.specs.Waiting.{KeepsWaiting}
use Rattle.morsel_prims.specs.Woken.{AreFoundWoken, KeepsWakes}
use Rattle.morsel_merge.specs.Boards.{OnEarlierEnd, OnLaterEnd}
use Rattle.morsel_merge.specs.Spread.{AreFoundEach}
use Rattle.morsel_merge.proofs.close.finish_lanes.Given as goal

abbrev pub invariant-loop-lane : goal.invariant-loop-lane
invariant-loop-lane g l = record {
  all : l.yielded ++ into_iter_items l.lane-iterator ≡ l.fn.lanes.items;
  len : vec_len l.receipts ≡ length l.yielded;
  room : vec_len l.fn.lanes ≤ vec_capacity l.receipts;
  lanes : map g.S.LaneSender.receipt_lane l.receipts.items ≡ map g.S.LaneSender.lane l.yielded;
  homes : map g.S.LaneSender.receipt_home l.receipts.items ≡ map g.S.LaneSender.home l.yielded;
  sent : map g.S.LaneSender.all_sent l.receipts.items ≡ map g.S.LaneSender.sent l.yielded;
  finished : All (λ receipt. OnEarlierEnd g.B.Board.waits_at l.cx.board l.cx.wakes (λ board. g.S.LaneSender.has_finished board receipt)) l.receipts.items;
  woken : AreFoundWoken (AreFoundEach (λ end receipt tasks. OnLaterEnd g.B.Board.waits_at l.fn.cx.board (λ board. g.S.LaneSender.found_waiting_finish board end receipt tasks)) l.yielded l.receipts.items) l.cx.wakes;
  waiting : KeepsWaiting (g.B.Board.waits_at l.fn.cx.board) (g.B.Board.waits_at l.cx.board) l.cx.wakes;
  board : g.B.Board.id l.cx.board ≡ g.B.Board.id l.fn.cx.board;
  me : l.cx.me ≡ l.fn.cx.me;
  wakes : KeepsWakes l.fn.cx.wakes l.cx.wakes;
}
