use Rattle.std.proofs.Common.{◌≡◌, ◌++◌, All}
use Rattle.std.specs.Vec.Iter.{into_iter_items}
use Rattle.morsel_prims.specs.Waiting.{KeepsWaiting}
use Rattle.morsel_prims.specs.Woken.{AreFoundWoken, KeepsWakes}
use Rattle.morsel_merge.specs.Boards.{OnEarlierEnd, OnLaterEnd}
use Rattle.morsel_merge.specs.Spread.{AreFoundEach}
use Rattle.morsel_merge.proofs.close.cut_receivers.Given as goal

abbrev pub invariant-loop-receiver : goal.invariant-loop-receiver
invariant-loop-receiver g l = record {
  all : l.yielded ++ into_iter_items l.receiver-iterator ≡ l.fn.receivers.items;
  cut : All (λ end. OnEarlierEnd g.B.Board.waits_at l.cx.board l.cx.wakes (λ board. g.R.LaneReceiver.has_cut board end)) l.yielded;
  woken : AreFoundWoken (AreFoundEach (λ end left tasks. OnLaterEnd g.B.Board.waits_at l.fn.cx.board (λ board. g.R.LaneReceiver.found_waiting_cut board end tasks)) l.yielded l.yielded) l.cx.wakes;
  waiting : KeepsWaiting (g.B.Board.waits_at l.fn.cx.board) (g.B.Board.waits_at l.cx.board) l.cx.wakes;
  board : g.B.Board.id l.cx.board ≡ g.B.Board.id l.fn.cx.board;
  me : l.cx.me ≡ l.fn.cx.me;
  wakes : KeepsWakes l.fn.cx.wakes l.cx.wakes;
}
