use Rattle.std.proofs.Common.{◌≡◌}
use Rattle.morsel_prims.specs.Waiting.{KeepsOthersWaiting}
use Rattle.morsel_prims.specs.Woken.{KeepsWakes}
use Rattle.morsel_lane_pipe.specs.Stepped.{IsOn, places_if}
use Rattle.morsel_lane_pipe.proofs.stepping.SteppingTask.poll.Given as goal

abbrev pub invariant-steps : goal.invariant-steps
invariant-steps g l = record {
  on : IsOn (g.T.Stepwise.can_step (g.B.Board.id l.fn.cx.board)) g.T.Stepwise.seen g.T.Stepwise.fails g.T.Stepwise.leaves l.fn.self.task l.self.task;
  waiting : KeepsOthersWaiting (places_if l.fn.self.task (λ task. (g.T.Stepwise.seen task).places)) l.fn.cx.me (g.B.Board.waits_at l.fn.cx.board) (g.B.Board.waits_at l.cx.board) l.cx.wakes;
  board : g.B.Board.id l.cx.board ≡ g.B.Board.id l.fn.cx.board;
  me : l.cx.me ≡ l.fn.cx.me;
  wakes : KeepsWakes l.fn.cx.wakes l.cx.wakes;
}
