use Rattle.std.proofs.Common.{sym}
use Rattle.morsel_lane_pipe_uses.proofs.tests.between.distributing.Goals as goal

pub returns-clause-may_poll : goal.returns-clause-may_poll
returns-clause-may_poll g c = rw c.new-2.ensures (c.in_ok-task.ensures.can_step (g.L.Board.Board.id c.args.board.now) c.requires.of_board.0 (rw (sym c.requires.of_board.1) at c.requires.tokens))
