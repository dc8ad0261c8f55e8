use Rattle.std.proofs.Common.{sym}
use Rattle.morsel_lane_pipe_uses.proofs.tests.between.merging.Goals as goal

pub new-requires-2-clause-begins : goal.new-requires-2-clause-begins
new-requires-2-clause-begins g c = rw (sym c.in_ok-from.ensures.job) at c.in_ok-from.ensures.begins

pub returns-clause-may_poll : goal.returns-clause-may_poll
returns-clause-may_poll g c = rw c.new-3.ensures (c.in_ok-task.ensures.can_step (g.L.Board.Board.id c.args.board.now) c.requires.of_board.0)
