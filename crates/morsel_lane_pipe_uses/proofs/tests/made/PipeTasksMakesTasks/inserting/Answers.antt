use Rattle.morsel_lane_pipe_uses.proofs.tests.made.PipeTasksMakesTasks.inserting.Goals as goal

pub returns-clause-may_poll : goal.returns-clause-may_poll
returns-clause-may_poll g c = rw c.new-2.ensures (c.in_ok-task.ensures.can_step (g.L.Board.Board.id c.args._board.now) c.requires.home.0 c.requires.tokens)
