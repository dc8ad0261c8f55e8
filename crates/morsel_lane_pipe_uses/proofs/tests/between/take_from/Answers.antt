use Rattle.morsel_lane_pipe_uses.proofs.SiteLemmas.{taken_token}
use Rattle.morsel_lane_pipe_uses.proofs.tests.between.take_from.Goals as goal

pub returns-clause-token : goal.returns-clause-token
returns-clause-token g c = taken_token g.J.LoadJob.suits g.J.LoadJob.holds g.L.Tokens.token_home (g.L.Board.Board.id c.args.cx.now.board).group_table c.args.job.now.value (g.L.Receiver.LaneReceiver.job c.args.end.now) c.try_recv.result c.requires.same_job c.requires.tokens c.try_recv.ensures.suits
