use Rattle.morsel_ports.specs.Pipes.{pipelines_of, stage_of}
use Rattle.morsel_ports_uses.proofs.PairingLemmas.{made_stage-tasks}
use Rattle.morsel_ports_uses.proofs.pairings.tasks_of_pairing.Goals as goal

pub returns-clause-len : goal.returns-clause-len
returns-clause-len g c =
    made_stage-tasks c.args.pairing.sends_one c.args.pairing.takes_one (stage_of c.in_ok-pipe.pipe) (pipelines_of c.in_ok-pipe.pipe) c.args.pipelines c.in_ok-tasks.tasks.items c.in_ok-pipe.ensures.stage c.in_ok-pipe.ensures.pipelines c.in_ok-tasks.ensures.none c.in_ok-tasks.ensures.len

pub returns-clause-can_poll : goal.returns-clause-can_poll
returns-clause-can_poll g c = (g.L.Board.Board.id c.pipe_between.new.board, c.in_ok-pipe.ensures.same_board, c.in_ok-tasks.ensures.can_poll)
