use Rattle.std.proofs.Common.{ap, ◌∙◌}
use Rattle.morsel_ports.specs.Between.{InsertingKind, lanes_of_work, passing_task}
use Rattle.morsel_ports.proofs.JoinLemmas.{if_ok-on}
use Rattle.morsel_ports.proofs.joining.InsertingJoinsEndsBoard.join.Goals as goal

pub returns-clause-can_step : goal.returns-clause-can_step
returns-clause-can_step g c = c.new.ensures.can_step (g.L.Board.Board.id c.args._board.now) c.requires.may_join.0 c.requires.may_join.5

pub returns-clause-lanes : goal.returns-clause-lanes
returns-clause-lanes g c =
    if_ok-on _ _ c.new.result c.new.ensures.seen
    (λ task seen. ap (lanes_of_work InsertingKind) seen ∙ ap (λ home. passing_task InsertingKind home (g.L.Receiver.LaneReceiver.lane c.args.from) (g.L.Sender.LaneSender.lane c.args.to.sender)) c.requires.may_join.0)
