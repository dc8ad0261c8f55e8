use Rattle.std.proofs.Common.{ap, ◌∙◌}
use Rattle.morsel_ports.specs.Between.{HandingOnKind, lanes_of_work, passing_task}
use Rattle.morsel_ports.proofs.JoinLemmas.{if_ok-on}
use Rattle.morsel_ports.proofs.joining.HandingOnJoinsEndsBoard.join.Goals as goal

pub returns-clause-lanes : goal.returns-clause-lanes
returns-clause-lanes g c =
    if_ok-on _ _ c.new.result c.new.ensures.seen
    (λ task seen. ap (lanes_of_work HandingOnKind) seen ∙ ap (λ home. passing_task HandingOnKind home (g.L.Receiver.LaneReceiver.lane c.args.from) (g.L.Sender.LaneSender.lane c.args.to)) c.requires.may_join.0)
