use Rattle.std.proofs.Common.{map, sym, ap, ◌∙◌}
use Rattle.std.proofs.lemmas.List.{length-map}
use Rattle.morsel_ports.specs.Between.{HandingOnKind, InsertingKind}
use Rattle.morsel_ports.specs.Pipes.{pipelines_of}
use Rattle.morsel_ports.proofs.BetweenLemmas.{paired-length}
use Rattle.morsel_ports.proofs.JoinLemmas.{if_ok-on}
use Rattle.morsel_ports.proofs.pipe.PhysicalPipe.tasks.Goals as goal

pub returns-in-NeedsLinearizer-clause-len : goal.returns-in-NeedsLinearizer-clause-len
returns-in-NeedsLinearizer-clause-len g c =
    let lane = g.L.Receiver.LaneReceiver.lane in
    let count = sym (ap pipelines_of c.in-NeedsLinearizer.is) in
    λ _. if_ok-on _ _ c.merged.result c.merged.ensures.merge
    (λ tasks is. paired-length _ tasks.items _ InsertingKind (g.L.Board.Board.id c.args.board.now).lane_table (map lane c.in-NeedsLinearizer.receivers.items) is.0 (pipelines_of c.args.self) is.2 (length-map c.in-NeedsLinearizer.receivers.items lane ∙ count) (is.1 ∙ count))

pub returns-in-NeedsDistributor-clause-len : goal.returns-in-NeedsDistributor-clause-len
returns-in-NeedsDistributor-clause-len g c =
    let lane = g.L.Sender.LaneSender.lane in
    let count = sym (ap pipelines_of c.in-NeedsDistributor.is) in
    λ _. if_ok-on _ _ c.spread.result c.spread.ensures.spread
    (λ tasks is. paired-length _ tasks.items _ HandingOnKind (g.L.Board.Board.id c.args.board.now).lane_table is.0 (map lane c.in-NeedsDistributor.senders.items) (pipelines_of c.args.self) is.2 (is.1 ∙ count) (length-map c.in-NeedsDistributor.senders.items lane ∙ count))
