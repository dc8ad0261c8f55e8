use Rattle.std.proofs.Common.{◌≡◌, ◌∷◌, ◌++◌, [], All, sym, subst, rules}
use Rattle.std.proofs.lemmas.List.Elements.{All-head}
use Rattle.morsel_merge.specs.Ends.{IsNewReceiver}
use Rattle.morsel_lane_pipe.specs.Tasks.{HandsOn, HoldsTokensOf}
use Rattle.morsel_ports_uses.proofs.HandingLemmas.{one-can_poll, one-lanes, one_between-of, one_job}
use Rattle.morsel_ports_uses.proofs.handing.HandingNodeComputeNode.take_tasks.Goals as goal

pub returns-clause-can_poll : goal.returns-clause-can_poll
returns-clause-can_poll g c =
    let id = g.L.Board.Board.id c.args._board.now in
    let jobs = c.requires.jobs in
    let new = one_job (λ job end. IsNewReceiver g.L.Receiver.LaneReceiver.home g.L.Receiver.LaneReceiver.job g.L.Receiver.LaneReceiver.taken g.L.Receiver.LaneReceiver.is_whole g.L.Receiver.LaneReceiver.is_cut id.lane_table job end) c.args.recv.now.items c.take_end-from.result jobs.0 jobs.2.0 c.take_end-from.ensures.end jobs.2.1 jobs.3 in
    let holds = All-head (λ job. HoldsTokensOf g.J.LoadJob.holds g.L.Tokens.token_home job id.group_table) jobs.2.0 [] (subst (All (λ job. HoldsTokensOf g.J.LoadJob.holds g.L.Tokens.token_home job id.group_table)) jobs.2.1 jobs.5) in
    let tokens = subst (λ job. HoldsTokensOf g.J.LoadJob.holds g.L.Tokens.token_home job id.group_table) (sym new.1) holds in
    let pushed : c.push.new.self.items ≡ c.new-2.result ∷ [] = search rules in
    one-can_poll (λ unit. unit.task) _ c.push.new.self.items c.new-2.result c.in_ok-unit.unit pushed c.new-2.ensures (c.in_ok-unit.ensures.can_step id new.0 tokens)

pub returns-clause-between : goal.returns-clause-between
returns-clause-between g c =
    let id = g.L.Board.Board.id c.args._board.now in
    let jobs = c.requires.jobs in
    let new = one_job (λ job end. IsNewReceiver g.L.Receiver.LaneReceiver.home g.L.Receiver.LaneReceiver.job g.L.Receiver.LaneReceiver.taken g.L.Receiver.LaneReceiver.is_whole g.L.Receiver.LaneReceiver.is_cut id.lane_table job end) c.args.recv.now.items c.take_end-from.result jobs.0 jobs.2.0 c.take_end-from.ensures.end jobs.2.1 jobs.3 in
    let pushed : c.push.new.self.items ≡ c.new-2.result ∷ [] = search rules in
    one_between-of _ g.L.Receiver.LaneReceiver.lane g.L.Sender.LaneSender.lane id.lane_table c.take_end-from.result c.take_end-sender.result c.new-2.result c.args.recv.now.items c.args.send.now.items c.push.new.self.items c.take_end-from.ensures.end c.take_end-sender.ensures.end pushed
    (one-lanes (λ task. record {
      work = HandsOn;
      home = g.L.Receiver.LaneReceiver.home task.passing.from;
      from = g.L.Receiver.LaneReceiver.lane task.passing.from ∷ [];
      to = g.L.Sender.LaneSender.lane task.passing.to ∷ [];
      places = g.L.Receiver.LaneReceiver.wait_places task.passing.from ++ g.L.Sender.LaneSender.wait_places task.passing.to;
    }) c.new-2.result.task c.in_ok-unit.unit _ _ id.lane_table _ _ _ c.new-2.ensures c.in_ok-unit.ensures.seen new.0)
