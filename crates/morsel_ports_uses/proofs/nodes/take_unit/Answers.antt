use Rattle.std.proofs.Common.{◌≡◌, ◌∷◌, [], All, length, ap, sym, subst, ◌∙◌, rules}
use Rattle.std.proofs.lemmas.List.Elements.{All-head}
use Rattle.morsel_ports.specs.declared.node.Ends.TheVariants.{Serial}
use Rattle.morsel_ports.specs.Nodes.{AreUnitsBetween, unit_between}
use Rattle.morsel_ports_uses.proofs.UnitLemmas.{one_unit}
use Rattle.morsel_ports_uses.proofs.nodes.take_unit.Goals as goal

pub returns-clause-unit : goal.returns-clause-unit
returns-clause-unit g c =
    let recv : c.push.new.self.items ≡ Serial c.args.from ∷ [] = search rules in
    let send : c.push-2.new.self.items ≡ Serial c.args.to ∷ [] = search rules in
    let first = subst (λ ends. AreUnitsBetween g.N.ComputeNode.unit_seen (unit_between g.L.Receiver.LaneReceiver.lane g.L.Sender.LaneSender.lane (g.L.Board.Board.id c.args.board.now).lane_table ends c.push-2.new.self.items) ends c.push-2.new.self.items c.in_ok-units.units.items) recv c.in_ok-units.ensures.between in
    let both = subst (λ ends. AreUnitsBetween g.N.ComputeNode.unit_seen (unit_between g.L.Receiver.LaneReceiver.lane g.L.Sender.LaneSender.lane (g.L.Board.Board.id c.args.board.now).lane_table (Serial c.args.from ∷ []) ends) (Serial c.args.from ∷ []) ends c.in_ok-units.units.items) send first in
    let one = one_unit g.N.ComputeNode.unit_seen (unit_between g.L.Receiver.LaneReceiver.lane g.L.Sender.LaneSender.lane (g.L.Board.Board.id c.args.board.now).lane_table (Serial c.args.from ∷ []) (Serial c.args.to ∷ [])) c.args.from c.args.to c.in_ok-units.units.items both in
    let is_unit = All-head (g.N.ComputeNode.is_unit c.take_tasks.new.self) one.0 [] (subst (All (g.N.ComputeNode.is_unit c.take_tasks.new.self)) one.1 c.in_ok-units.ensures.are_units) in
    let can_poll = All-head (g.N.Unit.Task.can_poll (g.L.Board.Board.id c.args.board.now)) one.0 [] (subst (All (g.N.Unit.Task.can_poll (g.L.Board.Board.id c.args.board.now))) one.1 c.in_ok-units.ensures.can_poll) in
    (one.0, one.1, one.2, is_unit, subst (λ id. g.N.Unit.Task.can_poll id one.0) (sym c.in_ok-units.ensures.same_board) can_poll)

pub returns-clause-out : goal.returns-clause-out
returns-clause-out g c =
    let recv : c.push.new.self.items ≡ Serial c.args.from ∷ [] = search rules in
    let send : c.push-2.new.self.items ≡ Serial c.args.to ∷ [] = search rules in
    let first = subst (λ ends. AreUnitsBetween g.N.ComputeNode.unit_seen (unit_between g.L.Receiver.LaneReceiver.lane g.L.Sender.LaneSender.lane (g.L.Board.Board.id c.args.board.now).lane_table ends c.push-2.new.self.items) ends c.push-2.new.self.items c.in_ok-units.units.items) recv c.in_ok-units.ensures.between in
    let both = subst (λ ends. AreUnitsBetween g.N.ComputeNode.unit_seen (unit_between g.L.Receiver.LaneReceiver.lane g.L.Sender.LaneSender.lane (g.L.Board.Board.id c.args.board.now).lane_table (Serial c.args.from ∷ []) ends) (Serial c.args.from ∷ []) ends c.in_ok-units.units.items) send first in
    let one = one_unit g.N.ComputeNode.unit_seen (unit_between g.L.Receiver.LaneReceiver.lane g.L.Sender.LaneSender.lane (g.L.Board.Board.id c.args.board.now).lane_table (Serial c.args.from ∷ []) (Serial c.args.to ∷ [])) c.args.from c.args.to c.in_ok-units.units.items both in
    ap (λ s. s.units) c.in_ok-units.ensures.out ∙ ap length one.1
