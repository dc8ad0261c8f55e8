use Rattle.std.proofs.Common.{ap, ◌∙◌}
use Rattle.morsel_lane_pipe.proofs.SettleLemmas.{homes_on, spread_settled}
use Rattle.morsel_lane_pipe.proofs.settle.settle_spread.Goals as goal

pub settle_lanes-requires-clause-homes : goal.settle_lanes-requires-clause-homes
settle_lanes-requires-clause-homes g c =
    let same = ap (λ id. id.lane_table) c.agree.ensures.same_board in
    (homes_on g.L.Sender.LaneSender.receipt_home (g.L.Board.Board.id c.args.board.now).lane_table (g.L.Board.Board.id c.agree.new.board).lane_table c.args.spread_sent.items same c.requires.sent_homes.0, homes_on g.L.Receiver.LaneReceiver.receipt_home (g.L.Board.Board.id c.args.board.now).lane_table (g.L.Board.Board.id c.agree.new.board).lane_table c.args.on_taken.items same c.requires.taken_homes.0)

pub settle_lanes-requires-2-clause-homes : goal.settle_lanes-requires-2-clause-homes
settle_lanes-requires-2-clause-homes g c =
    let same = ap (λ id. id.lane_table) (c.settle_lanes.ensures.same_board ∙ c.agree.ensures.same_board) in
    (homes_on g.L.Sender.LaneSender.receipt_home (g.L.Board.Board.id c.args.board.now).lane_table (g.L.Board.Board.id c.settle_lanes.new.board).lane_table c.args.on_sent.items same c.requires.sent_homes.1, homes_on g.L.Receiver.LaneReceiver.receipt_home (g.L.Board.Board.id c.args.board.now).lane_table (g.L.Board.Board.id c.settle_lanes.new.board).lane_table c.args.taken.items same c.requires.taken_homes.1)

pub returns-clause-once : goal.returns-clause-once
returns-clause-once g c = (spread_settled g.L.Sender.LaneSender.all_sent g.L.Receiver.LaneReceiver.all_taken c.args.sent c.args.spread_taken c.args.spread_sent.items c.args.on_sent.items c.args.on_taken.items c.args.taken.items c.agree.ensures.same c.settle_lanes.ensures.same c.requires.handed_on c.settle_lanes-2.ensures.same c.requires.spread).0

pub returns-clause-in_order : goal.returns-clause-in_order
returns-clause-in_order g c = (spread_settled g.L.Sender.LaneSender.all_sent g.L.Receiver.LaneReceiver.all_taken c.args.sent c.args.spread_taken c.args.spread_sent.items c.args.on_sent.items c.args.on_taken.items c.args.taken.items c.agree.ensures.same c.settle_lanes.ensures.same c.requires.handed_on c.settle_lanes-2.ensures.same c.requires.spread).1
