use Rattle.std.proofs.Common.{ap, sym, ◌∙◌}
use Rattle.morsel_lane_pipe.proofs.SettleLemmas.{homes_on, merged_settled}
use Rattle.morsel_lane_pipe.proofs.settle.settle_merged.Goals as goal

pub settle_lanes-requires-2-clause-homes : goal.settle_lanes-requires-2-clause-homes
settle_lanes-requires-2-clause-homes g c =
    let same = ap (λ id. id.lane_table) c.settle_lanes.ensures.same_board in
    (homes_on g.L.Sender.LaneSender.receipt_home (g.L.Board.Board.id c.args.board.now).lane_table (g.L.Board.Board.id c.settle_lanes.new.board).lane_table c.args.into_sent.items same c.requires.sent_homes.1, homes_on g.L.Receiver.LaneReceiver.receipt_home (g.L.Board.Board.id c.args.board.now).lane_table (g.L.Board.Board.id c.settle_lanes.new.board).lane_table c.args.merged_taken.items same c.requires.taken_homes.1)

pub agree-requires-clause-home : goal.agree-requires-clause-home
agree-requires-clause-home g c =
    let same = ap (λ id. id.lane_table) (c.settle_lanes-2.ensures.same_board ∙ c.settle_lanes.ensures.same_board) in
    (c.requires.sent_homes.2 ∙ sym same, c.requires.taken_homes.2 ∙ sym same)

pub returns-clause-once : goal.returns-clause-once
returns-clause-once g c = (merged_settled g.L.Sender.LaneSender.all_sent g.L.Receiver.LaneReceiver.all_taken c.args.sent.items c.args.into_sent.items c.args.into_taken.items c.args.merged_taken.items c.args.merged_sent c.args.taken c.settle_lanes.ensures.same c.requires.inserted c.settle_lanes-2.ensures.same c.agree.ensures.same c.requires.merged).0

pub returns-clause-in_order : goal.returns-clause-in_order
returns-clause-in_order g c = (merged_settled g.L.Sender.LaneSender.all_sent g.L.Receiver.LaneReceiver.all_taken c.args.sent.items c.args.into_sent.items c.args.into_taken.items c.args.merged_taken.items c.args.merged_sent c.args.taken c.settle_lanes.ensures.same c.requires.inserted c.settle_lanes-2.ensures.same c.agree.ensures.same c.requires.merged).1
