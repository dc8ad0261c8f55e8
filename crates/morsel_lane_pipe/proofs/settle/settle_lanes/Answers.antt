use Rattle.std.proofs.Common.{◌++◌, ◌∷◌, [], map, ap, sym, ◌∙◌, append_assoc}
use Rattle.std.specs.Vec.Iter.{into_iter_items}
use Rattle.morsel_lane_pipe.proofs.SettleLemmas.{agreed_more, home_first, homes_rest, lanes_rest}
use Rattle.morsel_lane_pipe.proofs.settle.settle_lanes.Goals as goal

pub agree-requires-clause-home : goal.agree-requires-clause-home
agree-requires-clause-home g c =
    let same = ap (λ id. id.lane_table) (sym c.lanes.invariant.board) in
    (home_first g.L.Sender.LaneSender.receipt_home (g.L.Board.Board.id c.args.board.now).lane_table (into_iter_items c.lanes.one-iterator) (into_iter_items c.next.new.self) c.in-Some.one c.in-Some.ensures.steps.0 c.lanes.invariant.sent_homes ∙ same, home_first g.L.Receiver.LaneReceiver.receipt_home (g.L.Board.Board.id c.args.board.now).lane_table (into_iter_items c.lanes.others) (into_iter_items c.next-in-lanes.new.self) c.in-Some-next.other c.in-Some-next.ensures.items c.lanes.invariant.taken_homes ∙ same)

pub lanes-preserved : goal.lanes-preserved
lanes-preserved g c = record {
  all = append_assoc c.lanes.yielded (c.in-Some.one ∷ []) (into_iter_items c.next.new.self) ∙ ap (λ xs. c.lanes.yielded ++ xs) (sym c.in-Some.ensures.steps.0) ∙ c.lanes.invariant.all;
  same = agreed_more g.L.Sender.LaneSender.all_sent g.L.Receiver.LaneReceiver.all_taken c.lanes.yielded (into_iter_items c.lanes.others) (into_iter_items c.next-in-lanes.new.self) c.in-Some.one c.in-Some-next.other (map g.L.Receiver.LaneReceiver.all_taken c.args.taken.items) c.in-Some-next.ensures.items c.agree.ensures.same c.lanes.invariant.same;
  lanes = lanes_rest g.L.Sender.LaneSender.receipt_lane g.L.Receiver.LaneReceiver.receipt_lane (into_iter_items c.lanes.one-iterator) (into_iter_items c.next.new.self) (into_iter_items c.lanes.others) (into_iter_items c.next-in-lanes.new.self) c.in-Some.one c.in-Some-next.other c.in-Some.ensures.steps.0 c.in-Some-next.ensures.items c.lanes.invariant.lanes;
  sent_homes = homes_rest g.L.Sender.LaneSender.receipt_home (g.L.Board.Board.id c.args.board.now).lane_table (into_iter_items c.lanes.one-iterator) (into_iter_items c.next.new.self) c.in-Some.one c.in-Some.ensures.steps.0 c.lanes.invariant.sent_homes;
  taken_homes = homes_rest g.L.Receiver.LaneReceiver.receipt_home (g.L.Board.Board.id c.args.board.now).lane_table (into_iter_items c.lanes.others) (into_iter_items c.next-in-lanes.new.self) c.in-Some-next.other c.in-Some-next.ensures.items c.lanes.invariant.taken_homes;
  board = c.agree.ensures.same_board ∙ c.lanes.invariant.board;
}
