use Rattle.morsel_lane_pipe.proofs.TaskLemmas.{ends_cut-last, ends_cut-one}
use Rattle.morsel_flat_units.proofs.flat_unit.FlatUnitStepwiseBoard.cut.Goals as goal

pub returns-clause-cut : goal.returns-clause-cut
returns-clause-cut g c = (
  ends_cut-one g.L.Board.Board.waits_at g.L.Receiver.LaneReceiver.has_cut g.L.Receiver.LaneReceiver.lane c.cut_after.new.cx.board c.cut_after.new.cx.wakes c.args.self.from c.cut_after.ensures.from,
  ends_cut-last g.L.Board.Board.waits_at g.L.Sender.LaneSender.has_cut g.L.Sender.LaneSender.lane c.cut_after.new.cx.board c.cut_after.new.cx.wakes c.args.self.sending.to c.cut_after.ensures.to,
)
