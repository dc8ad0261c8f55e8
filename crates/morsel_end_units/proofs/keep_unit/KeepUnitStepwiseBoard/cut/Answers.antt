use Rattle.morsel_lane_pipe.proofs.TaskLemmas.{ends_cut-last}
use Rattle.morsel_end_units.proofs.keep_unit.KeepUnitStepwiseBoard.cut.Goals as goal

pub returns-clause-cut : goal.returns-clause-cut
returns-clause-cut g c = (ends_cut-last g.L.Board.Board.waits_at g.L.Receiver.LaneReceiver.has_cut g.L.Receiver.LaneReceiver.lane c.cut.new.cx.board c.cut.new.cx.wakes c.args.self.from c.cut.ensures.cut, tt)
