use Rattle.morsel_lane_pipe.proofs.TaskLemmas.{ends_cut-last}
use Rattle.morsel_end_units.proofs.give_unit.GiveUnitStepwiseBoard.cut.Goals as goal

pub returns-clause-cut : goal.returns-clause-cut
returns-clause-cut g c = (tt, ends_cut-last g.L.Board.Board.waits_at g.L.Sender.LaneSender.has_cut g.L.Sender.LaneSender.lane c.cut.new.cx.board c.cut.new.cx.wakes c.args.self.sending.to c.cut.ensures.cut)
