use Rattle.morsel_merge.proofs.AskLemmas.{wakes_next}
use Rattle.morsel_merge.proofs.BoardLemmas.{waits_next}
use Rattle.morsel_lane_pipe.proofs.TaskLemmas.{ends_cut-before, ends_cut-last}
use Rattle.morsel_lane_pipe.proofs.merging.MergingStepwiseBoard.cut.Goals as goal

pub returns-clause-cut : goal.returns-clause-cut
returns-clause-cut g c = (
  ends_cut-before g.L.Board.Board.waits_at g.L.Receiver.LaneReceiver.has_cut g.L.Receiver.LaneReceiver.lane c.cut.new.cx.board c.cut-2.new.cx.board c.cut.new.cx.wakes c.cut-2.new.cx.wakes c.args.self.from.receivers.items c.cut-2.ensures.wakes c.cut-2.ensures.keeps_waiting c.cut.ensures.cut,
  ends_cut-last g.L.Board.Board.waits_at g.L.Sender.LaneSender.has_cut g.L.Sender.LaneSender.lane c.cut-2.new.cx.board c.cut-2.new.cx.wakes c.args.self.to c.cut-2.ensures.cut,
)

pub returns-clause-keeps_waiting : goal.returns-clause-keeps_waiting
returns-clause-keeps_waiting g c = waits_next (g.L.Board.Board.waits_at c.args.cx.now.board) (g.L.Board.Board.waits_at c.cut.new.cx.board) (g.L.Board.Board.waits_at c.cut-2.new.cx.board) c.cut.new.cx.wakes c.cut-2.new.cx.wakes c.cut-2.ensures.wakes c.cut.ensures.keeps_waiting c.cut-2.ensures.keeps_waiting

pub returns-clause-wakes : goal.returns-clause-wakes
returns-clause-wakes g c = wakes_next c.args.cx.now.wakes c.cut.new.cx.wakes c.cut-2.new.cx.wakes c.cut.ensures.wakes c.cut-2.ensures.wakes
