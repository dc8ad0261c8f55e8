use Rattle.std.proofs.Common.{[], ◌∷◌, subst}
use Rattle.morsel_lane_pipe.specs.Tasks.{AreEndsCut}
use Rattle.morsel_lane_pipe.proofs.TaskLemmas.{ends_cut-last, ends_cut-one}
use Rattle.morsel_lane_pipe.proofs.inserting.InsertingStepwiseBoard.cut.Goals as goal

pub returns-clause-cut : goal.returns-clause-cut
returns-clause-cut g c =
    subst (λ p. AreEndsCut g.L.Board.Board.waits_at g.L.Receiver.LaneReceiver.has_cut g.L.Receiver.LaneReceiver.lane c.cut.new.cx.board (g.L.Receiver.LaneReceiver.lane p.from ∷ []) × AreEndsCut g.L.Board.Board.waits_at g.L.Sender.LaneSender.has_cut g.L.Sender.LaneSender.lane c.cut.new.cx.board (g.L.Sender.LaneSender.lane p.to ∷ [])) c.release.ensures.same_passing (
      ends_cut-one g.L.Board.Board.waits_at g.L.Receiver.LaneReceiver.has_cut g.L.Receiver.LaneReceiver.lane c.cut.new.cx.board c.cut.new.cx.wakes c.release.new.self.passing.from c.cut.ensures.from,
      ends_cut-last g.L.Board.Board.waits_at g.L.Sender.LaneSender.has_cut g.L.Sender.LaneSender.lane c.cut.new.cx.board c.cut.new.cx.wakes c.release.new.self.passing.to c.cut.ensures.to,
    )
