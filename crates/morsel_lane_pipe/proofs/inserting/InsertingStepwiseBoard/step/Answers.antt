use Rattle.std.proofs.Common.{◌++◌}
use Rattle.morsel_lane_pipe.proofs.WaitingLemmas.{wait_left, wait_right, wait_then}
use Rattle.morsel_lane_pipe.proofs.inserting.InsertingStepwiseBoard.step.Goals as goal

pub returns-in-Pending-clause-keeps_waiting : goal.returns-in-Pending-clause-keeps_waiting
returns-in-Pending-clause-keeps_waiting g c = wait_right c.args.cx.now.me (g.L.Board.Board.waits_at c.args.cx.now.board) (g.L.Board.Board.waits_at c.poll_give.new.cx.board) c.poll_give.new.cx.wakes (g.L.Receiver.LaneReceiver.wait_places c.args.self.now.passing.from) (g.L.Sender.LaneSender.wait_places c.args.self.now.passing.to) c.poll_give.ensures.keeps_waiting

pub returns-in-Ready-Ok-clause-keeps_waiting : goal.returns-in-Ready-Ok-clause-keeps_waiting
returns-in-Ready-Ok-clause-keeps_waiting g c =
    wait_then ((g.L.Receiver.LaneReceiver.wait_places c.args.self.now.passing.from) ++ (g.L.Sender.LaneSender.wait_places c.args.self.now.passing.to)) c.args.cx.now.me (g.L.Board.Board.waits_at c.args.cx.now.board) (g.L.Board.Board.waits_at c.poll_give.new.cx.board) (g.L.Board.Board.waits_at c.release.new.cx.board) c.poll_give.new.cx.wakes c.release.new.cx.wakes c.release.ensures.wakes
    (wait_right c.args.cx.now.me (g.L.Board.Board.waits_at c.args.cx.now.board) (g.L.Board.Board.waits_at c.poll_give.new.cx.board) c.poll_give.new.cx.wakes (g.L.Receiver.LaneReceiver.wait_places c.args.self.now.passing.from) (g.L.Sender.LaneSender.wait_places c.args.self.now.passing.to) c.poll_give.ensures.keeps_waiting) c.release.ensures.keeps_waiting

pub returns-in-Ready-Err-clause-keeps_waiting : goal.returns-in-Ready-Err-clause-keeps_waiting
returns-in-Ready-Err-clause-keeps_waiting g c = wait_right c.args.cx.now.me (g.L.Board.Board.waits_at c.args.cx.now.board) (g.L.Board.Board.waits_at c.poll_give.new.cx.board) c.poll_give.new.cx.wakes (g.L.Receiver.LaneReceiver.wait_places c.args.self.now.passing.from) (g.L.Sender.LaneSender.wait_places c.args.self.now.passing.to) c.poll_give.ensures.keeps_waiting

pub returns-in-Pending-poll_take-clause-keeps_waiting : goal.returns-in-Pending-poll_take-clause-keeps_waiting
returns-in-Pending-poll_take-clause-keeps_waiting g c = wait_left c.args.cx.now.me (g.L.Board.Board.waits_at c.args.cx.now.board) (g.L.Board.Board.waits_at c.poll_take.new.cx.board) c.poll_take.new.cx.wakes (g.L.Receiver.LaneReceiver.wait_places c.args.self.now.passing.from) (g.L.Sender.LaneSender.wait_places c.args.self.now.passing.to) c.poll_take.ensures.keeps_waiting

pub returns-in-Ready-Ok-poll_take-clause-keeps_waiting : goal.returns-in-Ready-Ok-poll_take-clause-keeps_waiting
returns-in-Ready-Ok-poll_take-clause-keeps_waiting g c = wait_left c.args.cx.now.me (g.L.Board.Board.waits_at c.args.cx.now.board) (g.L.Board.Board.waits_at c.poll_take.new.cx.board) c.poll_take.new.cx.wakes (g.L.Receiver.LaneReceiver.wait_places c.args.self.now.passing.from) (g.L.Sender.LaneSender.wait_places c.args.self.now.passing.to) c.poll_take.ensures.keeps_waiting

pub returns-in-Ready-Err-Whole-clause-keeps_waiting : goal.returns-in-Ready-Err-Whole-clause-keeps_waiting
returns-in-Ready-Err-Whole-clause-keeps_waiting g c = wait_left c.args.cx.now.me (g.L.Board.Board.waits_at c.args.cx.now.board) (g.L.Board.Board.waits_at c.poll_take.new.cx.board) c.poll_take.new.cx.wakes (g.L.Receiver.LaneReceiver.wait_places c.args.self.now.passing.from) (g.L.Sender.LaneSender.wait_places c.args.self.now.passing.to) c.poll_take.ensures.keeps_waiting

pub returns-in-Ready-Err-Cut-clause-keeps_waiting : goal.returns-in-Ready-Err-Cut-clause-keeps_waiting
returns-in-Ready-Err-Cut-clause-keeps_waiting g c = wait_left c.args.cx.now.me (g.L.Board.Board.waits_at c.args.cx.now.board) (g.L.Board.Board.waits_at c.poll_take.new.cx.board) c.poll_take.new.cx.wakes (g.L.Receiver.LaneReceiver.wait_places c.args.self.now.passing.from) (g.L.Sender.LaneSender.wait_places c.args.self.now.passing.to) c.poll_take.ensures.keeps_waiting
