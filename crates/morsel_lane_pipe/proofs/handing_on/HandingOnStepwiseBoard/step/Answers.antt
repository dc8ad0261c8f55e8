use Rattle.std.proofs.Common.{◌++◌}
use Rattle.morsel_lane_pipe.proofs.WaitingLemmas.{wait_left, wait_right, wait_then}
use Rattle.morsel_lane_pipe.proofs.handing_on.HandingOnStepwiseBoard.step.Goals as goal

pub returns-in-Pending-clause-keeps_waiting : goal.returns-in-Pending-clause-keeps_waiting
returns-in-Pending-clause-keeps_waiting g c =
    wait_right c.args.cx.now.me (g.L.Board.Board.waits_at c.args.cx.now.board) (g.L.Board.Board.waits_at c.wait.new.cx.board) c.wait.new.cx.wakes ((g.L.Receiver.LaneReceiver.wait_places c.args.self.now.passing.from) ++ (g.L.Sender.LaneSender.wait_places c.args.self.now.passing.to)) (g.L.Tokens.wait_places c.args.self.now.group) c.wait.ensures.keeps_waiting

pub returns-in-Ready-clause-keeps_waiting : goal.returns-in-Ready-clause-keeps_waiting
returns-in-Ready-clause-keeps_waiting g c =
    wait_right c.args.cx.now.me (g.L.Board.Board.waits_at c.args.cx.now.board) (g.L.Board.Board.waits_at c.wait.new.cx.board) c.wait.new.cx.wakes ((g.L.Receiver.LaneReceiver.wait_places c.args.self.now.passing.from) ++ (g.L.Sender.LaneSender.wait_places c.args.self.now.passing.to)) (g.L.Tokens.wait_places c.args.self.now.group) c.wait.ensures.keeps_waiting

pub returns-in-Pending-poll_give-clause-keeps_waiting : goal.returns-in-Pending-poll_give-clause-keeps_waiting
returns-in-Pending-poll_give-clause-keeps_waiting g c =
    wait_left c.args.cx.now.me (g.L.Board.Board.waits_at c.args.cx.now.board) (g.L.Board.Board.waits_at c.poll_give.new.cx.board) c.poll_give.new.cx.wakes ((g.L.Receiver.LaneReceiver.wait_places c.args.self.now.passing.from) ++ (g.L.Sender.LaneSender.wait_places c.args.self.now.passing.to)) (g.L.Tokens.wait_places c.args.self.now.group) (wait_right c.args.cx.now.me (g.L.Board.Board.waits_at c.args.cx.now.board) (g.L.Board.Board.waits_at c.poll_give.new.cx.board) c.poll_give.new.cx.wakes (g.L.Receiver.LaneReceiver.wait_places c.args.self.now.passing.from) (g.L.Sender.LaneSender.wait_places c.args.self.now.passing.to) c.poll_give.ensures.keeps_waiting)

pub returns-in-Ready-Ok-clause-keeps_waiting : goal.returns-in-Ready-Ok-clause-keeps_waiting
returns-in-Ready-Ok-clause-keeps_waiting g c =
    wait_left c.args.cx.now.me (g.L.Board.Board.waits_at c.args.cx.now.board) (g.L.Board.Board.waits_at c.poll_give.new.cx.board) c.poll_give.new.cx.wakes ((g.L.Receiver.LaneReceiver.wait_places c.args.self.now.passing.from) ++ (g.L.Sender.LaneSender.wait_places c.args.self.now.passing.to)) (g.L.Tokens.wait_places c.args.self.now.group) (wait_right c.args.cx.now.me (g.L.Board.Board.waits_at c.args.cx.now.board) (g.L.Board.Board.waits_at c.poll_give.new.cx.board) c.poll_give.new.cx.wakes (g.L.Receiver.LaneReceiver.wait_places c.args.self.now.passing.from) (g.L.Sender.LaneSender.wait_places c.args.self.now.passing.to) c.poll_give.ensures.keeps_waiting)

pub returns-in-Ready-Err-clause-keeps_waiting : goal.returns-in-Ready-Err-clause-keeps_waiting
returns-in-Ready-Err-clause-keeps_waiting g c =
    wait_left c.args.cx.now.me (g.L.Board.Board.waits_at c.args.cx.now.board) (g.L.Board.Board.waits_at c.poll_give.new.cx.board) c.poll_give.new.cx.wakes ((g.L.Receiver.LaneReceiver.wait_places c.args.self.now.passing.from) ++ (g.L.Sender.LaneSender.wait_places c.args.self.now.passing.to)) (g.L.Tokens.wait_places c.args.self.now.group) (wait_right c.args.cx.now.me (g.L.Board.Board.waits_at c.args.cx.now.board) (g.L.Board.Board.waits_at c.poll_give.new.cx.board) c.poll_give.new.cx.wakes (g.L.Receiver.LaneReceiver.wait_places c.args.self.now.passing.from) (g.L.Sender.LaneSender.wait_places c.args.self.now.passing.to) c.poll_give.ensures.keeps_waiting)

pub returns-in-Pending-poll_take-clause-keeps_waiting : goal.returns-in-Pending-poll_take-clause-keeps_waiting
returns-in-Pending-poll_take-clause-keeps_waiting g c =
    wait_left c.args.cx.now.me (g.L.Board.Board.waits_at c.args.cx.now.board) (g.L.Board.Board.waits_at c.poll_take.new.cx.board) c.poll_take.new.cx.wakes ((g.L.Receiver.LaneReceiver.wait_places c.args.self.now.passing.from) ++ (g.L.Sender.LaneSender.wait_places c.args.self.now.passing.to)) (g.L.Tokens.wait_places c.args.self.now.group) (wait_left c.args.cx.now.me (g.L.Board.Board.waits_at c.args.cx.now.board) (g.L.Board.Board.waits_at c.poll_take.new.cx.board) c.poll_take.new.cx.wakes (g.L.Receiver.LaneReceiver.wait_places c.args.self.now.passing.from) (g.L.Sender.LaneSender.wait_places c.args.self.now.passing.to) c.poll_take.ensures.keeps_waiting)

pub returns-in-Ready-Err-Whole-clause-keeps_waiting : goal.returns-in-Ready-Err-Whole-clause-keeps_waiting
returns-in-Ready-Err-Whole-clause-keeps_waiting g c =
    wait_left c.args.cx.now.me (g.L.Board.Board.waits_at c.args.cx.now.board) (g.L.Board.Board.waits_at c.poll_take.new.cx.board) c.poll_take.new.cx.wakes ((g.L.Receiver.LaneReceiver.wait_places c.args.self.now.passing.from) ++ (g.L.Sender.LaneSender.wait_places c.args.self.now.passing.to)) (g.L.Tokens.wait_places c.args.self.now.group) (wait_left c.args.cx.now.me (g.L.Board.Board.waits_at c.args.cx.now.board) (g.L.Board.Board.waits_at c.poll_take.new.cx.board) c.poll_take.new.cx.wakes (g.L.Receiver.LaneReceiver.wait_places c.args.self.now.passing.from) (g.L.Sender.LaneSender.wait_places c.args.self.now.passing.to) c.poll_take.ensures.keeps_waiting)

pub returns-in-Ready-Err-Cut-clause-keeps_waiting : goal.returns-in-Ready-Err-Cut-clause-keeps_waiting
returns-in-Ready-Err-Cut-clause-keeps_waiting g c =
    wait_left c.args.cx.now.me (g.L.Board.Board.waits_at c.args.cx.now.board) (g.L.Board.Board.waits_at c.poll_take.new.cx.board) c.poll_take.new.cx.wakes ((g.L.Receiver.LaneReceiver.wait_places c.args.self.now.passing.from) ++ (g.L.Sender.LaneSender.wait_places c.args.self.now.passing.to)) (g.L.Tokens.wait_places c.args.self.now.group) (wait_left c.args.cx.now.me (g.L.Board.Board.waits_at c.args.cx.now.board) (g.L.Board.Board.waits_at c.poll_take.new.cx.board) c.poll_take.new.cx.wakes (g.L.Receiver.LaneReceiver.wait_places c.args.self.now.passing.from) (g.L.Sender.LaneSender.wait_places c.args.self.now.passing.to) c.poll_take.ensures.keeps_waiting)

pub returns-after-set_token-clause-keeps_waiting : goal.returns-after-set_token-clause-keeps_waiting
returns-after-set_token-clause-keeps_waiting g c =
    wait_then (((g.L.Receiver.LaneReceiver.wait_places c.args.self.now.passing.from) ++ (g.L.Sender.LaneSender.wait_places c.args.self.now.passing.to)) ++ (g.L.Tokens.wait_places c.args.self.now.group)) c.args.cx.now.me (g.L.Board.Board.waits_at c.args.cx.now.board) (g.L.Board.Board.waits_at c.poll_take.new.cx.board) (g.L.Board.Board.waits_at c.set_token.new.cx.board) c.poll_take.new.cx.wakes c.set_token.new.cx.wakes c.set_token.ensures.wakes
    (wait_left c.args.cx.now.me (g.L.Board.Board.waits_at c.args.cx.now.board) (g.L.Board.Board.waits_at c.poll_take.new.cx.board) c.poll_take.new.cx.wakes ((g.L.Receiver.LaneReceiver.wait_places c.args.self.now.passing.from) ++ (g.L.Sender.LaneSender.wait_places c.args.self.now.passing.to)) (g.L.Tokens.wait_places c.args.self.now.group) (wait_left c.args.cx.now.me (g.L.Board.Board.waits_at c.args.cx.now.board) (g.L.Board.Board.waits_at c.poll_take.new.cx.board) c.poll_take.new.cx.wakes (g.L.Receiver.LaneReceiver.wait_places c.args.self.now.passing.from) (g.L.Sender.LaneSender.wait_places c.args.self.now.passing.to) c.poll_take.ensures.keeps_waiting)) c.set_token.ensures.keeps_waiting
