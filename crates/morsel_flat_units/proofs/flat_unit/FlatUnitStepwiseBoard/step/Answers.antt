use Rattle.morsel_lane_pipe.proofs.WaitingLemmas.{wait_left, wait_right}
use Rattle.morsel_flat_units.proofs.flat_unit.FlatUnitStepwiseBoard.step.Goals as goal

pub returns-in-Pending-clause-keeps_waiting : goal.returns-in-Pending-clause-keeps_waiting
returns-in-Pending-clause-keeps_waiting g c = wait_right c.args.cx.now.me (g.L.Board.Board.waits_at c.args.cx.now.board) (g.L.Board.Board.waits_at c.poll_give.new.cx.board) c.poll_give.new.cx.wakes (g.L.Receiver.LaneReceiver.wait_places c.args.self.now.from) (g.L.Sender.LaneSender.wait_places c.args.self.now.sending.to) c.poll_give.ensures.keeps_waiting

pub returns-in-Ready-Ok-clause-keeps_waiting : goal.returns-in-Ready-Ok-clause-keeps_waiting
returns-in-Ready-Ok-clause-keeps_waiting g c = wait_right c.args.cx.now.me (g.L.Board.Board.waits_at c.args.cx.now.board) (g.L.Board.Board.waits_at c.poll_give.new.cx.board) c.poll_give.new.cx.wakes (g.L.Receiver.LaneReceiver.wait_places c.args.self.now.from) (g.L.Sender.LaneSender.wait_places c.args.self.now.sending.to) c.poll_give.ensures.keeps_waiting

pub returns-in-Ready-Err-clause-keeps_waiting : goal.returns-in-Ready-Err-clause-keeps_waiting
returns-in-Ready-Err-clause-keeps_waiting g c = wait_right c.args.cx.now.me (g.L.Board.Board.waits_at c.args.cx.now.board) (g.L.Board.Board.waits_at c.poll_give.new.cx.board) c.poll_give.new.cx.wakes (g.L.Receiver.LaneReceiver.wait_places c.args.self.now.from) (g.L.Sender.LaneSender.wait_places c.args.self.now.sending.to) c.poll_give.ensures.keeps_waiting

pub returns-in-Pending-poll_recv-clause-keeps_waiting : goal.returns-in-Pending-poll_recv-clause-keeps_waiting
returns-in-Pending-poll_recv-clause-keeps_waiting g c = wait_left c.args.cx.now.me (g.L.Board.Board.waits_at c.args.cx.now.board) (g.L.Board.Board.waits_at c.poll_recv.new.cx.board) c.poll_recv.new.cx.wakes (g.L.Receiver.LaneReceiver.wait_places c.args.self.now.from) (g.L.Sender.LaneSender.wait_places c.args.self.now.sending.to) c.poll_recv.ensures.keeps_waiting

pub returns-in-Ready-Ok-poll_recv-clause-keeps_waiting : goal.returns-in-Ready-Ok-poll_recv-clause-keeps_waiting
returns-in-Ready-Ok-poll_recv-clause-keeps_waiting g c = wait_left c.args.cx.now.me (g.L.Board.Board.waits_at c.args.cx.now.board) (g.L.Board.Board.waits_at c.poll_recv.new.cx.board) c.poll_recv.new.cx.wakes (g.L.Receiver.LaneReceiver.wait_places c.args.self.now.from) (g.L.Sender.LaneSender.wait_places c.args.self.now.sending.to) c.poll_recv.ensures.keeps_waiting

pub returns-in-Ready-Err-Whole-clause-keeps_waiting : goal.returns-in-Ready-Err-Whole-clause-keeps_waiting
returns-in-Ready-Err-Whole-clause-keeps_waiting g c = wait_left c.args.cx.now.me (g.L.Board.Board.waits_at c.args.cx.now.board) (g.L.Board.Board.waits_at c.poll_recv.new.cx.board) c.poll_recv.new.cx.wakes (g.L.Receiver.LaneReceiver.wait_places c.args.self.now.from) (g.L.Sender.LaneSender.wait_places c.args.self.now.sending.to) c.poll_recv.ensures.keeps_waiting

pub returns-in-Ready-Err-Cut-clause-keeps_waiting : goal.returns-in-Ready-Err-Cut-clause-keeps_waiting
returns-in-Ready-Err-Cut-clause-keeps_waiting g c = wait_left c.args.cx.now.me (g.L.Board.Board.waits_at c.args.cx.now.board) (g.L.Board.Board.waits_at c.poll_recv.new.cx.board) c.poll_recv.new.cx.wakes (g.L.Receiver.LaneReceiver.wait_places c.args.self.now.from) (g.L.Sender.LaneSender.wait_places c.args.self.now.sending.to) c.poll_recv.ensures.keeps_waiting
