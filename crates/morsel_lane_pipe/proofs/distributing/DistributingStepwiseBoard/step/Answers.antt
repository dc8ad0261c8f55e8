use Rattle.std.proofs.Common.{◌≡◌, ◌++◌, map, inr}
use Rattle.std.specs.List.{flat_map}
use Rattle.morsel_merge.specs.Ends.{sender_seen}
use Rattle.morsel_lane_pipe.proofs.TaskLemmas.{same_lanes}
use Rattle.morsel_lane_pipe.proofs.WaitingLemmas.{wait_left, wait_right, wait_then}
use Rattle.morsel_lane_pipe.proofs.distributing.DistributingStepwiseBoard.step.Goals as goal

pub returns-in-Pending-clause-same : goal.returns-in-Pending-clause-same
returns-in-Pending-clause-same g c =
    let lanes : map g.L.Sender.LaneSender.lane c.poll_give.new.self.to.lanes.items ≡ map g.L.Sender.LaneSender.lane c.args.self.now.passing.to.lanes.items = same_lanes (sender_seen g.L.Sender.LaneSender.home g.L.Sender.LaneSender.lane g.L.Sender.LaneSender.room g.L.Sender.LaneSender.job g.L.Sender.LaneSender.wait_places) (λ end. end.lane) c.args.self.now.passing.to.lanes.items c.poll_give.new.self.to.lanes.items c.in-Pending.ensures.waits.1.0 in
    let places = c.poll_give.ensures.same_places in
    let from = c.poll_give.ensures.same_from in
    cc (lanes, places, from)

pub returns-in-Ready-Ok-clause-same : goal.returns-in-Ready-Ok-clause-same
returns-in-Ready-Ok-clause-same g c =
    let ok = rw c.in-Ready-Ok.field-0-is at c.in-Ready-Ok.ensures.ok in
    let lanes : map g.L.Sender.LaneSender.lane c.poll_give.new.self.to.lanes.items ≡ map g.L.Sender.LaneSender.lane c.args.self.now.passing.to.lanes.items = same_lanes (sender_seen g.L.Sender.LaneSender.home g.L.Sender.LaneSender.lane g.L.Sender.LaneSender.room g.L.Sender.LaneSender.job g.L.Sender.LaneSender.wait_places) (λ end. end.lane) c.args.self.now.passing.to.lanes.items c.poll_give.new.self.to.lanes.items ok.1.0 in
    let places = c.poll_give.ensures.same_places in
    let from = c.poll_give.ensures.same_from in
    cc (lanes, places, from)

pub returns-in-Ready-Err-clause-same : goal.returns-in-Ready-Err-clause-same
returns-in-Ready-Err-clause-same g c =
    let err = rw c.in-Ready-Err.field-0-is at c.in-Ready-Err.ensures.err in
    let lanes : map g.L.Sender.LaneSender.lane c.poll_give.new.self.to.lanes.items ≡ map g.L.Sender.LaneSender.lane c.args.self.now.passing.to.lanes.items = same_lanes (sender_seen g.L.Sender.LaneSender.home g.L.Sender.LaneSender.lane g.L.Sender.LaneSender.room g.L.Sender.LaneSender.job g.L.Sender.LaneSender.wait_places) (λ end. end.lane) c.args.self.now.passing.to.lanes.items c.poll_give.new.self.to.lanes.items err.1.0 in
    let places = c.poll_give.ensures.same_places in
    let from = c.poll_give.ensures.same_from in
    cc (lanes, places, from)

pub returns-in-Pending-clause-waits : goal.returns-in-Pending-clause-waits
returns-in-Pending-clause-waits g c =
    inr (c.args.self.now.passing.to, c.in-Pending.ensures.waits.0, c.in-Pending.ensures.waits.1)

pub returns-in-Ready-Err-clause-met : goal.returns-in-Ready-Err-clause-met
returns-in-Ready-Err-clause-met g c =
    let err = rw c.in-Ready-Err.field-0-is at c.in-Ready-Err.ensures.err in
    λ _. inr (c.args.self.now.passing.to, err.1)

pub returns-in-Pending-clause-keeps_waiting : goal.returns-in-Pending-clause-keeps_waiting
returns-in-Pending-clause-keeps_waiting g c =
    wait_right c.args.cx.now.me (g.L.Board.Board.waits_at c.args.cx.now.board) (g.L.Board.Board.waits_at c.poll_give.new.cx.board) c.poll_give.new.cx.wakes (g.L.Receiver.LaneReceiver.wait_places c.args.self.now.passing.from) (flat_map g.L.Sender.LaneSender.wait_places c.args.self.now.passing.to.lanes.items) c.poll_give.ensures.keeps_waiting

pub returns-in-Ready-Ok-clause-keeps_waiting : goal.returns-in-Ready-Ok-clause-keeps_waiting
returns-in-Ready-Ok-clause-keeps_waiting g c =
    wait_right c.args.cx.now.me (g.L.Board.Board.waits_at c.args.cx.now.board) (g.L.Board.Board.waits_at c.poll_give.new.cx.board) c.poll_give.new.cx.wakes (g.L.Receiver.LaneReceiver.wait_places c.args.self.now.passing.from) (flat_map g.L.Sender.LaneSender.wait_places c.args.self.now.passing.to.lanes.items) c.poll_give.ensures.keeps_waiting

pub returns-in-Ready-Err-clause-keeps_waiting : goal.returns-in-Ready-Err-clause-keeps_waiting
returns-in-Ready-Err-clause-keeps_waiting g c =
    wait_right c.args.cx.now.me (g.L.Board.Board.waits_at c.args.cx.now.board) (g.L.Board.Board.waits_at c.poll_give.new.cx.board) c.poll_give.new.cx.wakes (g.L.Receiver.LaneReceiver.wait_places c.args.self.now.passing.from) (flat_map g.L.Sender.LaneSender.wait_places c.args.self.now.passing.to.lanes.items) c.poll_give.ensures.keeps_waiting

pub returns-in-Pending-poll_take-clause-keeps_waiting : goal.returns-in-Pending-poll_take-clause-keeps_waiting
returns-in-Pending-poll_take-clause-keeps_waiting g c =
    wait_left c.args.cx.now.me (g.L.Board.Board.waits_at c.args.cx.now.board) (g.L.Board.Board.waits_at c.poll_take.new.cx.board) c.poll_take.new.cx.wakes (g.L.Receiver.LaneReceiver.wait_places c.args.self.now.passing.from) (flat_map g.L.Sender.LaneSender.wait_places c.args.self.now.passing.to.lanes.items) c.poll_take.ensures.keeps_waiting

pub returns-in-Ready-Err-Whole-clause-keeps_waiting : goal.returns-in-Ready-Err-Whole-clause-keeps_waiting
returns-in-Ready-Err-Whole-clause-keeps_waiting g c =
    wait_left c.args.cx.now.me (g.L.Board.Board.waits_at c.args.cx.now.board) (g.L.Board.Board.waits_at c.poll_take.new.cx.board) c.poll_take.new.cx.wakes (g.L.Receiver.LaneReceiver.wait_places c.args.self.now.passing.from) (flat_map g.L.Sender.LaneSender.wait_places c.args.self.now.passing.to.lanes.items) c.poll_take.ensures.keeps_waiting

pub returns-in-Ready-Err-Cut-clause-keeps_waiting : goal.returns-in-Ready-Err-Cut-clause-keeps_waiting
returns-in-Ready-Err-Cut-clause-keeps_waiting g c =
    wait_left c.args.cx.now.me (g.L.Board.Board.waits_at c.args.cx.now.board) (g.L.Board.Board.waits_at c.poll_take.new.cx.board) c.poll_take.new.cx.wakes (g.L.Receiver.LaneReceiver.wait_places c.args.self.now.passing.from) (flat_map g.L.Sender.LaneSender.wait_places c.args.self.now.passing.to.lanes.items) c.poll_take.ensures.keeps_waiting

pub returns-in-Ready-Ok-poll_take-clause-keeps_waiting : goal.returns-in-Ready-Ok-poll_take-clause-keeps_waiting
returns-in-Ready-Ok-poll_take-clause-keeps_waiting g c =
    wait_then ((g.L.Receiver.LaneReceiver.wait_places c.args.self.now.passing.from) ++ (flat_map g.L.Sender.LaneSender.wait_places c.args.self.now.passing.to.lanes.items)) c.args.cx.now.me (g.L.Board.Board.waits_at c.args.cx.now.board) (g.L.Board.Board.waits_at c.poll_take.new.cx.board) (g.L.Board.Board.waits_at c.release_token.new.cx.board) c.poll_take.new.cx.wakes c.release_token.new.cx.wakes c.release_token.ensures.wakes
    (wait_left c.args.cx.now.me (g.L.Board.Board.waits_at c.args.cx.now.board) (g.L.Board.Board.waits_at c.poll_take.new.cx.board) c.poll_take.new.cx.wakes (g.L.Receiver.LaneReceiver.wait_places c.args.self.now.passing.from) (flat_map g.L.Sender.LaneSender.wait_places c.args.self.now.passing.to.lanes.items) c.poll_take.ensures.keeps_waiting) c.release_token.ensures.keeps_waiting
