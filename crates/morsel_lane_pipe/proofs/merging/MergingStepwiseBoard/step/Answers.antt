use Rattle.std.proofs.Common.{◌≡◌, ◌∷◌, [], ◌++◌, None, map, sym, ap, subst, ◌∙◌, inl}
use Rattle.std.specs.List.{flat_map}
use Rattle.std.specs.Option.{IfSome}
use Rattle.std.proofs.lemmas.List.{append-nil}
use Rattle.morsel_prims.specs.Polled.{held_list}
use Rattle.morsel_load.specs.Loads.{held_token, load_seen}
use Rattle.morsel_load.specs.declared.load.Load.{Load}
use Rattle.morsel_merge.specs.Ends.{receiver_seen}
use Rattle.morsel_merge.specs.Merging.{IsMerged}
use Rattle.morsel_lane_pipe.specs.Tasks.{by_seq}
use Rattle.morsel_lane_pipe.proofs.TaskLemmas.{same_lanes}
use Rattle.morsel_lane_pipe.proofs.MergingLemmas.{held_none, merging_on, same_places_all, sent_alone}
use Rattle.morsel_lane_pipe.proofs.WaitingLemmas.{wait_left, wait_right}
use Rattle.morsel_lane_pipe.proofs.merging.MergingStepwiseBoard.step.Given.{Over}
use Rattle.morsel_lane_pipe.proofs.merging.MergingStepwiseBoard.step.Goals.{After-poll_get}
use Rattle.morsel_lane_pipe.proofs.merging.MergingStepwiseBoard.step.Goals as goal

module _ (g : Over) where
  abbrev suits : g.row.J.Denot → Load g.row.L-Token.Denot g.row.J.Denot → Type 0
  suits job load = g.J.LoadJob.suits job (load_seen load) × IfSome (held_token load) (g.J.LoadJob.holds job)

  module _ (c : After-poll_get g) where
    -- nothing was held, and all that was given was sent
    none : c.args.self.now.held ≡ None
    none = held_none c.args.self.now.held c.if-is_some.ensures

    alone : g.L.Sender.LaneSender.sent c.args.self.now.to ++ held_list c.args.self.now.held ≡ g.L.Sender.LaneSender.sent c.args.self.now.to
    alone = sent_alone (g.L.Sender.LaneSender.sent c.args.self.now.to) c.args.self.now.held none

    job : c.poll_get.new.self.job.value ≡ c.args.self.now.from.job.value
    job = ap (λ j. j.value) c.poll_get.ensures.same_job

    lanes : map g.L.Receiver.LaneReceiver.lane c.poll_get.new.self.receivers.items ≡ map g.L.Receiver.LaneReceiver.lane c.args.self.now.from.receivers.items
    lanes = same_lanes (receiver_seen g.L.Receiver.LaneReceiver.home g.L.Receiver.LaneReceiver.lane g.L.Receiver.LaneReceiver.job g.L.Receiver.LaneReceiver.wait_places) (λ end. end.lane) c.args.self.now.from.receivers.items c.poll_get.new.self.receivers.items c.poll_get.ensures.seen

    places : flat_map g.L.Receiver.LaneReceiver.wait_places c.poll_get.new.self.receivers.items ≡ flat_map g.L.Receiver.LaneReceiver.wait_places c.args.self.now.from.receivers.items
    places = same_places_all (receiver_seen g.L.Receiver.LaneReceiver.home g.L.Receiver.LaneReceiver.lane g.L.Receiver.LaneReceiver.job g.L.Receiver.LaneReceiver.wait_places) (λ end. end.places) c.args.self.now.from.receivers.items c.poll_get.new.self.receivers.items c.poll_get.ensures.seen

pub returns-in-Pending-clause-keeps_waiting : goal.returns-in-Pending-clause-keeps_waiting
returns-in-Pending-clause-keeps_waiting g c =
    wait_right c.args.cx.now.me (g.L.Board.Board.waits_at c.args.cx.now.board) (g.L.Board.Board.waits_at c.poll_send.new.cx.board) c.poll_send.new.cx.wakes (flat_map g.L.Receiver.LaneReceiver.wait_places c.args.self.now.from.receivers.items) (g.L.Sender.LaneSender.wait_places c.args.self.now.to) c.poll_send.ensures.keeps_waiting

pub returns-in-Ready-Ok-clause-keeps_waiting : goal.returns-in-Ready-Ok-clause-keeps_waiting
returns-in-Ready-Ok-clause-keeps_waiting g c =
    wait_right c.args.cx.now.me (g.L.Board.Board.waits_at c.args.cx.now.board) (g.L.Board.Board.waits_at c.poll_send.new.cx.board) c.poll_send.new.cx.wakes (flat_map g.L.Receiver.LaneReceiver.wait_places c.args.self.now.from.receivers.items) (g.L.Sender.LaneSender.wait_places c.args.self.now.to) c.poll_send.ensures.keeps_waiting

pub returns-in-Ready-Err-clause-keeps_waiting : goal.returns-in-Ready-Err-clause-keeps_waiting
returns-in-Ready-Err-clause-keeps_waiting g c =
    wait_right c.args.cx.now.me (g.L.Board.Board.waits_at c.args.cx.now.board) (g.L.Board.Board.waits_at c.poll_send.new.cx.board) c.poll_send.new.cx.wakes (flat_map g.L.Receiver.LaneReceiver.wait_places c.args.self.now.from.receivers.items) (g.L.Sender.LaneSender.wait_places c.args.self.now.to) c.poll_send.ensures.keeps_waiting

pub returns-in-Pending-poll_get-clause-keeps_waiting : goal.returns-in-Pending-poll_get-clause-keeps_waiting
returns-in-Pending-poll_get-clause-keeps_waiting g c =
    wait_left c.args.cx.now.me (g.L.Board.Board.waits_at c.args.cx.now.board) (g.L.Board.Board.waits_at c.poll_get.new.cx.board) c.poll_get.new.cx.wakes (flat_map g.L.Receiver.LaneReceiver.wait_places c.args.self.now.from.receivers.items) (g.L.Sender.LaneSender.wait_places c.args.self.now.to) c.poll_get.ensures.keeps_waiting

pub returns-in-Ready-Item-clause-keeps_waiting : goal.returns-in-Ready-Item-clause-keeps_waiting
returns-in-Ready-Item-clause-keeps_waiting g c =
    wait_left c.args.cx.now.me (g.L.Board.Board.waits_at c.args.cx.now.board) (g.L.Board.Board.waits_at c.poll_get.new.cx.board) c.poll_get.new.cx.wakes (flat_map g.L.Receiver.LaneReceiver.wait_places c.args.self.now.from.receivers.items) (g.L.Sender.LaneSender.wait_places c.args.self.now.to) c.poll_get.ensures.keeps_waiting

pub returns-in-Ready-End-clause-keeps_waiting : goal.returns-in-Ready-End-clause-keeps_waiting
returns-in-Ready-End-clause-keeps_waiting g c =
    wait_left c.args.cx.now.me (g.L.Board.Board.waits_at c.args.cx.now.board) (g.L.Board.Board.waits_at c.poll_get.new.cx.board) c.poll_get.new.cx.wakes (flat_map g.L.Receiver.LaneReceiver.wait_places c.args.self.now.from.receivers.items) (g.L.Sender.LaneSender.wait_places c.args.self.now.to) c.poll_get.ensures.keeps_waiting

pub returns-in-Ready-Cut-clause-keeps_waiting : goal.returns-in-Ready-Cut-clause-keeps_waiting
returns-in-Ready-Cut-clause-keeps_waiting g c =
    wait_left c.args.cx.now.me (g.L.Board.Board.waits_at c.args.cx.now.board) (g.L.Board.Board.waits_at c.poll_get.new.cx.board) c.poll_get.new.cx.wakes (flat_map g.L.Receiver.LaneReceiver.wait_places c.args.self.now.from.receivers.items) (g.L.Sender.LaneSender.wait_places c.args.self.now.to) c.poll_get.ensures.keeps_waiting

pub returns-in-Pending-poll_get-clause-again : goal.returns-in-Pending-poll_get-clause-again
returns-in-Pending-poll_get-clause-again g c =
    let at = (goal.at.returns-in-Pending-poll_get-clause-again g c).After-poll_get in
    let can = c.requires.can_step in
    let merging = (c.in-Pending-poll_get.ensures.merging (g.L.Sender.LaneSender.sent c.args.self.now.to ++ held_list c.args.self.now.held) can.4) in (
      ap (λ b. (g.L.Board.Board.id b.value).lane_table) c.poll_get.ensures.same_home ∙ can.0,
      can.1,
      can.2 ∙ sym (job g at),
      subst (λ j. IfSome c.args.self.now.held (suits g j)) (sym (job g at)) can.3,
      merging_on by_seq (suits g) c.args.self.now.from.job.value c.poll_get.new.self.job.value (map g.L.Receiver.LaneReceiver.taken c.poll_get.new.self.receivers.items) c.poll_get.new.self.held.items c.poll_get.new.self.from c.poll_get.new.self.to ((g.L.Sender.LaneSender.sent c.args.self.now.to ++ held_list c.args.self.now.held) ++ []) (g.L.Sender.LaneSender.sent c.args.self.now.to ++ held_list c.args.self.now.held) (job g at) (append-nil (g.L.Sender.LaneSender.sent c.args.self.now.to ++ held_list c.args.self.now.held)) merging,
    )

pub returns-in-Ready-End-clause-again : goal.returns-in-Ready-End-clause-again
returns-in-Ready-End-clause-again g c =
    let at = (goal.at.returns-in-Ready-End-clause-again g c).After-poll_get in
    let can = c.requires.can_step in
    let merging = (rw c.in-Ready-End.field-0-is at (c.in-Ready-End.ensures.merging (g.L.Sender.LaneSender.sent c.args.self.now.to ++ held_list c.args.self.now.held) can.4)) in (
      ap (λ b. (g.L.Board.Board.id b.value).lane_table) c.poll_get.ensures.same_home ∙ can.0,
      can.1,
      can.2 ∙ sym (job g at),
      subst (λ j. IfSome c.args.self.now.held (suits g j)) (sym (job g at)) can.3,
      merging_on by_seq (suits g) c.args.self.now.from.job.value c.poll_get.new.self.job.value (map g.L.Receiver.LaneReceiver.taken c.poll_get.new.self.receivers.items) c.poll_get.new.self.held.items c.poll_get.new.self.from c.poll_get.new.self.to ((g.L.Sender.LaneSender.sent c.args.self.now.to ++ held_list c.args.self.now.held) ++ []) (g.L.Sender.LaneSender.sent c.args.self.now.to ++ held_list c.args.self.now.held) (job g at) (append-nil (g.L.Sender.LaneSender.sent c.args.self.now.to ++ held_list c.args.self.now.held)) merging,
    )

pub returns-in-Ready-Cut-clause-again : goal.returns-in-Ready-Cut-clause-again
returns-in-Ready-Cut-clause-again g c =
    let at = (goal.at.returns-in-Ready-Cut-clause-again g c).After-poll_get in
    let can = c.requires.can_step in
    let merging = (rw c.in-Ready-Cut.field-0-is at (c.in-Ready-Cut.ensures.merging (g.L.Sender.LaneSender.sent c.args.self.now.to ++ held_list c.args.self.now.held) can.4)) in (
      ap (λ b. (g.L.Board.Board.id b.value).lane_table) c.poll_get.ensures.same_home ∙ can.0,
      can.1,
      can.2 ∙ sym (job g at),
      subst (λ j. IfSome c.args.self.now.held (suits g j)) (sym (job g at)) can.3,
      merging_on by_seq (suits g) c.args.self.now.from.job.value c.poll_get.new.self.job.value (map g.L.Receiver.LaneReceiver.taken c.poll_get.new.self.receivers.items) c.poll_get.new.self.held.items c.poll_get.new.self.from c.poll_get.new.self.to ((g.L.Sender.LaneSender.sent c.args.self.now.to ++ held_list c.args.self.now.held) ++ []) (g.L.Sender.LaneSender.sent c.args.self.now.to ++ held_list c.args.self.now.held) (job g at) (append-nil (g.L.Sender.LaneSender.sent c.args.self.now.to ++ held_list c.args.self.now.held)) merging,
    )

pub returns-in-Ready-Item-clause-again : goal.returns-in-Ready-Item-clause-again
returns-in-Ready-Item-clause-again g c =
    let at = (goal.at.returns-in-Ready-Item-clause-again g c).After-poll_get in
    let can = c.requires.can_step in
    let merging = (rw c.in-Ready-Item.field-0-is at (c.in-Ready-Item.ensures.merging (g.L.Sender.LaneSender.sent c.args.self.now.to ++ held_list c.args.self.now.held) can.4)) in
    let fits = rw c.in-Ready-Item.field-0-is at (c.in-Ready-Item.ensures.suits (g.L.Sender.LaneSender.sent c.args.self.now.to ++ held_list c.args.self.now.held) can.4) in (
      ap (λ b. (g.L.Board.Board.id b.value).lane_table) c.poll_get.ensures.same_home ∙ can.0,
      can.1,
      can.2 ∙ sym (job g at),
      subst (λ j. suits g j c.in-Ready-Item.load) (sym (job g at)) fits,
      merging_on by_seq (suits g) c.args.self.now.from.job.value c.poll_get.new.self.job.value (map g.L.Receiver.LaneReceiver.taken c.poll_get.new.self.receivers.items) c.poll_get.new.self.held.items c.poll_get.new.self.from c.poll_get.new.self.to ((g.L.Sender.LaneSender.sent c.args.self.now.to ++ held_list c.args.self.now.held) ++ c.in-Ready-Item.load ∷ []) (g.L.Sender.LaneSender.sent c.args.self.now.to ++ c.in-Ready-Item.load ∷ []) (job g at) (ap (λ xs. xs ++ c.in-Ready-Item.load ∷ []) (alone g at)) merging,
    )

pub returns-in-Pending-poll_get-clause-same : goal.returns-in-Pending-poll_get-clause-same
returns-in-Pending-poll_get-clause-same g c =
    let at = (goal.at.returns-in-Pending-poll_get-clause-same g c).After-poll_get in
    let one = lanes g at in
    let two = places g at in
    cc (one, two)

pub returns-in-Ready-Item-clause-same : goal.returns-in-Ready-Item-clause-same
returns-in-Ready-Item-clause-same g c =
    let at = (goal.at.returns-in-Ready-Item-clause-same g c).After-poll_get in
    let one = lanes g at in
    let two = places g at in
    cc (one, two)

pub returns-in-Ready-End-clause-same : goal.returns-in-Ready-End-clause-same
returns-in-Ready-End-clause-same g c =
    let at = (goal.at.returns-in-Ready-End-clause-same g c).After-poll_get in
    let one = lanes g at in
    let two = places g at in
    cc (one, two)

pub returns-in-Ready-Cut-clause-same : goal.returns-in-Ready-Cut-clause-same
returns-in-Ready-Cut-clause-same g c =
    let at = (goal.at.returns-in-Ready-Cut-clause-same g c).After-poll_get in
    let one = lanes g at in
    let two = places g at in
    cc (one, two)

pub returns-in-Pending-poll_get-clause-waits : goal.returns-in-Pending-poll_get-clause-waits
returns-in-Pending-poll_get-clause-waits g c =
    inl (λ d. (_, c.in-Pending-poll_get.ensures.registered d, c.in-Pending-poll_get.ensures.empty d))

pub returns-in-Ready-End-clause-done : goal.returns-in-Ready-End-clause-done
returns-in-Ready-End-clause-done g c =
    let at = (goal.at.returns-in-Ready-End-clause-done g c).After-poll_get in
    λ _. (c.in-Ready-End.ensures.ended c.in-Ready-End.field-0-is, subst (λ xs. IsMerged by_seq (map g.L.Receiver.LaneReceiver.taken c.poll_get.new.self.receivers.items) xs) (alone g at) (c.in-Ready-End.ensures.merged c.in-Ready-End.field-0-is (g.L.Sender.LaneSender.sent c.args.self.now.to ++ held_list c.args.self.now.held) c.requires.can_step.4))
