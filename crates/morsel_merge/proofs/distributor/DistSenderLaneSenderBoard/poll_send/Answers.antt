use Rattle.std.proofs.Common.{◌≡◌, ◌≤◌, List, map, refl, sym, ap, subst, ◌∙◌}
use Rattle.std.specs.List.{flat_map}
use Rattle.std.specs.Vec.{with_items}
use Rattle.std.proofs.lemmas.List.{with_items_is}
use Rattle.morsel_prims.specs.Polled.{IfClosed, IfFull}
use Rattle.morsel_prims.specs.Woken.{AreFoundWoken}
use Rattle.morsel_merge.specs.Boards.{OnEarlier, OnLater}
use Rattle.morsel_merge.specs.Ends.{sender_seen}
use Rattle.morsel_merge.specs.Spread.{AreFull, AreSameLanes, AreSent, EachLane, IsAwaited, IsFoundLast, IsLook, LastLane, SomeLane}
use Rattle.morsel_merge.proofs.SearchLemmas.{places_seen, rooms_seen}
use Rattle.morsel_merge.proofs.SpreadLemmas.{seen_still}
use Rattle.morsel_merge.proofs.distributor.DistSenderLaneSenderBoard.poll_send.Given.{Over}
use Rattle.morsel_merge.proofs.distributor.DistSenderLaneSenderBoard.poll_send.Goals.{After-poll_lanes}
use Rattle.morsel_merge.proofs.distributor.DistSenderLaneSenderBoard.poll_send.Goals as goal

module _ (g : Over) (c : After-poll_lanes g) where
  items : (with_items c.args.self.now.lanes c.poll_lanes.new.lanes).items ≡ c.poll_lanes.new.lanes
  items = with_items_is c.args.self.now.lanes c.poll_lanes.new.lanes (c.poll_lanes.ensures.long ∙ c.deref_mut.ensures.len)

  -- a fact of the lanes before and after, of the sender before and after
  both : (P : List g.row.M-Sender.Denot → List g.row.M-Sender.Denot → Type 0) → P c.deref_mut.result.now c.poll_lanes.new.lanes → P c.args.self.now.lanes.items (with_items c.args.self.now.lanes c.poll_lanes.new.lanes).items
  both P fact = subst (λ xs. P c.args.self.now.lanes.items xs) (sym items) (subst (λ xs. P xs c.poll_lanes.new.lanes) c.deref_mut.ensures.value fact)

  same : AreSameLanes (sender_seen g.M.Sender.LaneSender.home g.M.Sender.LaneSender.lane g.M.Sender.LaneSender.room g.M.Sender.LaneSender.job g.M.Sender.LaneSender.wait_places) c.args.self.now.lanes.items (with_items c.args.self.now.lanes c.poll_lanes.new.lanes).items
  same = both (λ olds news. map (sender_seen g.M.Sender.LaneSender.home g.M.Sender.LaneSender.lane g.M.Sender.LaneSender.room g.M.Sender.LaneSender.job g.M.Sender.LaneSender.wait_places) news ≡ map (sender_seen g.M.Sender.LaneSender.home g.M.Sender.LaneSender.lane g.M.Sender.LaneSender.room g.M.Sender.LaneSender.job g.M.Sender.LaneSender.wait_places) olds) c.poll_lanes.ensures.seen

pub invariant_of-self-clause-homes : goal.invariant_of-self-clause-homes
invariant_of-self-clause-homes g c = seen_still (λ e. e.home ≡ (g.M.Board.Board.id c.args.self.now.board.value).lane_table) (sender_seen g.M.Sender.LaneSender.home g.M.Sender.LaneSender.lane g.M.Sender.LaneSender.room g.M.Sender.LaneSender.job g.M.Sender.LaneSender.wait_places) c.args.self.now.lanes.items (with_items c.args.self.now.lanes c.poll_lanes.new.lanes).items (same g ((goal.at.invariant_of-self-clause-homes g c).After-poll_lanes)) c.args.self.now.homes

pub invariant_of-self-clause-jobs : goal.invariant_of-self-clause-jobs
invariant_of-self-clause-jobs g c = seen_still (λ e. e.job ≡ c.args.self.now.job.value) (sender_seen g.M.Sender.LaneSender.home g.M.Sender.LaneSender.lane g.M.Sender.LaneSender.room g.M.Sender.LaneSender.job g.M.Sender.LaneSender.wait_places) c.args.self.now.lanes.items (with_items c.args.self.now.lanes c.poll_lanes.new.lanes).items (same g ((goal.at.invariant_of-self-clause-jobs g c).After-poll_lanes)) c.args.self.now.jobs

pub invariant_of-self-clause-rooms : goal.invariant_of-self-clause-rooms
invariant_of-self-clause-rooms g c = seen_still (λ e. e.room ≤ 65536) (sender_seen g.M.Sender.LaneSender.home g.M.Sender.LaneSender.lane g.M.Sender.LaneSender.room g.M.Sender.LaneSender.job g.M.Sender.LaneSender.wait_places) c.args.self.now.lanes.items (with_items c.args.self.now.lanes c.poll_lanes.new.lanes).items (same g ((goal.at.invariant_of-self-clause-rooms g c).After-poll_lanes)) c.args.self.now.rooms

pub invariant_of-self-clause-sent : goal.invariant_of-self-clause-sent
invariant_of-self-clause-sent g c =
    both g ((goal.at.invariant_of-self-clause-sent g c).After-poll_lanes) (λ olds news. AreSent (map g.M.Sender.LaneSender.sent olds) c.args.self.now.log.seat.me.0 → AreSent (map g.M.Sender.LaneSender.sent news) c.poll_lanes.new.log.seat.me.0) c.poll_lanes.ensures.sent c.args.self.now.sent

pub returns-in-Ok-clause-same_end : goal.returns-in-Ok-clause-same_end
returns-in-Ok-clause-same_end g c =
    let at = (goal.at.returns-in-Ok-clause-same_end g c).After-poll_lanes in
    (refl, ap (λ t. record { table = t; place = 0 }) c.poll_lanes.ensures.same_table, rooms_seen (sender_seen g.M.Sender.LaneSender.home g.M.Sender.LaneSender.lane g.M.Sender.LaneSender.room g.M.Sender.LaneSender.job g.M.Sender.LaneSender.wait_places) (λ e. e.room) c.args.self.now.lanes.items (with_items c.args.self.now.lanes c.poll_lanes.new.lanes).items (same g at), refl, places_seen (sender_seen g.M.Sender.LaneSender.home g.M.Sender.LaneSender.lane g.M.Sender.LaneSender.room g.M.Sender.LaneSender.job g.M.Sender.LaneSender.wait_places) (λ e. e.places) c.args.self.now.lanes.items (with_items c.args.self.now.lanes c.poll_lanes.new.lanes).items (same g at))

pub returns-in-Err-Closed-clause-same_end : goal.returns-in-Err-Closed-clause-same_end
returns-in-Err-Closed-clause-same_end g c =
    let at = (goal.at.returns-in-Err-Closed-clause-same_end g c).After-poll_lanes in
    (refl, ap (λ t. record { table = t; place = 0 }) c.poll_lanes.ensures.same_table, rooms_seen (sender_seen g.M.Sender.LaneSender.home g.M.Sender.LaneSender.lane g.M.Sender.LaneSender.room g.M.Sender.LaneSender.job g.M.Sender.LaneSender.wait_places) (λ e. e.room) c.args.self.now.lanes.items (with_items c.args.self.now.lanes c.poll_lanes.new.lanes).items (same g at), refl, places_seen (sender_seen g.M.Sender.LaneSender.home g.M.Sender.LaneSender.lane g.M.Sender.LaneSender.room g.M.Sender.LaneSender.job g.M.Sender.LaneSender.wait_places) (λ e. e.places) c.args.self.now.lanes.items (with_items c.args.self.now.lanes c.poll_lanes.new.lanes).items (same g at))

pub returns-in-Err-Full-clause-same_end : goal.returns-in-Err-Full-clause-same_end
returns-in-Err-Full-clause-same_end g c =
    let at = (goal.at.returns-in-Err-Full-clause-same_end g c).After-poll_lanes in
    (refl, ap (λ t. record { table = t; place = 0 }) c.poll_lanes.ensures.same_table, rooms_seen (sender_seen g.M.Sender.LaneSender.home g.M.Sender.LaneSender.lane g.M.Sender.LaneSender.room g.M.Sender.LaneSender.job g.M.Sender.LaneSender.wait_places) (λ e. e.room) c.args.self.now.lanes.items (with_items c.args.self.now.lanes c.poll_lanes.new.lanes).items (same g at), refl, places_seen (sender_seen g.M.Sender.LaneSender.home g.M.Sender.LaneSender.lane g.M.Sender.LaneSender.room g.M.Sender.LaneSender.job g.M.Sender.LaneSender.wait_places) (λ e. e.places) c.args.self.now.lanes.items (with_items c.args.self.now.lanes c.poll_lanes.new.lanes).items (same g at))

pub returns-in-Ok-clause-room : goal.returns-in-Ok-clause-room
returns-in-Ok-clause-room g c =
    let at = (goal.at.returns-in-Ok-clause-room g c).After-poll_lanes in
    (same g at, both g at (λ olds news. SomeLane (IsFoundLast (IsLook g.M.Sender.LaneSender.found_held g.M.Sender.LaneSender.found_full g.M.Sender.LaneSender.found_closed) (g.M.Sender.LaneSender.found_room c.poll_lanes.new.cx.board)) olds news) c.in-Ok.ensures.room)

pub returns-in-Ok-clause-woken : goal.returns-in-Ok-clause-woken
returns-in-Ok-clause-woken g c =
    both g ((goal.at.returns-in-Ok-clause-woken g c).After-poll_lanes) (λ olds news. AreFoundWoken (λ tasks. OnLater g.M.Board.Board.waits_at (flat_map g.M.Sender.LaneSender.wait_places olds) c.args.cx.now.board (λ board. SomeLane (IsFoundLast (IsLook g.M.Sender.LaneSender.found_held g.M.Sender.LaneSender.found_full g.M.Sender.LaneSender.found_closed) (λ old new. g.M.Sender.LaneSender.found_waiting board old new tasks)) olds news)) c.poll_lanes.new.cx.wakes) c.in-Ok.ensures.woken

pub returns-in-Err-Closed-clause-closed : goal.returns-in-Err-Closed-clause-closed
returns-in-Err-Closed-clause-closed g c =
    let at = (goal.at.returns-in-Err-Closed-clause-closed g c).After-poll_lanes in
    let Closed : List g.row.M-Sender.Denot → List g.row.M-Sender.Denot → Type 0 = λ olds news. EachLane (IsFoundLast (IsLook g.M.Sender.LaneSender.found_held g.M.Sender.LaneSender.found_full g.M.Sender.LaneSender.found_closed) (g.M.Sender.LaneSender.found_closed c.poll_lanes.new.cx.board)) olds news in
    (same g at, both g at Closed (subst (λ refused. IfClosed refused (Closed c.deref_mut.result.now c.poll_lanes.new.lanes)) c.in-Err-Closed.field-0-is c.in-Err-Closed.ensures.closed))

pub returns-in-Err-Full-clause-full : goal.returns-in-Err-Full-clause-full
returns-in-Err-Full-clause-full g c =
    let at = (goal.at.returns-in-Err-Full-clause-full g c).After-poll_lanes in
    let Full : List g.row.M-Sender.Denot → List g.row.M-Sender.Denot → Type 0 = λ olds news. AreFull (IsLook g.M.Sender.LaneSender.found_held g.M.Sender.LaneSender.found_full g.M.Sender.LaneSender.found_closed) (g.M.Sender.LaneSender.found_full c.poll_lanes.new.cx.board) (g.M.Sender.LaneSender.found_closed c.poll_lanes.new.cx.board) olds news in
    (same g at, both g at Full (subst (λ refused. IfFull refused (Full c.deref_mut.result.now c.poll_lanes.new.lanes)) c.in-Err-Full.field-0-is c.in-Err-Full.ensures.full))

pub returns-in-Err-Full-clause-registered : goal.returns-in-Err-Full-clause-registered
returns-in-Err-Full-clause-registered g c =
    let at = (goal.at.returns-in-Err-Full-clause-registered g c).After-poll_lanes in
    let Awaited : List g.row.M-Sender.Denot → List g.row.M-Sender.Denot → Type 0 = λ olds news. EachLane (λ old new. OnEarlier g.M.Board.Board.waits_at (flat_map g.M.Sender.LaneSender.wait_places olds) c.args.cx.now.me c.poll_lanes.new.cx.board c.poll_lanes.new.cx.wakes (IsAwaited (IsLook g.M.Sender.LaneSender.found_held g.M.Sender.LaneSender.found_full g.M.Sender.LaneSender.found_closed) g.M.Sender.LaneSender.found_full g.M.Sender.LaneSender.found_closed g.M.Sender.LaneSender.registered c.args.cx.now.me old new)) olds news in
    let Last : List g.row.M-Sender.Denot → List g.row.M-Sender.Denot → Type 0 = λ olds news. LastLane (λ old new. IsAwaited (IsLook g.M.Sender.LaneSender.found_held g.M.Sender.LaneSender.found_full g.M.Sender.LaneSender.found_closed) g.M.Sender.LaneSender.found_full g.M.Sender.LaneSender.found_closed g.M.Sender.LaneSender.registered c.args.cx.now.me old new c.poll_lanes.new.cx.board) olds news in
    (both g at Last (subst (λ refused. IfFull refused (Last c.deref_mut.result.now c.poll_lanes.new.lanes)) c.in-Err-Full.field-0-is c.in-Err-Full.ensures.last), c.poll_lanes.new.cx.wakes, both g at Awaited (subst (λ refused. IfFull refused (Awaited c.deref_mut.result.now c.poll_lanes.new.lanes)) c.in-Err-Full.field-0-is c.in-Err-Full.ensures.waiting))
