use Rattle.std.proofs.Common.{◌≡◌, ◌≤◌, List, map, refl, sym, ap, subst, ◌∙◌}
use Rattle.std.specs.List.{flat_map}
use Rattle.std.specs.Vec.{with_items}
use Rattle.std.proofs.lemmas.List.{with_items_is}
use Rattle.morsel_meaning.specs.declared.task.TaskNo.{TaskNo}
use Rattle.morsel_prims.specs.Woken.{AreFoundWoken}
use Rattle.morsel_merge.specs.Boards.{OnLater}
use Rattle.morsel_merge.specs.Ends.{sender_seen}
use Rattle.morsel_merge.specs.Spread.{AreFull, AreSameLanes, AreSent, EachLane, IsFoundLast, IsLook, SomeLane}
use Rattle.morsel_merge.proofs.BoardLemmas.{others_wait, waits_none}
use Rattle.morsel_merge.proofs.SearchLemmas.{places_seen, rooms_seen}
use Rattle.morsel_merge.proofs.SpreadLemmas.{err_closed, err_full, on_ok, seen_still}
use Rattle.morsel_merge.proofs.distributor.DistSenderLaneSenderBoard.try_send.Given.{Over}
use Rattle.morsel_merge.proofs.distributor.DistSenderLaneSenderBoard.try_send.Goals.{After-try_lanes}
use Rattle.morsel_merge.proofs.distributor.DistSenderLaneSenderBoard.try_send.Goals as goal

module _ (g : Over) (c : After-try_lanes g) where
  items : (with_items c.args.self.now.lanes c.try_lanes.new.lanes).items ≡ c.try_lanes.new.lanes
  items = with_items_is c.args.self.now.lanes c.try_lanes.new.lanes (c.try_lanes.ensures.long ∙ c.deref_mut.ensures.len)

  -- a fact of the lanes before and after, of the sender before and after
  both : (P : List g.row.M-Sender.Denot → List g.row.M-Sender.Denot → Type 0) → P c.deref_mut.result.now c.try_lanes.new.lanes → P c.args.self.now.lanes.items (with_items c.args.self.now.lanes c.try_lanes.new.lanes).items
  both P fact = subst (λ xs. P c.args.self.now.lanes.items xs) (sym items) (subst (λ xs. P xs c.try_lanes.new.lanes) c.deref_mut.ensures.value fact)

  same : AreSameLanes (sender_seen g.M.Sender.LaneSender.home g.M.Sender.LaneSender.lane g.M.Sender.LaneSender.room g.M.Sender.LaneSender.job g.M.Sender.LaneSender.wait_places) c.args.self.now.lanes.items (with_items c.args.self.now.lanes c.try_lanes.new.lanes).items
  same = both (λ olds news. map (sender_seen g.M.Sender.LaneSender.home g.M.Sender.LaneSender.lane g.M.Sender.LaneSender.room g.M.Sender.LaneSender.job g.M.Sender.LaneSender.wait_places) news ≡ map (sender_seen g.M.Sender.LaneSender.home g.M.Sender.LaneSender.lane g.M.Sender.LaneSender.room g.M.Sender.LaneSender.job g.M.Sender.LaneSender.wait_places) olds) c.try_lanes.ensures.seen

pub invariant_of-self-clause-homes : goal.invariant_of-self-clause-homes
invariant_of-self-clause-homes g c = seen_still (λ e. e.home ≡ (g.M.Board.Board.id c.args.self.now.board.value).lane_table) (sender_seen g.M.Sender.LaneSender.home g.M.Sender.LaneSender.lane g.M.Sender.LaneSender.room g.M.Sender.LaneSender.job g.M.Sender.LaneSender.wait_places) c.args.self.now.lanes.items (with_items c.args.self.now.lanes c.try_lanes.new.lanes).items (same g ((goal.at.invariant_of-self-clause-homes g c).After-try_lanes)) c.args.self.now.homes

pub invariant_of-self-clause-jobs : goal.invariant_of-self-clause-jobs
invariant_of-self-clause-jobs g c = seen_still (λ e. e.job ≡ c.args.self.now.job.value) (sender_seen g.M.Sender.LaneSender.home g.M.Sender.LaneSender.lane g.M.Sender.LaneSender.room g.M.Sender.LaneSender.job g.M.Sender.LaneSender.wait_places) c.args.self.now.lanes.items (with_items c.args.self.now.lanes c.try_lanes.new.lanes).items (same g ((goal.at.invariant_of-self-clause-jobs g c).After-try_lanes)) c.args.self.now.jobs

pub invariant_of-self-clause-rooms : goal.invariant_of-self-clause-rooms
invariant_of-self-clause-rooms g c = seen_still (λ e. e.room ≤ 65536) (sender_seen g.M.Sender.LaneSender.home g.M.Sender.LaneSender.lane g.M.Sender.LaneSender.room g.M.Sender.LaneSender.job g.M.Sender.LaneSender.wait_places) c.args.self.now.lanes.items (with_items c.args.self.now.lanes c.try_lanes.new.lanes).items (same g ((goal.at.invariant_of-self-clause-rooms g c).After-try_lanes)) c.args.self.now.rooms

pub invariant_of-self-clause-sent : goal.invariant_of-self-clause-sent
invariant_of-self-clause-sent g c =
    both g ((goal.at.invariant_of-self-clause-sent g c).After-try_lanes) (λ olds news. AreSent (map g.M.Sender.LaneSender.sent olds) c.args.self.now.log.seat.me.0 → AreSent (map g.M.Sender.LaneSender.sent news) c.try_lanes.new.log.seat.me.0) c.try_lanes.ensures.sent c.args.self.now.sent

pub returns-clause-same_end : goal.returns-clause-same_end
returns-clause-same_end g c =
    let at = (goal.at.returns-clause-same_end g c).After-try_lanes in
    (refl, ap (λ t. record { table = t; place = 0 }) c.try_lanes.ensures.same_table, rooms_seen (sender_seen g.M.Sender.LaneSender.home g.M.Sender.LaneSender.lane g.M.Sender.LaneSender.room g.M.Sender.LaneSender.job g.M.Sender.LaneSender.wait_places) (λ e. e.room) c.args.self.now.lanes.items (with_items c.args.self.now.lanes c.try_lanes.new.lanes).items (same g at), refl, places_seen (sender_seen g.M.Sender.LaneSender.home g.M.Sender.LaneSender.lane g.M.Sender.LaneSender.room g.M.Sender.LaneSender.job g.M.Sender.LaneSender.wait_places) (λ e. e.places) c.args.self.now.lanes.items (with_items c.args.self.now.lanes c.try_lanes.new.lanes).items (same g at))

pub returns-clause-room : goal.returns-clause-room
returns-clause-room g c =
    let at = (goal.at.returns-clause-room g c).After-try_lanes in
    let Room : List g.row.M-Sender.Denot → List g.row.M-Sender.Denot → Type 0 = λ olds news. SomeLane (IsFoundLast (IsLook g.M.Sender.LaneSender.found_held g.M.Sender.LaneSender.found_full g.M.Sender.LaneSender.found_closed) (g.M.Sender.LaneSender.found_room c.try_lanes.new.cx.board)) olds news in
    let news = (with_items c.args.self.now.lanes c.try_lanes.new.lanes).items in
    on_ok c.try_lanes.result (Room c.deref_mut.result.now c.try_lanes.new.lanes) (AreSameLanes (sender_seen g.M.Sender.LaneSender.home g.M.Sender.LaneSender.lane g.M.Sender.LaneSender.room g.M.Sender.LaneSender.job g.M.Sender.LaneSender.wait_places) c.args.self.now.lanes.items news × Room c.args.self.now.lanes.items news) (λ is. (same g at, both g at Room is)) c.try_lanes.ensures.room

pub returns-clause-woken : goal.returns-clause-woken
returns-clause-woken g c =
    let at = (goal.at.returns-clause-woken g c).After-try_lanes in
    let Found : List TaskNo → List g.row.M-Sender.Denot → List g.row.M-Sender.Denot → Type 0 = λ tasks olds news. SomeLane (IsFoundLast (IsLook g.M.Sender.LaneSender.found_held g.M.Sender.LaneSender.found_full g.M.Sender.LaneSender.found_closed) (λ old new. g.M.Sender.LaneSender.found_waiting c.args.cx.now.board old new tasks)) olds news in
    let waits = g.M.Board.Board.waits_at in
    let board = c.args.cx.now.board in
    let own = flat_map g.M.Sender.LaneSender.wait_places c.args.self.now.lanes.items in
    let news = (with_items c.args.self.now.lanes c.try_lanes.new.lanes).items in
    on_ok c.try_lanes.result (AreFoundWoken (λ tasks. Found tasks c.deref_mut.result.now c.try_lanes.new.lanes) c.try_lanes.new.cx.wakes)
    (AreFoundWoken (λ tasks. OnLater waits own board (λ mid. SomeLane (IsFoundLast (IsLook g.M.Sender.LaneSender.found_held g.M.Sender.LaneSender.found_full g.M.Sender.LaneSender.found_closed) (λ old new. g.M.Sender.LaneSender.found_waiting mid old new tasks)) c.args.self.now.lanes.items news)) c.try_lanes.new.cx.wakes)
    (λ found. (found.0, (board, c.args.cx.now.me, c.args.cx.now.wakes, others_wait own c.args.cx.now.me (waits board) (waits board) c.args.cx.now.wakes (waits_none (waits board) c.args.cx.now.wakes), both g at (Found found.0) found.1), found.2)) c.try_lanes.ensures.woken

pub returns-clause-full : goal.returns-clause-full
returns-clause-full g c =
    let at = (goal.at.returns-clause-full g c).After-try_lanes in
    let Full : List g.row.M-Sender.Denot → List g.row.M-Sender.Denot → Type 0 = λ olds news. AreFull (IsLook g.M.Sender.LaneSender.found_held g.M.Sender.LaneSender.found_full g.M.Sender.LaneSender.found_closed) (g.M.Sender.LaneSender.found_full c.try_lanes.new.cx.board) (g.M.Sender.LaneSender.found_closed c.try_lanes.new.cx.board) olds news in
    let news = (with_items c.args.self.now.lanes c.try_lanes.new.lanes).items in
    err_full c.try_lanes.result (Full c.deref_mut.result.now c.try_lanes.new.lanes) (AreSameLanes (sender_seen g.M.Sender.LaneSender.home g.M.Sender.LaneSender.lane g.M.Sender.LaneSender.room g.M.Sender.LaneSender.job g.M.Sender.LaneSender.wait_places) c.args.self.now.lanes.items news × Full c.args.self.now.lanes.items news) (λ is. (same g at, both g at Full is)) c.try_lanes.ensures.full

pub returns-clause-closed : goal.returns-clause-closed
returns-clause-closed g c =
    let at = (goal.at.returns-clause-closed g c).After-try_lanes in
    let Closed : List g.row.M-Sender.Denot → List g.row.M-Sender.Denot → Type 0 = λ olds news. EachLane (IsFoundLast (IsLook g.M.Sender.LaneSender.found_held g.M.Sender.LaneSender.found_full g.M.Sender.LaneSender.found_closed) (g.M.Sender.LaneSender.found_closed c.try_lanes.new.cx.board)) olds news in
    let news = (with_items c.args.self.now.lanes c.try_lanes.new.lanes).items in
    err_closed c.try_lanes.result (Closed c.deref_mut.result.now c.try_lanes.new.lanes) (AreSameLanes (sender_seen g.M.Sender.LaneSender.home g.M.Sender.LaneSender.lane g.M.Sender.LaneSender.room g.M.Sender.LaneSender.job g.M.Sender.LaneSender.wait_places) c.args.self.now.lanes.items news × Closed c.args.self.now.lanes.items news) (λ is. (same g at, both g at Closed is)) c.try_lanes.ensures.closed
