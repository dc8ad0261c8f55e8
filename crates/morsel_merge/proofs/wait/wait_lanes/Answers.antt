use Rattle.std.proofs.Common.{◌⊎◌, get_or, ◌≡◌, subst, sym}
use Rattle.std.specs.List.{flat_map}
use Rattle.morsel_prims.specs.Polled.{IfClosed, IfFull}
use Rattle.morsel_prims.specs.Woken.{AreFoundWoken}
use Rattle.morsel_merge.specs.Boards.{OnEarlier, OnLater}
use Rattle.morsel_merge.specs.Spread.{AreFull, EachLane, IsAwaited, IsFoundLast, IsLook, LastLane, SomeLane}
use Rattle.morsel_merge.proofs.SearchLemmas.{each_after, each_awaited_before, each_last, full_after, full_last, last_awaited_before, some_after, some_last}
use Rattle.morsel_merge.proofs.SpreadLemmas.{if_closed, if_err, if_full, on_err, on_err_both, on_ok, refused_look}
use Rattle.morsel_merge.proofs.wait.wait_lanes.Given.{Over}
use Rattle.morsel_merge.proofs.wait.wait_lanes.Goals.{After-pass_from}
use Rattle.morsel_merge.proofs.wait.wait_lanes.Goals as goal

module _ (g : Over) (c : After-pass_from g) where
  -- a fact of the pass, after the polls
  some : (P : g.row.S.Denot → g.row.S.Denot → Type 0) → SomeLane P c.wait_each.new.lanes c.pass_from.new.lanes → SomeLane (IsFoundLast (IsLook g.S.LaneSender.found_held g.S.LaneSender.found_full g.S.LaneSender.found_closed) P) c.args.lanes.now c.pass_from.new.lanes
  some P is = some_after (IsLook g.S.LaneSender.found_held g.S.LaneSender.found_full g.S.LaneSender.found_closed) c.args.lanes.now c.wait_each.new.lanes c.pass_from.new.lanes c.pass_from.ensures.long c.in-Err.ensures.looked.looked P (some_last (IsLook g.S.LaneSender.found_held g.S.LaneSender.found_full g.S.LaneSender.found_closed) P c.wait_each.new.lanes c.pass_from.new.lanes is)

  each : (P : g.row.S.Denot → g.row.S.Denot → Type 0) → EachLane P c.wait_each.new.lanes c.pass_from.new.lanes → EachLane (IsFoundLast (IsLook g.S.LaneSender.found_held g.S.LaneSender.found_full g.S.LaneSender.found_closed) P) c.args.lanes.now c.pass_from.new.lanes
  each P is = each_after (IsLook g.S.LaneSender.found_held g.S.LaneSender.found_full g.S.LaneSender.found_closed) c.args.lanes.now c.wait_each.new.lanes c.pass_from.new.lanes c.pass_from.ensures.long c.in-Err.ensures.looked.looked P (each_last (IsLook g.S.LaneSender.found_held g.S.LaneSender.found_full g.S.LaneSender.found_closed) P c.wait_each.new.lanes c.pass_from.new.lanes is)

  abbrev Refused : g.row.S.Denot → g.row.S.Denot → Type 0
  Refused old new = g.S.LaneSender.found_full c.pass_from.new.cx.board old new ⊎ g.S.LaneSender.found_closed c.pass_from.new.cx.board old new

  full : EachLane Refused c.wait_each.new.lanes c.pass_from.new.lanes → SomeLane (g.S.LaneSender.found_full c.pass_from.new.cx.board) c.wait_each.new.lanes c.pass_from.new.lanes → AreFull (IsLook g.S.LaneSender.found_held g.S.LaneSender.found_full g.S.LaneSender.found_closed) (g.S.LaneSender.found_full c.pass_from.new.cx.board) (g.S.LaneSender.found_closed c.pass_from.new.cx.board) c.args.lanes.now c.pass_from.new.lanes
  full refused is = full_after (IsLook g.S.LaneSender.found_held g.S.LaneSender.found_full g.S.LaneSender.found_closed) c.args.lanes.now c.wait_each.new.lanes c.pass_from.new.lanes c.pass_from.ensures.long c.in-Err.ensures.looked.looked (g.S.LaneSender.found_full c.pass_from.new.cx.board) (g.S.LaneSender.found_closed c.pass_from.new.cx.board)
      (full_last (IsLook g.S.LaneSender.found_held g.S.LaneSender.found_full g.S.LaneSender.found_closed) (g.S.LaneSender.found_full c.pass_from.new.cx.board) (g.S.LaneSender.found_closed c.pass_from.new.cx.board) c.wait_each.new.lanes c.pass_from.new.lanes refused is)

  abbrev Awaited : Type 0
  Awaited = EachLane (λ old new. OnEarlier g.B.Board.waits_at (flat_map g.S.LaneSender.wait_places c.args.lanes.now) c.args.cx.now.me c.pass_from.new.cx.board c.pass_from.new.cx.wakes (IsAwaited (IsLook g.S.LaneSender.found_held g.S.LaneSender.found_full g.S.LaneSender.found_closed) g.S.LaneSender.found_full g.S.LaneSender.found_closed g.S.LaneSender.registered c.args.cx.now.me old new)) c.args.lanes.now c.pass_from.new.lanes

  awaited : EachLane Refused c.wait_each.new.lanes c.pass_from.new.lanes → Awaited
  awaited refused = each_awaited_before (IsLook g.S.LaneSender.found_held g.S.LaneSender.found_full g.S.LaneSender.found_closed) g.S.LaneSender.found_full g.S.LaneSender.found_closed g.S.LaneSender.registered c.args.cx.now.me g.B.Board.waits_at (flat_map g.S.LaneSender.wait_places c.args.lanes.now) c.args.lanes.now c.wait_each.new.lanes c.pass_from.new.lanes c.pass_from.ensures.long
      c.wait_each.new.cx.board c.pass_from.new.cx.board c.wait_each.new.cx.wakes c.pass_from.new.cx.wakes c.pass_from.ensures.wakes c.pass_from.ensures.keeps_waiting
      (λ lane d within. refused_look g.S.LaneSender.found_held g.S.LaneSender.found_full g.S.LaneSender.found_closed c.pass_from.new.cx.board (get_or c.wait_each.new.lanes lane d) (get_or c.pass_from.new.lanes lane d) (refused lane d within)) c.in-Err.ensures.waiting

pub returns-in-Err-clause-room : goal.returns-in-Err-clause-room
returns-in-Err-clause-room g c =
    let at = (goal.at.returns-in-Err-clause-room g c).After-pass_from in
    let room = g.S.LaneSender.found_room c.pass_from.new.cx.board in
    on_ok c.pass_from.result (SomeLane room c.wait_each.new.lanes c.pass_from.new.lanes) (SomeLane (IsFoundLast (IsLook g.S.LaneSender.found_held g.S.LaneSender.found_full g.S.LaneSender.found_closed) room) c.args.lanes.now c.pass_from.new.lanes) (some g at room) c.pass_from.ensures.room

pub returns-in-Err-clause-woken : goal.returns-in-Err-clause-woken
returns-in-Err-clause-woken g c =
    let at = (goal.at.returns-in-Err-clause-woken g c).After-pass_from in
    on_ok c.pass_from.result (AreFoundWoken (λ tasks. SomeLane (λ old new. g.S.LaneSender.found_waiting c.wait_each.new.cx.board old new tasks) c.wait_each.new.lanes c.pass_from.new.lanes) c.pass_from.new.cx.wakes)
    (AreFoundWoken (λ tasks. OnLater g.B.Board.waits_at (flat_map g.S.LaneSender.wait_places c.args.lanes.now) c.args.cx.now.board (λ board. SomeLane (IsFoundLast (IsLook g.S.LaneSender.found_held g.S.LaneSender.found_full g.S.LaneSender.found_closed) (λ old new. g.S.LaneSender.found_waiting board old new tasks)) c.args.lanes.now c.pass_from.new.lanes)) c.pass_from.new.cx.wakes)
    (λ found. (found.0, (c.wait_each.new.cx.board, c.args.cx.now.me, c.wait_each.new.cx.wakes, c.wait_each.ensures.keeps_waiting, some g at (λ old new. g.S.LaneSender.found_waiting c.wait_each.new.cx.board old new found.0) found.1), found.2)) c.pass_from.ensures.woken

pub returns-in-Err-clause-full : goal.returns-in-Err-clause-full
returns-in-Err-clause-full g c =
    let at = (goal.at.returns-in-Err-clause-full g c).After-pass_from in
    let is_full = SomeLane (g.S.LaneSender.found_full c.pass_from.new.cx.board) c.wait_each.new.lanes c.pass_from.new.lanes in
    let are_full = AreFull (IsLook g.S.LaneSender.found_held g.S.LaneSender.found_full g.S.LaneSender.found_closed) (g.S.LaneSender.found_full c.pass_from.new.cx.board) (g.S.LaneSender.found_closed c.pass_from.new.cx.board) c.args.lanes.now c.pass_from.new.lanes in
    if_err c.pass_from.result (EachLane (Refused g at) c.wait_each.new.lanes c.pass_from.new.lanes) (λ refused. IfFull refused is_full) (λ refused. IfFull refused are_full) (λ refused each. if_full refused is_full are_full (full g at each)) c.pass_from.ensures.refused c.pass_from.ensures.full

pub returns-in-Err-clause-closed : goal.returns-in-Err-clause-closed
returns-in-Err-clause-closed g c =
    let at = (goal.at.returns-in-Err-clause-closed g c).After-pass_from in
    let closed = g.S.LaneSender.found_closed c.pass_from.new.cx.board in
    let is_closed = EachLane closed c.wait_each.new.lanes c.pass_from.new.lanes in
    let are_closed = EachLane (IsFoundLast (IsLook g.S.LaneSender.found_held g.S.LaneSender.found_full g.S.LaneSender.found_closed) closed) c.args.lanes.now c.pass_from.new.lanes in
    if_err c.pass_from.result (EachLane (Refused g at) c.wait_each.new.lanes c.pass_from.new.lanes) (λ refused. IfClosed refused is_closed) (λ refused. IfClosed refused are_closed) (λ refused _. if_closed refused is_closed are_closed (each g at closed)) c.pass_from.ensures.refused c.pass_from.ensures.closed

pub returns-in-Err-clause-waiting : goal.returns-in-Err-clause-waiting
returns-in-Err-clause-waiting g c =
    let at = (goal.at.returns-in-Err-clause-waiting g c).After-pass_from in
    on_err c.pass_from.result (EachLane (Refused g at) c.wait_each.new.lanes c.pass_from.new.lanes) (Awaited g at) (awaited g at) c.pass_from.ensures.refused

pub returns-in-Err-clause-last : goal.returns-in-Err-clause-last
returns-in-Err-clause-last g c =
    let at = (goal.at.returns-in-Err-clause-last g c).After-pass_from in
    let full = g.S.LaneSender.found_full in
    let closed = g.S.LaneSender.found_closed in
    let registered = g.S.LaneSender.registered in
    let me = c.args.cx.now.me in
    let board = c.pass_from.new.cx.board in
    let mids = c.wait_each.new.lanes in
    let news = c.pass_from.new.lanes in
    on_err_both c.pass_from.result (EachLane (Refused g at) mids news) (board ≡ c.wait_each.new.cx.board) (LastLane (λ old new. IsAwaited (IsLook g.S.LaneSender.found_held g.S.LaneSender.found_full g.S.LaneSender.found_closed) full closed registered me old new board) c.args.lanes.now news)
    (λ refused same. last_awaited_before (IsLook g.S.LaneSender.found_held g.S.LaneSender.found_full g.S.LaneSender.found_closed) full closed registered me board c.args.lanes.now mids news c.pass_from.ensures.long
    (λ lane d within. refused_look g.S.LaneSender.found_held full closed board (get_or mids lane d) (get_or news lane d) (refused lane d within))
    (subst (λ b. LastLane (λ old new. IsAwaited (IsLook g.S.LaneSender.found_held g.S.LaneSender.found_full g.S.LaneSender.found_closed) full closed registered me old new b) c.args.lanes.now mids) (sym same) c.in-Err.ensures.last)) c.pass_from.ensures.refused c.pass_from.ensures.unchanged
