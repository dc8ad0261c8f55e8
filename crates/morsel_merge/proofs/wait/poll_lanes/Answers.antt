use Rattle.std.proofs.Common.{◌≡◌, ◌<◌, All, List, Contains, length, map, get_or, sym, ap, subst, ◌∙◌}
use Rattle.std.specs.List.{flat_map}
use Rattle.morsel_prims.specs.Polled.{IfClosed, IfFull}
use Rattle.morsel_prims.specs.Waiting.{KeepsOthersWaiting, WaitPlace}
use Rattle.morsel_prims.specs.Woken.{AreFoundWoken}
use Rattle.morsel_merge.specs.Boards.{OnEarlier, OnLater}
use Rattle.morsel_merge.specs.Ends.{sender_seen}
use Rattle.morsel_merge.specs.Spread.{AreFull, EachLane, IsAwaited, IsFoundLast, IsLook, LastLane, SomeLane}
use Rattle.morsel_merge.proofs.AskLemmas.{flat_map_twice, wait_next}
use Rattle.morsel_merge.proofs.BoardLemmas.{others_wait, waits_none}
use Rattle.morsel_merge.proofs.SearchLemmas.{each_after, each_awaited_after, full_after, last_awaited_after, some_after}
use Rattle.morsel_merge.proofs.SpreadLemmas.{if_closed, if_err, if_full, on_ok, seen_still}
use Rattle.morsel_merge.proofs.wait.poll_lanes.Given.{Over}
use Rattle.morsel_merge.proofs.wait.poll_lanes.Goals.{After-wait_lanes}
use Rattle.morsel_merge.proofs.wait.poll_lanes.Goals as goal

pub wait_lanes-requires-clause-home : goal.wait_lanes-requires-clause-home
wait_lanes-requires-clause-home g c =
    subst (λ id. All (λ end. g.S.LaneSender.home end ≡ id.lane_table) c.try_lanes.new.lanes) (sym c.try_lanes.ensures.same_board)
    (seen_still (λ e. e.home ≡ (g.B.Board.id c.args.cx.now.board).lane_table) (sender_seen g.S.LaneSender.home g.S.LaneSender.lane g.S.LaneSender.room g.S.LaneSender.job g.S.LaneSender.wait_places) c.args.lanes.now c.try_lanes.new.lanes c.try_lanes.ensures.seen c.requires.home)

pub wait_lanes-requires-clause-job : goal.wait_lanes-requires-clause-job
wait_lanes-requires-clause-job g c = seen_still (λ e. e.job ≡ c.args.job.now.value) (sender_seen g.S.LaneSender.home g.S.LaneSender.lane g.S.LaneSender.room g.S.LaneSender.job g.S.LaneSender.wait_places) c.args.lanes.now c.try_lanes.new.lanes c.try_lanes.ensures.seen c.requires.job

module _ (g : Over) (c : After-wait_lanes g) where
  places : flat_map g.S.LaneSender.wait_places c.try_lanes.new.lanes ≡ flat_map g.S.LaneSender.wait_places c.args.lanes.now
  places = flat_map_twice (λ e. e.places) (sender_seen g.S.LaneSender.home g.S.LaneSender.lane g.S.LaneSender.room g.S.LaneSender.job g.S.LaneSender.wait_places) c.try_lanes.new.lanes ∙ ap (λ es. flat_map (λ e. e.places) es) c.try_lanes.ensures.seen ∙ sym (flat_map_twice (λ e. e.places) (sender_seen g.S.LaneSender.home g.S.LaneSender.lane g.S.LaneSender.room g.S.LaneSender.job g.S.LaneSender.wait_places) c.args.lanes.now)

  looked : EachLane (Rattle.morsel_merge.specs.Spread.IsLooked (IsLook g.S.LaneSender.found_held g.S.LaneSender.found_full g.S.LaneSender.found_closed)) c.args.lanes.now c.try_lanes.new.lanes
  looked = c.in-Err-Full.ensures.looked

  same : c.try_lanes.new.cx.board ≡ c.args.cx.now.board
  same = c.in-Err-Full.ensures.unchanged

  some : (P : g.row.S.Denot → g.row.S.Denot → Type 0) → SomeLane (IsFoundLast (IsLook g.S.LaneSender.found_held g.S.LaneSender.found_full g.S.LaneSender.found_closed) P) c.try_lanes.new.lanes c.wait_lanes.new.lanes → SomeLane (IsFoundLast (IsLook g.S.LaneSender.found_held g.S.LaneSender.found_full g.S.LaneSender.found_closed) P) c.args.lanes.now c.wait_lanes.new.lanes
  some = some_after (IsLook g.S.LaneSender.found_held g.S.LaneSender.found_full g.S.LaneSender.found_closed) c.args.lanes.now c.try_lanes.new.lanes c.wait_lanes.new.lanes c.wait_lanes.ensures.long looked

  abbrev Awaited : List WaitPlace → Rattle.morsel_meaning.specs.declared.task.TaskNo.TaskNo → List g.row.S.Denot → Type 0
  Awaited own me olds = EachLane (λ old new. OnEarlier g.B.Board.waits_at own me c.wait_lanes.new.cx.board c.wait_lanes.new.cx.wakes (IsAwaited (IsLook g.S.LaneSender.found_held g.S.LaneSender.found_full g.S.LaneSender.found_closed) g.S.LaneSender.found_full g.S.LaneSender.found_closed g.S.LaneSender.registered me old new)) olds c.wait_lanes.new.lanes

  awaited : Awaited (flat_map g.S.LaneSender.wait_places c.try_lanes.new.lanes) c.try_lanes.new.cx.me c.try_lanes.new.lanes → Awaited (flat_map g.S.LaneSender.wait_places c.args.lanes.now) c.args.cx.now.me c.args.lanes.now
  awaited are =
      each_awaited_after (IsLook g.S.LaneSender.found_held g.S.LaneSender.found_full g.S.LaneSender.found_closed) g.S.LaneSender.found_full g.S.LaneSender.found_closed g.S.LaneSender.registered c.args.cx.now.me g.B.Board.waits_at (flat_map g.S.LaneSender.wait_places c.args.lanes.now) c.args.lanes.now c.try_lanes.new.lanes c.wait_lanes.new.lanes c.wait_lanes.ensures.long
      c.wait_lanes.new.cx.board c.wait_lanes.new.cx.wakes looked
      (subst (λ own. Awaited own c.args.cx.now.me c.try_lanes.new.lanes) places (subst (λ me. Awaited (flat_map g.S.LaneSender.wait_places c.try_lanes.new.lanes) me c.try_lanes.new.lanes) c.try_lanes.ensures.same_task are))

pub returns-in-Ok-clause-woken : goal.returns-in-Ok-clause-woken
returns-in-Ok-clause-woken g c =
    let found = c.in-Ok.ensures.woken in
    let own = flat_map g.S.LaneSender.wait_places c.args.lanes.now in
    let waits = g.B.Board.waits_at c.args.cx.now.board in
    (found.0, (c.args.cx.now.board, c.args.cx.now.me, c.args.cx.now.wakes, others_wait own c.args.cx.now.me waits waits c.args.cx.now.wakes (waits_none waits c.args.cx.now.wakes), found.1), found.2)

pub returns-in-Err-Full-clause-keeps_waiting : goal.returns-in-Err-Full-clause-keeps_waiting
returns-in-Err-Full-clause-keeps_waiting g c =
    let at = (goal.at.returns-in-Err-Full-clause-keeps_waiting g c).After-wait_lanes in
    let own = flat_map g.S.LaneSender.wait_places c.args.lanes.now in
    let waits = g.B.Board.waits_at in
    wait_next own (flat_map g.S.LaneSender.wait_places c.try_lanes.new.lanes) c.args.cx.now.me c.try_lanes.new.cx.me (waits c.args.cx.now.board) (waits c.try_lanes.new.cx.board) (waits c.wait_lanes.new.cx.board) c.try_lanes.new.cx.wakes c.wait_lanes.new.cx.wakes c.try_lanes.ensures.same_task c.wait_lanes.ensures.wakes
    (λ place has. subst (λ ps. Contains ps place) (places g at) has)
    (others_wait own c.args.cx.now.me (waits c.args.cx.now.board) (waits c.try_lanes.new.cx.board) c.try_lanes.new.cx.wakes c.try_lanes.ensures.keeps_waiting) c.wait_lanes.ensures.keeps_waiting

pub returns-in-Err-Full-clause-room : goal.returns-in-Err-Full-clause-room
returns-in-Err-Full-clause-room g c =
    let at = (goal.at.returns-in-Err-Full-clause-room g c).After-wait_lanes in
    let room = IsFoundLast (IsLook g.S.LaneSender.found_held g.S.LaneSender.found_full g.S.LaneSender.found_closed) (g.S.LaneSender.found_room c.wait_lanes.new.cx.board) in
    on_ok c.wait_lanes.result (SomeLane room c.try_lanes.new.lanes c.wait_lanes.new.lanes) (SomeLane room c.args.lanes.now c.wait_lanes.new.lanes) (some g at (g.S.LaneSender.found_room c.wait_lanes.new.cx.board)) c.wait_lanes.ensures.room

pub returns-in-Err-Full-clause-woken : goal.returns-in-Err-Full-clause-woken
returns-in-Err-Full-clause-woken g c =
    let at = (goal.at.returns-in-Err-Full-clause-woken g c).After-wait_lanes in
    let own = flat_map g.S.LaneSender.wait_places c.args.lanes.now in
    let own_mid = flat_map g.S.LaneSender.wait_places c.try_lanes.new.lanes in
    let waits = g.B.Board.waits_at in
    on_ok c.wait_lanes.result
    (AreFoundWoken (λ tasks. OnLater waits own_mid c.try_lanes.new.cx.board (λ board. SomeLane (IsFoundLast (IsLook g.S.LaneSender.found_held g.S.LaneSender.found_full g.S.LaneSender.found_closed) (λ old new. g.S.LaneSender.found_waiting board old new tasks)) c.try_lanes.new.lanes c.wait_lanes.new.lanes)) c.wait_lanes.new.cx.wakes)
    (AreFoundWoken (λ tasks. OnLater waits own c.args.cx.now.board (λ board. SomeLane (IsFoundLast (IsLook g.S.LaneSender.found_held g.S.LaneSender.found_full g.S.LaneSender.found_closed) (λ old new. g.S.LaneSender.found_waiting board old new tasks)) c.args.lanes.now c.wait_lanes.new.lanes)) c.wait_lanes.new.cx.wakes)
    (λ found. (
      found.0,
      (
        found.1.0,
        found.1.1,
        found.1.2,
        subst (λ ps. KeepsOthersWaiting ps found.1.1 (waits c.args.cx.now.board) (waits found.1.0) found.1.2) (places g at) (subst (λ b. KeepsOthersWaiting own_mid found.1.1 (waits b) (waits found.1.0) found.1.2) (same g at) found.1.3),
        some g at (λ old new. g.S.LaneSender.found_waiting found.1.0 old new found.0) found.1.4,
      ),
      found.2,
    )) c.wait_lanes.ensures.woken

pub returns-in-Err-Full-clause-full : goal.returns-in-Err-Full-clause-full
returns-in-Err-Full-clause-full g c =
    let at = (goal.at.returns-in-Err-Full-clause-full g c).After-wait_lanes in
    let full = g.S.LaneSender.found_full c.wait_lanes.new.cx.board in
    let closed = g.S.LaneSender.found_closed c.wait_lanes.new.cx.board in
    let was = AreFull (IsLook g.S.LaneSender.found_held g.S.LaneSender.found_full g.S.LaneSender.found_closed) full closed c.try_lanes.new.lanes c.wait_lanes.new.lanes in
    let are = AreFull (IsLook g.S.LaneSender.found_held g.S.LaneSender.found_full g.S.LaneSender.found_closed) full closed c.args.lanes.now c.wait_lanes.new.lanes in
    let awaited = Awaited g at (flat_map g.S.LaneSender.wait_places c.try_lanes.new.lanes) c.try_lanes.new.cx.me c.try_lanes.new.lanes in
    if_err c.wait_lanes.result awaited (λ refused. IfFull refused was) (λ refused. IfFull refused are) (λ refused _. if_full refused was are (full_after (IsLook g.S.LaneSender.found_held g.S.LaneSender.found_full g.S.LaneSender.found_closed) c.args.lanes.now c.try_lanes.new.lanes c.wait_lanes.new.lanes c.wait_lanes.ensures.long (looked g at) full closed)) c.wait_lanes.ensures.waiting c.wait_lanes.ensures.full

pub returns-in-Err-Full-clause-closed : goal.returns-in-Err-Full-clause-closed
returns-in-Err-Full-clause-closed g c =
    let at = (goal.at.returns-in-Err-Full-clause-closed g c).After-wait_lanes in
    let closed = g.S.LaneSender.found_closed c.wait_lanes.new.cx.board in
    let was = EachLane (IsFoundLast (IsLook g.S.LaneSender.found_held g.S.LaneSender.found_full g.S.LaneSender.found_closed) closed) c.try_lanes.new.lanes c.wait_lanes.new.lanes in
    let are = EachLane (IsFoundLast (IsLook g.S.LaneSender.found_held g.S.LaneSender.found_full g.S.LaneSender.found_closed) closed) c.args.lanes.now c.wait_lanes.new.lanes in
    let awaited = Awaited g at (flat_map g.S.LaneSender.wait_places c.try_lanes.new.lanes) c.try_lanes.new.cx.me c.try_lanes.new.lanes in
    if_err c.wait_lanes.result awaited (λ refused. IfClosed refused was) (λ refused. IfClosed refused are) (λ refused _. if_closed refused was are (each_after (IsLook g.S.LaneSender.found_held g.S.LaneSender.found_full g.S.LaneSender.found_closed) c.args.lanes.now c.try_lanes.new.lanes c.wait_lanes.new.lanes c.wait_lanes.ensures.long (looked g at) closed)) c.wait_lanes.ensures.waiting c.wait_lanes.ensures.closed

-- what holds of each refusal holds of this one
full_so : {T A : Type 0} (refused : Rattle.morsel_prims.specs.declared.lane.SendError.SendError T) → A → IfFull refused A
full_so (Rattle.morsel_prims.specs.declared.lane.SendError.TheVariants.Full value) a = a
full_so (Rattle.morsel_prims.specs.declared.lane.SendError.TheVariants.Closed value) a = tt

always : {A E : Type 0} (result : Rattle.std.proofs.Common.Result A E) → Rattle.std.proofs.Common.IfErr result (λ _. Rattle.std.specs.Prelude.⊤)
always (Rattle.std.proofs.Common.Ok value) = tt
always (Rattle.std.proofs.Common.Err refused) = tt

pub returns-in-Err-Full-clause-waiting : goal.returns-in-Err-Full-clause-waiting
returns-in-Err-Full-clause-waiting g c =
    let at = (goal.at.returns-in-Err-Full-clause-waiting g c).After-wait_lanes in
    let was = Awaited g at (flat_map g.S.LaneSender.wait_places c.try_lanes.new.lanes) c.try_lanes.new.cx.me c.try_lanes.new.lanes in
    let are = Awaited g at (flat_map g.S.LaneSender.wait_places c.args.lanes.now) c.args.cx.now.me c.args.lanes.now in
    if_err c.wait_lanes.result was (λ refused. Rattle.std.specs.Prelude.⊤) (λ refused. IfFull refused are) (λ refused mid _. full_so refused (awaited g at mid)) c.wait_lanes.ensures.waiting (always c.wait_lanes.result)

pub returns-in-Err-Full-clause-last : goal.returns-in-Err-Full-clause-last
returns-in-Err-Full-clause-last g c =
    let at = (goal.at.returns-in-Err-Full-clause-last g c).After-wait_lanes in
    let full = g.S.LaneSender.found_full in
    let closed = g.S.LaneSender.found_closed in
    let registered = g.S.LaneSender.registered in
    let board = c.wait_lanes.new.cx.board in
    let news = c.wait_lanes.new.lanes in
    let was = LastLane (λ old new. IsAwaited (IsLook g.S.LaneSender.found_held g.S.LaneSender.found_full g.S.LaneSender.found_closed) full closed registered c.try_lanes.new.cx.me old new board) c.try_lanes.new.lanes news in
    let are = LastLane (λ old new. IsAwaited (IsLook g.S.LaneSender.found_held g.S.LaneSender.found_full g.S.LaneSender.found_closed) full closed registered c.args.cx.now.me old new board) c.args.lanes.now news in
    if_err c.wait_lanes.result was (λ refused. Rattle.std.specs.Prelude.⊤) (λ refused. IfFull refused are)
    (λ refused last _. full_so refused (last_awaited_after (IsLook g.S.LaneSender.found_held g.S.LaneSender.found_full g.S.LaneSender.found_closed) full closed registered c.args.cx.now.me board c.args.lanes.now c.try_lanes.new.lanes news c.wait_lanes.ensures.long (looked g at)
    (subst (λ me. LastLane (λ old new. IsAwaited (IsLook g.S.LaneSender.found_held g.S.LaneSender.found_full g.S.LaneSender.found_closed) full closed registered me old new board) c.try_lanes.new.lanes news) c.try_lanes.ensures.same_task last))) c.wait_lanes.ensures.last (always c.wait_lanes.result)
