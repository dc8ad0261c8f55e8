use Rattle.std.proofs.Common.{◌≡◌, ◌⊎◌, ◌<◌, [], ◌∷◌, ◌++◌, Contains, length, map, set, get_or, sym, ap, subst, ◌∙◌, inl, inr, arith, length-set, get_or-set_same, get_or-set_other}
use Rattle.std.specs.List.{flat_map}
use Rattle.std.proofs.lemmas.Bool.{cases_eq}
use Rattle.std.proofs.lemmas.List.{get_or-map, get_or_default, length-map, map-set}
use Rattle.std.proofs.lemmas.List.Elements.{All-set}
use Rattle.morsel_prims.specs.Waiting.{KeepsOthersWaiting, WaitPlace}
use Rattle.morsel_merge.specs.Boards.{OnEarlier}
use Rattle.morsel_merge.specs.Ends.{sender_seen}
use Rattle.morsel_merge.specs.Spread.{AreSent, IsAwaited, IsFoundLast, IsLook, SomeLane, sent_values}
use Rattle.morsel_merge.proofs.AskLemmas.{flat_map-set_same, map-set_same, places_of_one, wait_next, wakes_next}
use Rattle.morsel_merge.proofs.BoardLemmas.{earlier-next, others_wait, waits_none}
use Rattle.morsel_merge.proofs.SpreadLemmas.{looked-none, looked_at-on, looked_at-one, refused_look, sent-push}
use Rattle.morsel_merge.proofs.wait.wait_each.Given.{Over}
use Rattle.morsel_merge.proofs.wait.wait_each.Goals.{After-wait_one}
use Rattle.morsel_merge.proofs.wait.wait_each.Goals as goal

module _ (g : Over) (c : After-wait_one g) where
  within : c.loop-lane.lane < length c.loop-lane.lanes
  within = omega (arith, c.loop-lane.invariant.looked.long, c.loop-lane-test.true)

  within_next : c.loop-lane.lane < length (set c.loop-lane.lanes c.loop-lane.lane c.wait_one.new.sender)
  within_next = subst (λ n. c.loop-lane.lane < n) (sym (length-set c.loop-lane.lanes c.loop-lane.lane c.wait_one.new.sender)) within

  same_end : (sender_seen g.S.LaneSender.home g.S.LaneSender.lane g.S.LaneSender.room g.S.LaneSender.job g.S.LaneSender.wait_places) c.wait_one.new.sender ≡ (sender_seen g.S.LaneSender.home g.S.LaneSender.lane g.S.LaneSender.room g.S.LaneSender.job g.S.LaneSender.wait_places) (get_or c.loop-lane.lanes c.loop-lane.lane c.index-lanes-lane.result)
  same_end = let home = c.wait_one.ensures.same_end.0 in let lane = c.wait_one.ensures.same_end.1 in let room = c.wait_one.ensures.same_end.2 in let job = c.wait_one.ensures.same_end.3 in let places = c.wait_one.ensures.same_end.4 in cc (home, lane, room, job, places)

  own : (d : _) → get_or (set c.loop-lane.lanes c.loop-lane.lane c.wait_one.new.sender) c.loop-lane.lane d ≡ c.wait_one.new.sender
  own d = get_or-set_same c.loop-lane.lanes c.loop-lane.lane c.wait_one.new.sender d within

  was : (d : _) → get_or c.loop-lane.lanes c.loop-lane.lane c.index-lanes-lane.result ≡ get_or c.loop-lane.lanes c.loop-lane.lane d
  was d = get_or_default c.loop-lane.lanes c.loop-lane.lane c.index-lanes-lane.result d within

  -- a fact of this poll, of the lane before and after
  at_step : (P : g.row.S.Denot → g.row.S.Denot → Type 0) → P (get_or c.loop-lane.lanes c.loop-lane.lane c.index-lanes-lane.result) c.wait_one.new.sender → (d : _) → P (get_or c.loop-lane.lanes c.loop-lane.lane d) (get_or (set c.loop-lane.lanes c.loop-lane.lane c.wait_one.new.sender) c.loop-lane.lane d)
  at_step P fact d = subst (λ new. P (get_or c.loop-lane.lanes c.loop-lane.lane d) new) (sym (own d)) (subst (λ old. P old c.wait_one.new.sender) (was d) fact)

  -- the same, after the looks before it
  last_step : (P : g.row.S.Denot → g.row.S.Denot → Type 0) → P (get_or c.loop-lane.lanes c.loop-lane.lane c.index-lanes-lane.result) c.wait_one.new.sender → SomeLane (IsFoundLast (IsLook g.S.LaneSender.found_held g.S.LaneSender.found_full g.S.LaneSender.found_closed) P) c.args.lanes.now (set c.loop-lane.lanes c.loop-lane.lane c.wait_one.new.sender)
  last_step P fact = (c.loop-lane.lane, within_next, λ d. (get_or c.loop-lane.lanes c.loop-lane.lane d, c.loop-lane.invariant.looked.looked c.loop-lane.lane d within, at_step P fact d))

  own_places : (place : WaitPlace) → Contains (g.S.LaneSender.wait_places (get_or c.loop-lane.lanes c.loop-lane.lane c.index-lanes-lane.result)) place → Contains (flat_map g.S.LaneSender.wait_places c.args.lanes.now) place
  own_places place has = subst (λ ps. Contains ps place) c.loop-lane.invariant.places (places_of_one g.S.LaneSender.wait_places c.loop-lane.lanes c.loop-lane.lane c.index-lanes-lane.result within place has)

  step_waiting : KeepsOthersWaiting (flat_map g.S.LaneSender.wait_places c.args.lanes.now) c.args.cx.now.me (g.B.Board.waits_at c.args.cx.now.board) (g.B.Board.waits_at c.wait_one.new.cx.board) c.wait_one.new.cx.wakes
  step_waiting = wait_next (flat_map g.S.LaneSender.wait_places c.args.lanes.now) (g.S.LaneSender.wait_places (get_or c.loop-lane.lanes c.loop-lane.lane c.index-lanes-lane.result)) c.args.cx.now.me c.loop-lane.cx.me (g.B.Board.waits_at c.args.cx.now.board) (g.B.Board.waits_at c.loop-lane.cx.board) (g.B.Board.waits_at c.wait_one.new.cx.board) c.loop-lane.cx.wakes c.wait_one.new.cx.wakes
      c.loop-lane.invariant.me c.wait_one.ensures.wakes own_places c.loop-lane.invariant.waiting c.wait_one.ensures.keeps_waiting

pub returns-in-Ok-clause-seen : goal.returns-in-Ok-clause-seen
returns-in-Ok-clause-seen g c =
    let at = (goal.at.returns-in-Ok-clause-seen g c).After-wait_one in
    map-set_same (sender_seen g.S.LaneSender.home g.S.LaneSender.lane g.S.LaneSender.room g.S.LaneSender.job g.S.LaneSender.wait_places) c.loop-lane.lanes c.loop-lane.lane c.index-lanes-lane.result c.wait_one.new.sender (within g at) (same_end g at) ∙ c.loop-lane.invariant.looked.same_seen

pub returns-in-Ok-clause-keeps_waiting : goal.returns-in-Ok-clause-keeps_waiting
returns-in-Ok-clause-keeps_waiting g c = step_waiting g ((goal.at.returns-in-Ok-clause-keeps_waiting g c).After-wait_one)

pub returns-in-Ok-clause-sent : goal.returns-in-Ok-clause-sent
returns-in-Ok-clause-sent g c sent =
    let at = (goal.at.returns-in-Ok-clause-sent g c).After-wait_one in
    let k = c.loop-lane.lane in
    let lists = map g.S.LaneSender.sent c.args.lanes.now in
    let same = c.loop-lane.invariant.looked.same_sent in
    let one : get_or lists k [] ≡ g.S.LaneSender.sent (get_or c.loop-lane.lanes k c.index-lanes-lane.result) = ap (λ ls. get_or ls k []) (sym same) ∙ get_or-map g.S.LaneSender.sent c.loop-lane.lanes k c.index-lanes-lane.result [] (within g at) in
    let now : map g.S.LaneSender.sent (set c.loop-lane.lanes k c.wait_one.new.sender) ≡ set lists k (get_or lists k [] ++ c.args.value ∷ []) =
    map-set g.S.LaneSender.sent c.loop-lane.lanes k c.wait_one.new.sender ∙ ap (λ ls. set ls k (g.S.LaneSender.sent c.wait_one.new.sender)) same
    ∙ ap (λ xs. set lists k xs) (c.in-Ok.ensures.ok ∙ ap (λ xs. xs ++ c.loop-lane.value ∷ []) (sym one) ∙ ap (λ v. get_or lists k [] ++ v ∷ []) c.loop-lane.invariant.value) in
    let within_lists : k < length lists = subst (λ n. k < n) (sym (length-map c.args.lanes.now g.S.LaneSender.sent)) c.loop-lane-test.true in
    subst (λ ls. AreSent ls c.wait_one.new.log.seat.me.0) (sym now)
    (sent-push lists c.args.log.now.seat.me.0 c.wait_one.new.log.seat.me.0 k c.args.value within_lists
    (c.in-Ok.ensures.logged.0 ∙ ap (λ log. map (λ s. s.lane) log ++ k ∷ []) c.loop-lane.invariant.log)
    (c.in-Ok.ensures.logged.1 ∙ ap (λ log. sent_values log ++ c.loop-lane.value ∷ []) c.loop-lane.invariant.log ∙ ap (λ v. sent_values c.args.log.now.seat.me.0 ++ v ∷ []) c.loop-lane.invariant.value) sent)

pub returns-in-Ok-clause-room : goal.returns-in-Ok-clause-room
returns-in-Ok-clause-room g c = last_step g ((goal.at.returns-in-Ok-clause-room g c).After-wait_one) (g.S.LaneSender.found_room c.wait_one.new.cx.board) c.in-Ok.ensures.room

pub returns-in-Ok-clause-woken : goal.returns-in-Ok-clause-woken
returns-in-Ok-clause-woken g c =
    let at = (goal.at.returns-in-Ok-clause-woken g c).After-wait_one in
    let found = c.in-Ok.ensures.woken in
    (found.0, (c.loop-lane.cx.board, c.args.cx.now.me, c.loop-lane.cx.wakes, c.loop-lane.invariant.waiting, last_step g at (λ old new. g.S.LaneSender.found_waiting c.loop-lane.cx.board old new found.0) found.1), found.2)

pub loop-lane-preserved : goal.loop-lane-preserved
loop-lane-preserved g c =
    let at = (goal.at.loop-lane-preserved g c).After-wait_one in
    let k = c.loop-lane.lane in
    let lanes = c.loop-lane.lanes in
    let default = c.index-lanes-lane.result in
    let facts = c.wait_one.ensures in
    let places = flat_map g.S.LaneSender.wait_places c.args.lanes.now in
    let look = (IsLook g.S.LaneSender.found_held g.S.LaneSender.found_full g.S.LaneSender.found_closed) in
    let full = g.S.LaneSender.found_full in
    let closed = g.S.LaneSender.found_closed in
    let registered = g.S.LaneSender.registered in
    let me = c.args.cx.now.me in
    let answer = c.in-Err.ensures.waiting in
    let refused : full c.wait_one.new.cx.board (get_or lanes k default) c.wait_one.new.sender ⊎ closed c.wait_one.new.cx.board (get_or lanes k default) c.wait_one.new.sender = elim answer [ inl waits ↦ inl waits.0 | inr shut ↦ inr shut ] in
    let mine : (full c.wait_one.new.cx.board (get_or lanes k default) c.wait_one.new.sender × registered c.wait_one.new.cx.board (get_or lanes k default) c.wait_one.new.sender me) ⊎ closed c.wait_one.new.cx.board (get_or lanes k default) c.wait_one.new.sender =
    elim answer [ inl waits ↦ inl (waits.0, subst (λ task. registered c.wait_one.new.cx.board (get_or lanes k default) c.wait_one.new.sender task) c.loop-lane.invariant.me waits.1) | inr shut ↦ inr shut ] in
    let table = ap (λ id. id.lane_table) (sym facts.same_board) in
    let awaited : (d : _) → IsAwaited look full closed registered me (get_or c.args.lanes.now k d) (get_or (set lanes k c.wait_one.new.sender) k d) c.wait_one.new.cx.board = λ d. (
      get_or lanes k d,
      get_or (set lanes k c.wait_one.new.sender) k d,
      c.loop-lane.invariant.looked.looked k d (within g at),
      looked-none look (get_or (set lanes k c.wait_one.new.sender) k d),
      at_step g at (λ s s'. (full c.wait_one.new.cx.board s s' × registered c.wait_one.new.cx.board s s' me) ⊎ closed c.wait_one.new.cx.board s s') mine d,
    ) in
    record {
      home = All-set (λ end. g.S.LaneSender.home end ≡ (g.B.Board.id c.wait_one.new.cx.board).lane_table) lanes k c.wait_one.new.sender (facts.same_end.0 ∙ c.loop-lane.invariant.home k default (within g at) ∙ table) (λ i d inside. c.loop-lane.invariant.home i d inside ∙ table);
      job = All-set (λ end. g.S.LaneSender.job end ≡ c.args.job.now.value) lanes k c.wait_one.new.sender (facts.same_end.3 ∙ c.loop-lane.invariant.job k default (within g at)) c.loop-lane.invariant.job;
      looked = looked_at-on (sender_seen g.S.LaneSender.home g.S.LaneSender.lane g.S.LaneSender.room g.S.LaneSender.job g.S.LaneSender.wait_places) g.S.LaneSender.sent look c.args.lanes.now lanes (set lanes k c.wait_one.new.sender) c.loop-lane.invariant.looked
          (looked_at-one (sender_seen g.S.LaneSender.home g.S.LaneSender.lane g.S.LaneSender.room g.S.LaneSender.job g.S.LaneSender.wait_places) g.S.LaneSender.sent look lanes k default c.wait_one.new.sender (within g at) (same_end g at) c.in-Err.ensures.err (refused_look g.S.LaneSender.found_held full closed c.wait_one.new.cx.board (get_or lanes k default) c.wait_one.new.sender refused));
      places = flat_map-set_same g.S.LaneSender.wait_places lanes k default c.wait_one.new.sender (within g at) facts.same_end.4 ∙ c.loop-lane.invariant.places;
      awaited = λ lane d below. elim (cases_eq lane k) [
        | inl same ↦ subst (λ i. OnEarlier g.B.Board.waits_at places me c.wait_one.new.cx.board c.wait_one.new.cx.wakes (IsAwaited look full closed registered me (get_or c.args.lanes.now i d) (get_or (set lanes k c.wait_one.new.sender) i d))) (sym same) (
          c.wait_one.new.cx.board,
          others_wait places me (g.B.Board.waits_at c.wait_one.new.cx.board) (g.B.Board.waits_at c.wait_one.new.cx.board) c.wait_one.new.cx.wakes (waits_none (g.B.Board.waits_at c.wait_one.new.cx.board) c.wait_one.new.cx.wakes),
          awaited d,
        )
        | inr other ↦ subst (λ end. OnEarlier g.B.Board.waits_at places me c.wait_one.new.cx.board c.wait_one.new.cx.wakes (IsAwaited look full closed registered me (get_or c.args.lanes.now lane d) end)) (sym (get_or-set_other lanes k lane c.wait_one.new.sender d other))
            (earlier-next g.B.Board.waits_at places (g.S.LaneSender.wait_places (get_or lanes k default)) me c.loop-lane.cx.me (IsAwaited look full closed registered me (get_or c.args.lanes.now lane d) (get_or lanes lane d)) c.loop-lane.cx.board c.wait_one.new.cx.board c.loop-lane.cx.wakes c.wait_one.new.cx.wakes c.loop-lane.invariant.me facts.wakes
            (own_places g at) facts.keeps_waiting (c.loop-lane.invariant.awaited lane d (omega (arith, below, other))))
      ];
      last = λ lane d is. subst (λ i. IsAwaited look full closed registered me (get_or c.args.lanes.now i d) (get_or (set lanes k c.wait_one.new.sender) i d) c.wait_one.new.cx.board) (omega (arith, is)) (awaited d);
      waiting = step_waiting g at;
      log = c.in-Err.ensures.same_log ∙ c.loop-lane.invariant.log;
      table = facts.same_table ∙ c.loop-lane.invariant.table;
      value = c.in-Err.ensures.back ∙ c.loop-lane.invariant.value;
      board = facts.same_board ∙ c.loop-lane.invariant.board;
      me = facts.same_task ∙ c.loop-lane.invariant.me;
      wakes = wakes_next c.args.cx.now.wakes c.loop-lane.cx.wakes c.wait_one.new.cx.wakes c.loop-lane.invariant.wakes facts.wakes;
    }
