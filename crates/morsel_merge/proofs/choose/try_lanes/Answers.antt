use Rattle.std.proofs.Common.{◌≡◌, ◌⊎◌, ◌<◌, ℕ, [], ◌∷◌, ◌++◌, length, map, set, get_or, sym, ap, subst, ◌∙◌, inl, inr, length-set, get_or-set_same}
use Rattle.std.proofs.lemmas.List.{get_or-map, get_or_default, length-map, map-set}
use Rattle.morsel_prims.specs.Polled.{IfClosed, IfFull}
use Rattle.morsel_prims.specs.declared.lane.SendError.{SendError}
use Rattle.morsel_prims.specs.Woken.{AreFoundWoken}
use Rattle.morsel_merge.specs.Ends.{sender_seen}
use Rattle.morsel_merge.specs.Spread.{AreFull, AreLookedAt, AreSent, EachLane, IsFoundLast, IsLook, IsLooked, SomeLane}
use Rattle.morsel_merge.proofs.AskLemmas.{map-set_same}
use Rattle.morsel_merge.proofs.SpreadLemmas.{by_refusal, if_closed, if_err, if_full, looked_at-on, looked_at-one, looked-more, on_err, on_ok, refused_look, seen_still, sent-push}
use Rattle.morsel_merge.proofs.choose.try_lanes.Given.{Over}
use Rattle.morsel_merge.proofs.choose.try_lanes.Goals.{After-choose-lane, After-offer, After-pass_from}
use Rattle.morsel_merge.proofs.choose.try_lanes.Goals as goal

module _ (g : Over) (c : After-offer g) where
  within : c.choose-lane.result < length c.choose-lane.new.lanes
  within = c.choose-lane.ensures.within

  same_end : (sender_seen g.S.LaneSender.home g.S.LaneSender.lane g.S.LaneSender.room g.S.LaneSender.job g.S.LaneSender.wait_places) c.offer.new.sender ≡ (sender_seen g.S.LaneSender.home g.S.LaneSender.lane g.S.LaneSender.room g.S.LaneSender.job g.S.LaneSender.wait_places) (get_or c.choose-lane.new.lanes c.choose-lane.result c.index-lanes-lane.result)
  same_end = let home = c.offer.ensures.same_end.0 in let lane = c.offer.ensures.same_end.1 in let room = c.offer.ensures.same_end.2 in let job = c.offer.ensures.same_end.3 in let places = c.offer.ensures.same_end.4 in cc (home, lane, room, job, places)

  board : c.choose-lane.new.cx.board ≡ c.args.cx.now.board
  board = c.choose-lane.ensures.unchanged

  own : (d : _) → get_or (set c.choose-lane.new.lanes c.choose-lane.result c.offer.new.sender) c.choose-lane.result d ≡ c.offer.new.sender
  own d = get_or-set_same c.choose-lane.new.lanes c.choose-lane.result c.offer.new.sender d within

  within_c : c.choose-lane.result < length (set c.choose-lane.new.lanes c.choose-lane.result c.offer.new.sender)
  within_c = subst (λ n. c.choose-lane.result < n) (sym (length-set c.choose-lane.new.lanes c.choose-lane.result c.offer.new.sender)) within

  -- a fact of the offer, after the looks
  at_offer : (P : g.row.S.Denot → g.row.S.Denot → Type 0) → P (get_or c.choose-lane.new.lanes c.choose-lane.result c.index-lanes-lane.result) c.offer.new.sender → SomeLane (IsFoundLast (IsLook g.S.LaneSender.found_held g.S.LaneSender.found_full g.S.LaneSender.found_closed) P) c.args.lanes.now (set c.choose-lane.new.lanes c.choose-lane.result c.offer.new.sender)
  at_offer P fact = (c.choose-lane.result, within_c, λ d. (get_or c.choose-lane.new.lanes c.choose-lane.result d, c.choose-lane.ensures.looked.looked c.choose-lane.result d within, subst (λ new. P (get_or c.choose-lane.new.lanes c.choose-lane.result d) new) (sym (own d)) (subst (λ old. P old c.offer.new.sender) (get_or_default c.choose-lane.new.lanes c.choose-lane.result c.index-lanes-lane.result d within) fact)))

  -- where the first lane refused the value, that was a look at it
  looked_c : (refused : SendError g.row.T.Denot) → IfFull refused (g.S.LaneSender.found_full c.offer.new.cx.board (get_or c.choose-lane.new.lanes c.choose-lane.result c.index-lanes-lane.result) c.offer.new.sender) → IfClosed refused (g.S.LaneSender.found_closed c.offer.new.cx.board (get_or c.choose-lane.new.lanes c.choose-lane.result c.index-lanes-lane.result) c.offer.new.sender) → g.S.LaneSender.sent c.offer.new.sender ≡ g.S.LaneSender.sent (get_or c.choose-lane.new.lanes c.choose-lane.result c.index-lanes-lane.result) → AreLookedAt (sender_seen g.S.LaneSender.home g.S.LaneSender.lane g.S.LaneSender.room g.S.LaneSender.job g.S.LaneSender.wait_places) g.S.LaneSender.sent (IsLook g.S.LaneSender.found_held g.S.LaneSender.found_full g.S.LaneSender.found_closed) c.args.lanes.now (set c.choose-lane.new.lanes c.choose-lane.result c.offer.new.sender)
  looked_c refused full closed same_sent =
      let why = by_refusal refused (g.S.LaneSender.found_full c.offer.new.cx.board (get_or c.choose-lane.new.lanes c.choose-lane.result c.index-lanes-lane.result) c.offer.new.sender) (g.S.LaneSender.found_closed c.offer.new.cx.board (get_or c.choose-lane.new.lanes c.choose-lane.result c.index-lanes-lane.result) c.offer.new.sender) full closed in
      looked_at-on (sender_seen g.S.LaneSender.home g.S.LaneSender.lane g.S.LaneSender.room g.S.LaneSender.job g.S.LaneSender.wait_places) g.S.LaneSender.sent (IsLook g.S.LaneSender.found_held g.S.LaneSender.found_full g.S.LaneSender.found_closed) c.args.lanes.now c.choose-lane.new.lanes (set c.choose-lane.new.lanes c.choose-lane.result c.offer.new.sender) c.choose-lane.ensures.looked
      (looked_at-one (sender_seen g.S.LaneSender.home g.S.LaneSender.lane g.S.LaneSender.room g.S.LaneSender.job g.S.LaneSender.wait_places) g.S.LaneSender.sent (IsLook g.S.LaneSender.found_held g.S.LaneSender.found_full g.S.LaneSender.found_closed) c.choose-lane.new.lanes c.choose-lane.result c.index-lanes-lane.result c.offer.new.sender within same_end same_sent (refused_look g.S.LaneSender.found_held g.S.LaneSender.found_full g.S.LaneSender.found_closed c.offer.new.cx.board (get_or c.choose-lane.new.lanes c.choose-lane.result c.index-lanes-lane.result) c.offer.new.sender why.2))

pub offer-requires-clause-suits : goal.offer-requires-clause-suits
offer-requires-clause-suits g c =
    let jobs = seen_still (λ e. e.job ≡ c.args.job.now.value) (sender_seen g.S.LaneSender.home g.S.LaneSender.lane g.S.LaneSender.room g.S.LaneSender.job g.S.LaneSender.wait_places) c.args.lanes.now c.choose-lane.new.lanes c.choose-lane.ensures.looked.same_seen c.requires.job in
    subst (λ job. g.T.Message.suits job c.args.value) (sym (jobs c.choose-lane.result c.index-lanes-lane.result c.choose-lane.ensures.within)) c.requires.suits

pub returns-in-Ok-clause-seen : goal.returns-in-Ok-clause-seen
returns-in-Ok-clause-seen g c = let at = (goal.at.returns-in-Ok-clause-seen g c).After-offer in map-set_same (sender_seen g.S.LaneSender.home g.S.LaneSender.lane g.S.LaneSender.room g.S.LaneSender.job g.S.LaneSender.wait_places) c.choose-lane.new.lanes c.choose-lane.result c.index-lanes-lane.result c.offer.new.sender (within g at) (same_end g at) ∙ c.choose-lane.ensures.looked.same_seen

pub returns-in-Ok-clause-sent : goal.returns-in-Ok-clause-sent
returns-in-Ok-clause-sent g c sent =
    let at = (goal.at.returns-in-Ok-clause-sent g c).After-offer in
    let lists = map g.S.LaneSender.sent c.args.lanes.now in
    let same = c.choose-lane.ensures.looked.same_sent in
    let one : get_or lists c.choose-lane.result [] ≡ g.S.LaneSender.sent (get_or c.choose-lane.new.lanes c.choose-lane.result c.index-lanes-lane.result) = ap (λ ls. get_or ls c.choose-lane.result []) (sym same) ∙ get_or-map g.S.LaneSender.sent c.choose-lane.new.lanes c.choose-lane.result c.index-lanes-lane.result [] (within g at) in
    let now : map g.S.LaneSender.sent (set c.choose-lane.new.lanes c.choose-lane.result c.offer.new.sender) ≡ set lists c.choose-lane.result (get_or lists c.choose-lane.result [] ++ c.args.value ∷ []) = map-set g.S.LaneSender.sent c.choose-lane.new.lanes c.choose-lane.result c.offer.new.sender ∙ ap (λ ls. set ls c.choose-lane.result (g.S.LaneSender.sent c.offer.new.sender)) same ∙ ap (λ xs. set lists c.choose-lane.result xs) (c.in-Ok.ensures.ok ∙ ap (λ xs. xs ++ c.args.value ∷ []) (sym one)) in
    let within_lists : c.choose-lane.result < length lists = subst (λ n. c.choose-lane.result < n) (sym (length-map c.args.lanes.now g.S.LaneSender.sent)) (subst (λ n. c.choose-lane.result < n) c.choose-lane.ensures.looked.long (within g at)) in
    subst (λ ls. AreSent ls c.offer.new.log.seat.me.0) (sym now) (sent-push lists c.args.log.now.seat.me.0 c.offer.new.log.seat.me.0 c.choose-lane.result c.args.value within_lists c.in-Ok.ensures.logged.0 c.in-Ok.ensures.logged.1 sent)

pub returns-in-Ok-clause-room : goal.returns-in-Ok-clause-room
returns-in-Ok-clause-room g c = let at = (goal.at.returns-in-Ok-clause-room g c).After-offer in at_offer g at (g.S.LaneSender.found_room c.offer.new.cx.board) c.in-Ok.ensures.room

pub returns-in-Ok-clause-woken : goal.returns-in-Ok-clause-woken
returns-in-Ok-clause-woken g c =
    let at = (goal.at.returns-in-Ok-clause-woken g c).After-offer in
    let found = c.in-Ok.ensures.woken in
    (found.0, at_offer g at (λ old new. g.S.LaneSender.found_waiting c.args.cx.now.board old new found.0) (subst (λ b. g.S.LaneSender.found_waiting b (get_or c.choose-lane.new.lanes c.choose-lane.result c.index-lanes-lane.result) c.offer.new.sender found.0) (board g at) found.1), found.2)

pub pass_from-requires-clause-job : goal.pass_from-requires-clause-job
pass_from-requires-clause-job g c =
    let at = (goal.at.pass_from-requires-clause-job g c).After-offer in
    let looked = looked_c g at c.in-Err.refused c.in-Err.ensures.full c.in-Err.ensures.closed c.in-Err.ensures.err in
    seen_still (λ e. e.job ≡ c.args.job.now.value) (sender_seen g.S.LaneSender.home g.S.LaneSender.lane g.S.LaneSender.room g.S.LaneSender.job g.S.LaneSender.wait_places) c.args.lanes.now (set c.choose-lane.new.lanes c.choose-lane.result c.offer.new.sender) looked.same_seen c.requires.job

module _ (g : Over) (c : After-pass_from g) where
  within_b : c.choose-lane.result < length c.choose-lane.new.lanes
  within_b = c.choose-lane.ensures.within

  same_end_b : (sender_seen g.S.LaneSender.home g.S.LaneSender.lane g.S.LaneSender.room g.S.LaneSender.job g.S.LaneSender.wait_places) c.offer.new.sender ≡ (sender_seen g.S.LaneSender.home g.S.LaneSender.lane g.S.LaneSender.room g.S.LaneSender.job g.S.LaneSender.wait_places) (get_or c.choose-lane.new.lanes c.choose-lane.result c.index-lanes-lane.result)
  same_end_b = let home = c.offer.ensures.same_end.0 in let lane = c.offer.ensures.same_end.1 in let room = c.offer.ensures.same_end.2 in let job = c.offer.ensures.same_end.3 in let places = c.offer.ensures.same_end.4 in cc (home, lane, room, job, places)

  looked_d : (refused : SendError g.row.T.Denot) → IfFull refused (g.S.LaneSender.found_full c.offer.new.cx.board (get_or c.choose-lane.new.lanes c.choose-lane.result c.index-lanes-lane.result) c.offer.new.sender) → IfClosed refused (g.S.LaneSender.found_closed c.offer.new.cx.board (get_or c.choose-lane.new.lanes c.choose-lane.result c.index-lanes-lane.result) c.offer.new.sender) → g.S.LaneSender.sent c.offer.new.sender ≡ g.S.LaneSender.sent (get_or c.choose-lane.new.lanes c.choose-lane.result c.index-lanes-lane.result) → AreLookedAt (sender_seen g.S.LaneSender.home g.S.LaneSender.lane g.S.LaneSender.room g.S.LaneSender.job g.S.LaneSender.wait_places) g.S.LaneSender.sent (IsLook g.S.LaneSender.found_held g.S.LaneSender.found_full g.S.LaneSender.found_closed) c.args.lanes.now (set c.choose-lane.new.lanes c.choose-lane.result c.offer.new.sender)
  looked_d refused full closed same_sent =
      let why = by_refusal refused (g.S.LaneSender.found_full c.offer.new.cx.board (get_or c.choose-lane.new.lanes c.choose-lane.result c.index-lanes-lane.result) c.offer.new.sender) (g.S.LaneSender.found_closed c.offer.new.cx.board (get_or c.choose-lane.new.lanes c.choose-lane.result c.index-lanes-lane.result) c.offer.new.sender) full closed in
      looked_at-on (sender_seen g.S.LaneSender.home g.S.LaneSender.lane g.S.LaneSender.room g.S.LaneSender.job g.S.LaneSender.wait_places) g.S.LaneSender.sent (IsLook g.S.LaneSender.found_held g.S.LaneSender.found_full g.S.LaneSender.found_closed) c.args.lanes.now c.choose-lane.new.lanes (set c.choose-lane.new.lanes c.choose-lane.result c.offer.new.sender) c.choose-lane.ensures.looked
      (looked_at-one (sender_seen g.S.LaneSender.home g.S.LaneSender.lane g.S.LaneSender.room g.S.LaneSender.job g.S.LaneSender.wait_places) g.S.LaneSender.sent (IsLook g.S.LaneSender.found_held g.S.LaneSender.found_full g.S.LaneSender.found_closed) c.choose-lane.new.lanes c.choose-lane.result c.index-lanes-lane.result c.offer.new.sender within_b same_end_b same_sent (refused_look g.S.LaneSender.found_held g.S.LaneSender.found_full g.S.LaneSender.found_closed c.offer.new.cx.board (get_or c.choose-lane.new.lanes c.choose-lane.result c.index-lanes-lane.result) c.offer.new.sender why.2))

  looked : AreLookedAt (sender_seen g.S.LaneSender.home g.S.LaneSender.lane g.S.LaneSender.room g.S.LaneSender.job g.S.LaneSender.wait_places) g.S.LaneSender.sent (IsLook g.S.LaneSender.found_held g.S.LaneSender.found_full g.S.LaneSender.found_closed) c.args.lanes.now (set c.choose-lane.new.lanes c.choose-lane.result c.offer.new.sender)
  looked = looked_d c.in-Err.refused c.in-Err.ensures.full c.in-Err.ensures.closed c.in-Err.ensures.err

  on_c : (lane : ℕ) → lane < length c.pass_from.new.lanes → lane < length (set c.choose-lane.new.lanes c.choose-lane.result c.offer.new.sender)
  on_c lane within = subst (λ n. lane < n) c.pass_from.ensures.long within

  -- a fact of the pass, after the looks
  some_after : (P : g.row.S.Denot → g.row.S.Denot → Type 0) → SomeLane P (set c.choose-lane.new.lanes c.choose-lane.result c.offer.new.sender) c.pass_from.new.lanes → SomeLane (IsFoundLast (IsLook g.S.LaneSender.found_held g.S.LaneSender.found_full g.S.LaneSender.found_closed) P) c.args.lanes.now c.pass_from.new.lanes
  some_after P some = (some.0, some.1, λ d. (get_or (set c.choose-lane.new.lanes c.choose-lane.result c.offer.new.sender) some.0 d, looked.looked some.0 d (on_c some.0 some.1), some.2 d))

  each_after : (P : g.row.S.Denot → g.row.S.Denot → Type 0) → EachLane P (set c.choose-lane.new.lanes c.choose-lane.result c.offer.new.sender) c.pass_from.new.lanes → EachLane (IsFoundLast (IsLook g.S.LaneSender.found_held g.S.LaneSender.found_full g.S.LaneSender.found_closed) P) c.args.lanes.now c.pass_from.new.lanes
  each_after P each lane d within_e = (get_or (set c.choose-lane.new.lanes c.choose-lane.result c.offer.new.sender) lane d, looked.looked lane d (on_c lane within_e), each lane d within_e)

pub returns-in-Err-clause-seen : goal.returns-in-Err-clause-seen
returns-in-Err-clause-seen g c = c.pass_from.ensures.seen ∙ (looked g ((goal.at.returns-in-Err-clause-seen g c).After-pass_from)).same_seen

pub returns-in-Err-clause-sent : goal.returns-in-Err-clause-sent
returns-in-Err-clause-sent g c sent =
    c.pass_from.ensures.sent (subst (λ ls. AreSent ls c.offer.new.log.seat.me.0) (sym (looked g ((goal.at.returns-in-Err-clause-sent g c).After-pass_from)).same_sent) (subst (λ log. AreSent (map g.S.LaneSender.sent c.args.lanes.now) log) (sym c.in-Err.ensures.same_log) sent))

pub returns-in-Err-clause-room : goal.returns-in-Err-clause-room
returns-in-Err-clause-room g c = on_ok c.pass_from.result (SomeLane (g.S.LaneSender.found_room c.pass_from.new.cx.board) (set c.choose-lane.new.lanes c.choose-lane.result c.offer.new.sender) c.pass_from.new.lanes) (SomeLane (IsFoundLast (IsLook g.S.LaneSender.found_held g.S.LaneSender.found_full g.S.LaneSender.found_closed) (g.S.LaneSender.found_room c.pass_from.new.cx.board)) c.args.lanes.now c.pass_from.new.lanes) (some_after g ((goal.at.returns-in-Err-clause-room g c).After-pass_from) (g.S.LaneSender.found_room c.pass_from.new.cx.board)) c.pass_from.ensures.room

pub returns-in-Err-clause-woken : goal.returns-in-Err-clause-woken
returns-in-Err-clause-woken g c =
    let same : c.offer.new.cx.board ≡ c.args.cx.now.board = c.in-Err.ensures.unchanged ∙ c.choose-lane.ensures.unchanged in
    on_ok c.pass_from.result (AreFoundWoken (λ tasks. SomeLane (λ old new. g.S.LaneSender.found_waiting c.offer.new.cx.board old new tasks) (set c.choose-lane.new.lanes c.choose-lane.result c.offer.new.sender) c.pass_from.new.lanes) c.pass_from.new.cx.wakes) (AreFoundWoken (λ tasks. SomeLane (IsFoundLast (IsLook g.S.LaneSender.found_held g.S.LaneSender.found_full g.S.LaneSender.found_closed) (λ old new. g.S.LaneSender.found_waiting c.args.cx.now.board old new tasks)) c.args.lanes.now c.pass_from.new.lanes) c.pass_from.new.cx.wakes)
    (λ found. (found.0, subst (λ b. SomeLane (IsFoundLast (IsLook g.S.LaneSender.found_held g.S.LaneSender.found_full g.S.LaneSender.found_closed) (λ old new. g.S.LaneSender.found_waiting b old new found.0)) c.args.lanes.now c.pass_from.new.lanes) same (some_after g ((goal.at.returns-in-Err-clause-woken g c).After-pass_from) (λ old new. g.S.LaneSender.found_waiting c.offer.new.cx.board old new found.0) found.1), found.2)) c.pass_from.ensures.woken

pub returns-in-Err-clause-looked : goal.returns-in-Err-clause-looked
returns-in-Err-clause-looked g c =
    on_err c.pass_from.result (EachLane (λ old new. g.S.LaneSender.found_full c.pass_from.new.cx.board old new ⊎ g.S.LaneSender.found_closed c.pass_from.new.cx.board old new) (set c.choose-lane.new.lanes c.choose-lane.result c.offer.new.sender) c.pass_from.new.lanes) (EachLane (IsLooked (IsLook g.S.LaneSender.found_held g.S.LaneSender.found_full g.S.LaneSender.found_closed)) c.args.lanes.now c.pass_from.new.lanes)
    (λ each lane d within_e. looked-more (IsLook g.S.LaneSender.found_held g.S.LaneSender.found_full g.S.LaneSender.found_closed) (get_or c.args.lanes.now lane d) (get_or (set c.choose-lane.new.lanes c.choose-lane.result c.offer.new.sender) lane d) (get_or c.pass_from.new.lanes lane d) ((looked g ((goal.at.returns-in-Err-clause-looked g c).After-pass_from)).looked lane d (on_c g ((goal.at.returns-in-Err-clause-looked g c).After-pass_from) lane within_e)) (refused_look g.S.LaneSender.found_held g.S.LaneSender.found_full g.S.LaneSender.found_closed c.pass_from.new.cx.board (get_or (set c.choose-lane.new.lanes c.choose-lane.result c.offer.new.sender) lane d) (get_or c.pass_from.new.lanes lane d) (each lane d within_e)))
    c.pass_from.ensures.refused

pub returns-in-Err-clause-full : goal.returns-in-Err-clause-full
returns-in-Err-clause-full g c =
    if_err c.pass_from.result (EachLane (λ old new. g.S.LaneSender.found_full c.pass_from.new.cx.board old new ⊎ g.S.LaneSender.found_closed c.pass_from.new.cx.board old new) (set c.choose-lane.new.lanes c.choose-lane.result c.offer.new.sender) c.pass_from.new.lanes)
    (λ refused. IfFull refused (SomeLane (g.S.LaneSender.found_full c.pass_from.new.cx.board) (set c.choose-lane.new.lanes c.choose-lane.result c.offer.new.sender) c.pass_from.new.lanes))
    (λ refused. IfFull refused (AreFull (IsLook g.S.LaneSender.found_held g.S.LaneSender.found_full g.S.LaneSender.found_closed) (g.S.LaneSender.found_full c.pass_from.new.cx.board) (g.S.LaneSender.found_closed c.pass_from.new.cx.board) c.args.lanes.now c.pass_from.new.lanes))
    (λ refused each some. if_full refused (SomeLane (g.S.LaneSender.found_full c.pass_from.new.cx.board) (set c.choose-lane.new.lanes c.choose-lane.result c.offer.new.sender) c.pass_from.new.lanes) (AreFull (IsLook g.S.LaneSender.found_held g.S.LaneSender.found_full g.S.LaneSender.found_closed) (g.S.LaneSender.found_full c.pass_from.new.cx.board) (g.S.LaneSender.found_closed c.pass_from.new.cx.board) c.args.lanes.now c.pass_from.new.lanes)
    (λ is. (
      λ lane d within_e. elim (each lane d within_e) [
        | inl full ↦ inl (get_or (set c.choose-lane.new.lanes c.choose-lane.result c.offer.new.sender) lane d, (looked g ((goal.at.returns-in-Err-clause-full g c).After-pass_from)).looked lane d (on_c g ((goal.at.returns-in-Err-clause-full g c).After-pass_from) lane within_e), full)
        | inr closed ↦ inr (get_or (set c.choose-lane.new.lanes c.choose-lane.result c.offer.new.sender) lane d, (looked g ((goal.at.returns-in-Err-clause-full g c).After-pass_from)).looked lane d (on_c g ((goal.at.returns-in-Err-clause-full g c).After-pass_from) lane within_e), closed)
      ],
      some_after g ((goal.at.returns-in-Err-clause-full g c).After-pass_from) (g.S.LaneSender.found_full c.pass_from.new.cx.board) is,
    )) some)
    c.pass_from.ensures.refused c.pass_from.ensures.full

pub returns-in-Err-clause-closed : goal.returns-in-Err-clause-closed
returns-in-Err-clause-closed g c =
    if_err c.pass_from.result (EachLane (λ old new. g.S.LaneSender.found_full c.pass_from.new.cx.board old new ⊎ g.S.LaneSender.found_closed c.pass_from.new.cx.board old new) (set c.choose-lane.new.lanes c.choose-lane.result c.offer.new.sender) c.pass_from.new.lanes)
    (λ refused. IfClosed refused (EachLane (g.S.LaneSender.found_closed c.pass_from.new.cx.board) (set c.choose-lane.new.lanes c.choose-lane.result c.offer.new.sender) c.pass_from.new.lanes))
    (λ refused. IfClosed refused (EachLane (IsFoundLast (IsLook g.S.LaneSender.found_held g.S.LaneSender.found_full g.S.LaneSender.found_closed) (g.S.LaneSender.found_closed c.pass_from.new.cx.board)) c.args.lanes.now c.pass_from.new.lanes))
    (λ refused _ each. if_closed refused (EachLane (g.S.LaneSender.found_closed c.pass_from.new.cx.board) (set c.choose-lane.new.lanes c.choose-lane.result c.offer.new.sender) c.pass_from.new.lanes) (EachLane (IsFoundLast (IsLook g.S.LaneSender.found_held g.S.LaneSender.found_full g.S.LaneSender.found_closed) (g.S.LaneSender.found_closed c.pass_from.new.cx.board)) c.args.lanes.now c.pass_from.new.lanes) (each_after g ((goal.at.returns-in-Err-clause-closed g c).After-pass_from) (g.S.LaneSender.found_closed c.pass_from.new.cx.board)) each)
    c.pass_from.ensures.refused c.pass_from.ensures.closed
