use Rattle.std.proofs.Common.{◌≡◌, ◌⊎◌, ◌<◌, ◌≤◌, ◌+◌, ℕ, All, [], ◌∷◌, ◌++◌, length, map, set, get_or, sym, ap, subst, ◌∙◌, inl, inr, arith, length-set, get_or-set_same, get_or-set_other}
use Rattle.std.proofs.lemmas.Bool.{cases_eq, or_cases}
use Rattle.std.proofs.lemmas.List.{get_or-map, get_or_default, length-map, map-set}
use Rattle.std.proofs.lemmas.List.Elements.{All-set}
use Rattle.morsel_merge.specs.Ends.{sender_seen}
use Rattle.morsel_merge.specs.Merging.{SameOutside}
use Rattle.morsel_merge.specs.Spread.{AreSent, sent_values}
use Rattle.morsel_merge.proofs.AskLemmas.{map-set_same, wakes_next}
use Rattle.morsel_merge.proofs.SpreadLemmas.{by_refusal, neither, sent-push}
use Rattle.morsel_merge.proofs.spread.pass.Given.{Over}
use Rattle.morsel_merge.proofs.spread.pass.Goals.{After-offer}
use Rattle.morsel_merge.proofs.spread.pass.Goals as goal

module _ (g : Over) (c : After-offer g) where
  within : c.loop-lane.lane < length c.loop-lane.lanes
  within = omega (arith, c.loop-lane.invariant.long, c.loop-lane-test.true, c.requires.within.1)

  from_at : c.args.from ≤ c.loop-lane.lane
  from_at = omega (arith, c.loop-lane.auto.lane)

  step_home : All (λ end. g.S.LaneSender.home end ≡ (g.B.Board.id c.args.cx.now.board).lane_table) (set c.loop-lane.lanes c.loop-lane.lane c.offer.new.sender)
  step_home = All-set (λ end. g.S.LaneSender.home end ≡ (g.B.Board.id c.args.cx.now.board).lane_table) c.loop-lane.lanes c.loop-lane.lane c.offer.new.sender (c.offer.ensures.same_end.0 ∙ c.loop-lane.invariant.home c.loop-lane.lane c.index-lanes-lane.result within) c.loop-lane.invariant.home

  step_job : All (λ end. g.S.LaneSender.job end ≡ c.args.job.now.value) (set c.loop-lane.lanes c.loop-lane.lane c.offer.new.sender)
  step_job = All-set (λ end. g.S.LaneSender.job end ≡ c.args.job.now.value) c.loop-lane.lanes c.loop-lane.lane c.offer.new.sender (c.offer.ensures.same_end.3 ∙ c.loop-lane.invariant.job c.loop-lane.lane c.index-lanes-lane.result within) c.loop-lane.invariant.job

  step_seen : map (sender_seen g.S.LaneSender.home g.S.LaneSender.lane g.S.LaneSender.room g.S.LaneSender.job g.S.LaneSender.wait_places) (set c.loop-lane.lanes c.loop-lane.lane c.offer.new.sender) ≡ map (sender_seen g.S.LaneSender.home g.S.LaneSender.lane g.S.LaneSender.room g.S.LaneSender.job g.S.LaneSender.wait_places) c.args.lanes.now
  step_seen =
      let home = c.offer.ensures.same_end.0 in let lane = c.offer.ensures.same_end.1 in let room = c.offer.ensures.same_end.2 in let job = c.offer.ensures.same_end.3 in let places = c.offer.ensures.same_end.4 in
      let same : sender_seen g.S.LaneSender.home g.S.LaneSender.lane g.S.LaneSender.room g.S.LaneSender.job g.S.LaneSender.wait_places c.offer.new.sender ≡ sender_seen g.S.LaneSender.home g.S.LaneSender.lane g.S.LaneSender.room g.S.LaneSender.job g.S.LaneSender.wait_places (get_or c.loop-lane.lanes c.loop-lane.lane c.index-lanes-lane.result) = cc (home, lane, room, job, places) in
      map-set_same (sender_seen g.S.LaneSender.home g.S.LaneSender.lane g.S.LaneSender.room g.S.LaneSender.job g.S.LaneSender.wait_places) c.loop-lane.lanes c.loop-lane.lane c.index-lanes-lane.result c.offer.new.sender within same ∙ c.loop-lane.invariant.seen

  step_other : (i : ℕ) (d : _) → (i ≡ c.loop-lane.lane → ⊥) → get_or (set c.loop-lane.lanes c.loop-lane.lane c.offer.new.sender) i d ≡ get_or c.loop-lane.lanes i d
  step_other i d other = get_or-set_other c.loop-lane.lanes c.loop-lane.lane i c.offer.new.sender d other

  not_before : (i : ℕ) → i < c.args.from → i ≡ c.loop-lane.lane → ⊥
  not_before i before e = omega (arith, e, before, from_at)

  not_after : (i : ℕ) → c.loop-lane.lane + 1 ≤ i → i ≡ c.loop-lane.lane → ⊥
  not_after i after e = omega (arith, e, after)

  step_outside : SameOutside c.args.from c.args.to c.args.lanes.now (set c.loop-lane.lanes c.loop-lane.lane c.offer.new.sender)
  step_outside i d outside = elim outside [
    | inl before ↦ step_other i d (not_before i before) ∙ c.loop-lane.invariant.before i d before
    | inr after ↦ step_other i d (not_after i (omega (arith, after, c.loop-lane-test.true))) ∙ c.loop-lane.invariant.after i d (omega (arith, after, c.loop-lane-test.true))
  ]

  own : (d : _) → get_or (set c.loop-lane.lanes c.loop-lane.lane c.offer.new.sender) c.loop-lane.lane d ≡ c.offer.new.sender
  own d = get_or-set_same c.loop-lane.lanes c.loop-lane.lane c.offer.new.sender d within

  was : (d : _) → get_or c.loop-lane.lanes c.loop-lane.lane c.index-lanes-lane.result ≡ get_or c.args.lanes.now c.loop-lane.lane d
  was d = get_or_default c.loop-lane.lanes c.loop-lane.lane c.index-lanes-lane.result d within ∙ c.loop-lane.invariant.after c.loop-lane.lane d (omega arith)

  -- a fact of this step, of the lane before and after
  at_step : (P : g.row.S.Denot → g.row.S.Denot → Type 0) → P (get_or c.loop-lane.lanes c.loop-lane.lane c.index-lanes-lane.result) c.offer.new.sender → (d : _) → P (get_or c.args.lanes.now c.loop-lane.lane d) (get_or (set c.loop-lane.lanes c.loop-lane.lane c.offer.new.sender) c.loop-lane.lane d)
  at_step P fact d = subst (λ new. P (get_or c.args.lanes.now c.loop-lane.lane d) new) (sym (own d)) (subst (λ old. P old c.offer.new.sender) (was d) fact)

  -- a fact of an earlier step
  at_other : (P : g.row.S.Denot → g.row.S.Denot → Type 0) (i : ℕ) (d : _) → i < c.loop-lane.lane → P (get_or c.args.lanes.now i d) (get_or c.loop-lane.lanes i d) → P (get_or c.args.lanes.now i d) (get_or (set c.loop-lane.lanes c.loop-lane.lane c.offer.new.sender) i d)
  at_other P i d before fact = subst (λ new. P (get_or c.args.lanes.now i d) new) (sym (step_other i d (λ e. omega (arith, e, before)))) fact

pub returns-in-Ok-clause-seen : goal.returns-in-Ok-clause-seen
returns-in-Ok-clause-seen g c = step_seen g (goal.at.returns-in-Ok-clause-seen g c).After-offer

pub returns-in-Ok-clause-sent : goal.returns-in-Ok-clause-sent
returns-in-Ok-clause-sent g c sent =
    let at = (goal.at.returns-in-Ok-clause-sent g c).After-offer in
    let k = c.loop-lane.lane in
    let lists = map g.S.LaneSender.sent c.args.lanes.now in
    let one : get_or lists k [] ≡ g.S.LaneSender.sent (get_or c.loop-lane.lanes k c.index-lanes-lane.result) = ap (λ ls. get_or ls k []) (sym c.loop-lane.invariant.sent) ∙ get_or-map g.S.LaneSender.sent c.loop-lane.lanes k c.index-lanes-lane.result [] (within g at) in
    let now : map g.S.LaneSender.sent (set c.loop-lane.lanes k c.offer.new.sender) ≡ set lists k (get_or lists k [] ++ c.args.value ∷ []) =
    map-set g.S.LaneSender.sent c.loop-lane.lanes k c.offer.new.sender ∙ ap (λ ls. set ls k (g.S.LaneSender.sent c.offer.new.sender)) c.loop-lane.invariant.sent
    ∙ ap (λ xs. set lists k xs) (c.in-Ok.ensures.ok ∙ ap (λ xs. xs ++ c.loop-lane.value ∷ []) (sym one) ∙ ap (λ v. get_or lists k [] ++ v ∷ []) c.loop-lane.invariant.value) in
    let within_lists : k < length lists = subst (λ n. k < n) (sym (length-map c.args.lanes.now g.S.LaneSender.sent)) (subst (λ n. k < n) c.loop-lane.invariant.long (within g at)) in
    subst (λ ls. AreSent ls c.offer.new.log.seat.me.0) (sym now)
    (sent-push lists c.args.log.now.seat.me.0 c.offer.new.log.seat.me.0 k c.args.value within_lists
    (c.in-Ok.ensures.logged.0 ∙ ap (λ log. map (λ s. s.lane) log ++ k ∷ []) c.loop-lane.invariant.log)
    (c.in-Ok.ensures.logged.1 ∙ ap (λ log. sent_values log ++ c.loop-lane.value ∷ []) c.loop-lane.invariant.log ∙ ap (λ v. sent_values c.args.log.now.seat.me.0 ++ v ∷ []) c.loop-lane.invariant.value) sent)

pub loop-lane-preserved : goal.loop-lane-preserved
loop-lane-preserved g c =
    let at = (goal.at.loop-lane-preserved g c).After-offer in
    let k = c.loop-lane.lane in
    let refused = c.in-Err.refused in
    let unchanged = c.in-Err.ensures.unchanged ∙ c.loop-lane.invariant.board in
    let old = get_or c.loop-lane.lanes k c.index-lanes-lane.result in
    let why = by_refusal refused (g.S.LaneSender.found_full c.offer.new.cx.board old c.offer.new.sender) (g.S.LaneSender.found_closed c.offer.new.cx.board old c.offer.new.sender) c.in-Err.ensures.full c.in-Err.ensures.closed in
    let full_here : g.S.LaneSender.found_full c.offer.new.cx.board old c.offer.new.sender → (d : g.row.S.Denot) → g.S.LaneSender.found_full c.args.cx.now.board (get_or c.args.lanes.now k d) (get_or (set c.loop-lane.lanes k c.offer.new.sender) k d) =
    λ fact d. at_step g at (λ s s'. g.S.LaneSender.found_full c.args.cx.now.board s s') (subst (λ b. g.S.LaneSender.found_full b old c.offer.new.sender) unchanged fact) d in
    let closed_here : g.S.LaneSender.found_closed c.offer.new.cx.board old c.offer.new.sender → (d : g.row.S.Denot) → g.S.LaneSender.found_closed c.args.cx.now.board (get_or c.args.lanes.now k d) (get_or (set c.loop-lane.lanes k c.offer.new.sender) k d) =
    λ fact d. at_step g at (λ s s'. g.S.LaneSender.found_closed c.args.cx.now.board s s') (subst (λ b. g.S.LaneSender.found_closed b old c.offer.new.sender) unchanged fact) d in
    record {
      long = length-set c.loop-lane.lanes k c.offer.new.sender ∙ c.loop-lane.invariant.long;
      home = step_home g at;
      job = step_job g at;
      seen = step_seen g at;
      sent = map-set_same g.S.LaneSender.sent c.loop-lane.lanes k c.index-lanes-lane.result c.offer.new.sender (within g at) c.in-Err.ensures.err ∙ c.loop-lane.invariant.sent;
      before = λ lane d before. step_other g at lane d (not_before g at lane before) ∙ c.loop-lane.invariant.before lane d before;
      after = λ lane d after. step_other g at lane d (not_after g at lane after) ∙ c.loop-lane.invariant.after lane d (omega (arith, after));
      refused = λ lane d from before. elim (cases_eq lane k) [
        | inl same ↦ subst (λ i. g.S.LaneSender.found_full c.args.cx.now.board (get_or c.args.lanes.now i d) (get_or (set c.loop-lane.lanes k c.offer.new.sender) i d) ⊎ g.S.LaneSender.found_closed c.args.cx.now.board (get_or c.args.lanes.now i d) (get_or (set c.loop-lane.lanes k c.offer.new.sender) i d)) (sym same)
            (elim why.2 [ inl full ↦ inl (full_here full d) | inr closed ↦ inr (closed_here closed d) ])
        | inr other ↦ at_other g at (λ s s'. g.S.LaneSender.found_full c.args.cx.now.board s s' ⊎ g.S.LaneSender.found_closed c.args.cx.now.board s s') lane d (omega (arith, before, other)) (c.loop-lane.invariant.refused lane d from (omega (arith, before, other)))
      ];
      full = λ some. elim (or_cases c.loop-lane.full c.parts-was_full.result.0 some) [
        | inl earlier ↦ let found = c.loop-lane.invariant.full earlier in (found.0, found.1, omega (arith, found.2), λ d. at_other g at (λ s s'. g.S.LaneSender.found_full c.args.cx.now.board s s') found.0 d found.2 (found.3 d))
        | inr here ↦ (k, from_at g at, omega arith, full_here (why.0 (sym c.parts-was_full.ensures.full ∙ here)))
      ];
      closed = λ none lane d from before.
          let both = neither c.loop-lane.full c.parts-was_full.result.0 none in
          elim (cases_eq lane k) [
            | inl same ↦ subst (λ i. g.S.LaneSender.found_closed c.args.cx.now.board (get_or c.args.lanes.now i d) (get_or (set c.loop-lane.lanes k c.offer.new.sender) i d)) (sym same) (closed_here (why.1 (sym c.parts-was_full.ensures.full ∙ both.1)) d)
            | inr other ↦ at_other g at (λ s s'. g.S.LaneSender.found_closed c.args.cx.now.board s s') lane d (omega (arith, before, other)) (c.loop-lane.invariant.closed both.0 lane d from (omega (arith, before, other)))
          ];
      log = c.in-Err.ensures.same_log ∙ c.loop-lane.invariant.log;
      table = c.offer.ensures.same_table ∙ c.loop-lane.invariant.table;
      value = c.parts-was_full.ensures.value ∙ c.in-Err.ensures.back ∙ c.loop-lane.invariant.value;
      board = unchanged;
      me = c.offer.ensures.same_task ∙ c.loop-lane.invariant.me;
      wakes = wakes_next c.args.cx.now.wakes c.loop-lane.cx.wakes c.offer.new.cx.wakes c.loop-lane.invariant.wakes c.offer.ensures.wakes;
    }
