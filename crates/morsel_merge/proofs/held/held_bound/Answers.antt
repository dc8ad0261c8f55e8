use Rattle.std.proofs.Common.{◌≡◌, ◌<◌, ◌≤◌, [], ◌∷◌, ◌++◌, length, map, set, get_or, sum, refl, sym, ap, subst, ◌∙◌, inl, arith, get_or-set_other}
use Rattle.std.proofs.lemmas.List.{get_or-map, get_or_default, length-map, length_push}
use Rattle.std.proofs.lemmas.List.Elements.{All-set}
use Rattle.morsel_merge.specs.Ends.{sender_seen}
use Rattle.morsel_merge.specs.Spread.{IsLook}
use Rattle.morsel_merge.proofs.AskLemmas.{wakes_next}
use Rattle.morsel_merge.proofs.HeldLemmas.{held-push, sum-push, sum-take_more}
use Rattle.morsel_merge.proofs.SpreadLemmas.{looked_at-on, looked_at-one}
use Rattle.morsel_merge.proofs.held.held_bound.Goals as goal

pub loop-lane-preserved : goal.loop-lane-preserved
loop-lane-preserved g c =
    let k = c.loop-lane.lane in
    let lanes = c.loop-lane.lanes in
    let news = c.len_bound-bound.new.self in
    let default = c.index-lanes-lane.result in
    let facts = c.len_bound-bound.ensures in
    let rooms = map g.S.LaneSender.room c.args.lanes.now in
    let within : k < length lanes = omega (arith, c.loop-lane.invariant.looked.long, c.loop-lane-test.true) in
    let within_old : k < length c.args.lanes.now = c.loop-lane-test.true in
    let was : (d : _) → get_or lanes k default ≡ get_or c.args.lanes.now k d = λ d. get_or_default lanes k default d within ∙ c.loop-lane.invariant.after k d (omega arith) in
    let home = facts.same_end.0 in let lane = facts.same_end.1 in let room = facts.same_end.2 in let job = facts.same_end.3 in let places = facts.same_end.4 in
    let same : sender_seen g.S.LaneSender.home g.S.LaneSender.lane g.S.LaneSender.room g.S.LaneSender.job g.S.LaneSender.wait_places news ≡ sender_seen g.S.LaneSender.home g.S.LaneSender.lane g.S.LaneSender.room g.S.LaneSender.job g.S.LaneSender.wait_places (get_or lanes k default) = cc (home, lane, room, job, places) in
    let own : g.S.LaneSender.room (get_or lanes k default) ≡ get_or rooms k 0 = ap g.S.LaneSender.room (was default) ∙ sym (get_or-map g.S.LaneSender.room c.args.lanes.now k default 0 within_old) in
    let small : g.S.LaneSender.room (get_or lanes k default) ≤ 65536 = subst (λ s. g.S.LaneSender.room s ≤ 65536) (sym (was default)) (c.requires.rooms k default within_old) in
    let most = facts.at_most in
    let held = c.loop-lane.invariant.held in
    let count = facts.at_least.0 in
    let unchanged = facts.unchanged ∙ c.loop-lane.invariant.board in
    record {
      home = All-set (λ end. g.S.LaneSender.home end ≡ (g.B.Board.id c.args.cx.now.board).lane_table) lanes k news (home ∙ c.loop-lane.invariant.home k default within) c.loop-lane.invariant.home;
      looked = looked_at-on (sender_seen g.S.LaneSender.home g.S.LaneSender.lane g.S.LaneSender.room g.S.LaneSender.job g.S.LaneSender.wait_places) g.S.LaneSender.sent (IsLook g.S.LaneSender.found_held g.S.LaneSender.found_full g.S.LaneSender.found_closed) c.args.lanes.now lanes (set lanes k news) c.loop-lane.invariant.looked
          (looked_at-one (sender_seen g.S.LaneSender.home g.S.LaneSender.lane g.S.LaneSender.room g.S.LaneSender.job g.S.LaneSender.wait_places) g.S.LaneSender.sent (IsLook g.S.LaneSender.found_held g.S.LaneSender.found_full g.S.LaneSender.found_closed) lanes k default news within same facts.sent (c.len_bound-bound.new.cx.board, inl (facts.at_least.0, facts.at_least.1)));
      after = λ i d after. get_or-set_other lanes k i news d (λ e. omega (arith, e, after)) ∙ c.loop-lane.invariant.after i d (omega (arith, after));
      held = (
        held.0 ++ count ∷ [],
        omega (arith, length_push held.0 count, held.1),
        omega (arith, sum-push held.0 count, held.2, facts.at_least.2),
        held-push (g.S.LaneSender.found_held c.args.cx.now.board) c.args.lanes.now lanes held.0 k news count held.1 within
            (λ d. subst (λ old. g.S.LaneSender.found_held c.args.cx.now.board old news count) (was d) (subst (λ b. g.S.LaneSender.found_held b (get_or lanes k default) news count) unchanged facts.at_least.1)) held.3,
      );
      most = omega (arith, sum-take_more rooms k (subst (λ n. k < n) (sym (length-map c.args.lanes.now g.S.LaneSender.room)) within_old), own, most, c.loop-lane.invariant.most);
      small = omega (arith, small, most, c.loop-lane.invariant.small);
      board = unchanged;
      me = facts.same_task ∙ c.loop-lane.invariant.me;
      wakes = wakes_next c.args.cx.now.wakes c.loop-lane.cx.wakes c.len_bound-bound.new.cx.wakes c.loop-lane.invariant.wakes facts.wakes;
    }

pub returns-clause-at_least : goal.returns-clause-at_least
returns-clause-at_least g c =
    let held = c.loop-lane.invariant.held in
    let end : length c.loop-lane.lanes ≡ c.loop-lane.lane = omega (arith, c.loop-lane.invariant.looked.long, c.loop-lane-test.false, c.loop-lane.auto.lane-end) in
    (sum held.0, (held.0, held.1 ∙ sym end, refl, λ lane d within. subst (λ b. g.S.LaneSender.found_held b (get_or c.args.lanes.now lane d) (get_or c.loop-lane.lanes lane d) (get_or held.0 lane 0)) (sym c.loop-lane.invariant.board) (held.3 lane d (subst (λ n. lane < n) end within))), held.2)
