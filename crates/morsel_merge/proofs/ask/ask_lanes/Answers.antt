use Rattle.std.proofs.Common.{◌≡◌, ◌<◌, ◌≤◌, ◌+◌, ℕ, true, false, All, List, [], ◌∷◌, ◌++◌, Contains, None, Some, length, map, set, get_or, sym, ap, subst, ◌∙◌, inl, inr, arith, length-set, get_or-set_same, get_or-set_other}
use Rattle.std.specs.List.{flat_map}
use Rattle.std.proofs.lemmas.Bool.{cases_eq}
use Rattle.std.proofs.lemmas.List.{get_or-map, get_or_default, length-map, map-set, set-get_or}
use Rattle.std.proofs.lemmas.List.Elements.{All-set}
use Rattle.morsel_prims.specs.Waiting.{KeepsOthersWaiting}
use Rattle.morsel_merge.specs.Ends.{receiver_seen}
use Rattle.morsel_merge.specs.Merging.{IsAnswered, IsMerging, SameOutside}
use Rattle.morsel_merge.specs.declared.ask.Cause.TheVariants.{Asked, Cut}
use Rattle.morsel_merge.proofs.AskLemmas.{flat_map-set_same, map-set_same, places_of_one, wait_next, wakes_next}
use Rattle.morsel_merge.proofs.MergeLemmas.{merging-past, merging-take}
use Rattle.morsel_merge.proofs.ask.ask_lanes.Given.{Over}
use Rattle.morsel_merge.proofs.ask.ask_lanes.Goals.{After-ask}
use Rattle.morsel_merge.proofs.ask.ask_lanes.Goals as goal

module _ (g : Over) (c : After-ask g) where
  within : c.loop-lane.lane < length c.loop-lane.receivers
  within = omega (arith, c.loop-lane.invariant.long, c.loop-lane-test.true, c.requires.within.1)

  within_held : c.loop-lane.lane < length c.loop-lane.held
  within_held = omega (arith, c.loop-lane.invariant.held_long, c.loop-lane-test.true, c.requires.within.1, c.requires.long)

  from_at : c.args.from ≤ c.loop-lane.lane
  from_at = omega (arith, c.loop-lane.auto.lane)

  step_home : All (λ end. g.R.LaneReceiver.home end ≡ (g.B.Board.id c.args.cx.now.board).lane_table) (set c.loop-lane.receivers c.loop-lane.lane c.ask.new.receiver)
  step_home = All-set (λ end. g.R.LaneReceiver.home end ≡ (g.B.Board.id c.args.cx.now.board).lane_table) c.loop-lane.receivers c.loop-lane.lane c.ask.new.receiver (c.ask.ensures.same_end.0 ∙ c.loop-lane.invariant.home c.loop-lane.lane c.index-receivers-lane.result within) c.loop-lane.invariant.home

  step_job : All (λ end. g.R.LaneReceiver.job end ≡ c.args.job.now.value) (set c.loop-lane.receivers c.loop-lane.lane c.ask.new.receiver)
  step_job = All-set (λ end. g.R.LaneReceiver.job end ≡ c.args.job.now.value) c.loop-lane.receivers c.loop-lane.lane c.ask.new.receiver (c.ask.ensures.same_end.2 ∙ c.loop-lane.invariant.job c.loop-lane.lane c.index-receivers-lane.result within) c.loop-lane.invariant.job

  -- what is seen of the lanes stays
  step_seen : map (receiver_seen g.R.LaneReceiver.home g.R.LaneReceiver.lane g.R.LaneReceiver.job g.R.LaneReceiver.wait_places) (set c.loop-lane.receivers c.loop-lane.lane c.ask.new.receiver) ≡ map (receiver_seen g.R.LaneReceiver.home g.R.LaneReceiver.lane g.R.LaneReceiver.job g.R.LaneReceiver.wait_places) c.args.receivers.now
  step_seen =
      let home = c.ask.ensures.same_end.0 in let lane = c.ask.ensures.same_end.1 in let job = c.ask.ensures.same_end.2 in let places = c.ask.ensures.same_end.3 in
      let same : receiver_seen g.R.LaneReceiver.home g.R.LaneReceiver.lane g.R.LaneReceiver.job g.R.LaneReceiver.wait_places c.ask.new.receiver ≡ receiver_seen g.R.LaneReceiver.home g.R.LaneReceiver.lane g.R.LaneReceiver.job g.R.LaneReceiver.wait_places (get_or c.loop-lane.receivers c.loop-lane.lane c.index-receivers-lane.result) = cc (home, lane, job, places) in
      map-set_same (receiver_seen g.R.LaneReceiver.home g.R.LaneReceiver.lane g.R.LaneReceiver.job g.R.LaneReceiver.wait_places) c.loop-lane.receivers c.loop-lane.lane c.index-receivers-lane.result c.ask.new.receiver within same ∙ c.loop-lane.invariant.seen

  step_places : flat_map g.R.LaneReceiver.wait_places (set c.loop-lane.receivers c.loop-lane.lane c.ask.new.receiver) ≡ flat_map g.R.LaneReceiver.wait_places c.args.receivers.now
  step_places = flat_map-set_same g.R.LaneReceiver.wait_places c.loop-lane.receivers c.loop-lane.lane c.index-receivers-lane.result c.ask.new.receiver within c.ask.ensures.same_end.3 ∙ c.loop-lane.invariant.places

  step_waiting : KeepsOthersWaiting (flat_map g.R.LaneReceiver.wait_places c.args.receivers.now) c.args.cx.now.me (g.B.Board.waits_at c.args.cx.now.board) (g.B.Board.waits_at c.ask.new.cx.board) c.ask.new.cx.wakes
  step_waiting =
      wait_next (flat_map g.R.LaneReceiver.wait_places c.args.receivers.now) (g.R.LaneReceiver.wait_places (get_or c.loop-lane.receivers c.loop-lane.lane c.index-receivers-lane.result)) c.args.cx.now.me c.loop-lane.cx.me (g.B.Board.waits_at c.args.cx.now.board) (g.B.Board.waits_at c.loop-lane.cx.board) (g.B.Board.waits_at c.ask.new.cx.board) c.loop-lane.cx.wakes c.ask.new.cx.wakes c.loop-lane.invariant.me c.ask.ensures.wakes
      (λ place has. subst (λ places. Contains places place) c.loop-lane.invariant.places (places_of_one g.R.LaneReceiver.wait_places c.loop-lane.receivers c.loop-lane.lane c.index-receivers-lane.result within place has))
      c.loop-lane.invariant.waiting c.ask.ensures.keeps_waiting

  -- the other lanes are as they were
  step_other : (i : ℕ) (d : _) → (i ≡ c.loop-lane.lane → ⊥) → get_or (set c.loop-lane.receivers c.loop-lane.lane c.ask.new.receiver) i d ≡ get_or c.loop-lane.receivers i d
  step_other i d other = get_or-set_other c.loop-lane.receivers c.loop-lane.lane i c.ask.new.receiver d other

  held_other : (i : ℕ) (d : _) → (i ≡ c.loop-lane.lane → ⊥) → get_or (set c.loop-lane.held c.loop-lane.lane c.ask.new.held) i d ≡ get_or c.loop-lane.held i d
  held_other i d other = get_or-set_other c.loop-lane.held c.loop-lane.lane i c.ask.new.held d other

  not_before : (i : ℕ) → i < c.args.from → i ≡ c.loop-lane.lane → ⊥
  not_before i before e = omega (arith, e, before, from_at)

  not_after : (i : ℕ) → c.loop-lane.lane + 1 ≤ i → i ≡ c.loop-lane.lane → ⊥
  not_after i after e = omega (arith, e, after)

  step_outside : SameOutside c.args.from c.args.to c.args.receivers.now (set c.loop-lane.receivers c.loop-lane.lane c.ask.new.receiver)
  step_outside i d outside = elim outside [
    | inl before ↦ step_other i d (not_before i before) ∙ c.loop-lane.invariant.before i d before
    | inr after ↦ step_other i d (not_after i (omega (arith, after, c.loop-lane-test.true))) ∙ c.loop-lane.invariant.after i d (omega (arith, after, c.loop-lane-test.true))
  ]

  held_outside : SameOutside c.args.from c.args.to c.args.held.now (set c.loop-lane.held c.loop-lane.lane c.ask.new.held)
  held_outside i d outside = elim outside [
    | inl before ↦ held_other i d (not_before i before) ∙ c.loop-lane.invariant.held_before i d before
    | inr after ↦ held_other i d (not_after i (omega (arith, after, c.loop-lane-test.true))) ∙ c.loop-lane.invariant.held_after i d (omega (arith, after, c.loop-lane-test.true))
  ]

  step_whole : (lane : ℕ) (d : _) → c.args.from ≤ lane → lane < c.loop-lane.lane → get_or (set c.loop-lane.held c.loop-lane.lane c.ask.new.held) lane None ≡ None → g.R.LaneReceiver.is_whole (get_or (set c.loop-lane.receivers c.loop-lane.lane c.ask.new.receiver) lane d) ≡ true
  step_whole lane d from before none =
      let other : lane ≡ c.loop-lane.lane → ⊥ = λ e. omega (arith, e, before) in
      ap g.R.LaneReceiver.is_whole (step_other lane d other) ∙ c.loop-lane.invariant.whole lane d from before (sym (held_other lane None other) ∙ none)

  -- where the lane gave nothing
  same_taken : g.R.LaneReceiver.taken c.ask.new.receiver ≡ g.R.LaneReceiver.taken (get_or c.loop-lane.receivers c.loop-lane.lane c.index-receivers-lane.result) → map g.R.LaneReceiver.taken (set c.loop-lane.receivers c.loop-lane.lane c.ask.new.receiver) ≡ map g.R.LaneReceiver.taken c.loop-lane.receivers
  same_taken same = map-set_same g.R.LaneReceiver.taken c.loop-lane.receivers c.loop-lane.lane c.index-receivers-lane.result c.ask.new.receiver within same

  same_held : c.ask.new.held ≡ get_or c.loop-lane.held c.loop-lane.lane c.index-held-lane.result → set c.loop-lane.held c.loop-lane.lane c.ask.new.held ≡ c.loop-lane.held
  same_held same = ap (λ h. set c.loop-lane.held c.loop-lane.lane h) same ∙ set-get_or c.loop-lane.held c.loop-lane.lane c.index-held-lane.result

  merging_still : (lane : ℕ) → (map g.R.LaneReceiver.taken (set c.loop-lane.receivers c.loop-lane.lane c.ask.new.receiver) ≡ map g.R.LaneReceiver.taken c.loop-lane.receivers) → (set c.loop-lane.held c.loop-lane.lane c.ask.new.held ≡ c.loop-lane.held) → (given : List _)
      → IsMerging g.T.Ord.cmp (g.T.Message.suits c.args.job.now.value) (map g.R.LaneReceiver.taken c.loop-lane.receivers) c.loop-lane.held lane c.args.to given → IsMerging g.T.Ord.cmp (g.T.Message.suits c.args.job.now.value) (map g.R.LaneReceiver.taken (set c.loop-lane.receivers c.loop-lane.lane c.ask.new.receiver)) (set c.loop-lane.held c.loop-lane.lane c.ask.new.held) lane c.args.to given
  merging_still lane taken held given merging =
      subst (λ ts. IsMerging g.T.Ord.cmp (g.T.Message.suits c.args.job.now.value) ts (set c.loop-lane.held c.loop-lane.lane c.ask.new.held) lane c.args.to given) (sym taken)
      (subst (λ hs. IsMerging g.T.Ord.cmp (g.T.Message.suits c.args.job.now.value) (map g.R.LaneReceiver.taken c.loop-lane.receivers) hs lane c.args.to given) (sym held) merging)

  merging_next : IsAnswered (g.T.Message.suits (g.R.LaneReceiver.job (get_or c.loop-lane.receivers c.loop-lane.lane c.index-receivers-lane.result))) (g.R.LaneReceiver.taken (get_or c.loop-lane.receivers c.loop-lane.lane c.index-receivers-lane.result)) (g.R.LaneReceiver.taken c.ask.new.receiver) (g.R.LaneReceiver.is_whole c.ask.new.receiver) (get_or c.loop-lane.held c.loop-lane.lane c.index-held-lane.result) c.ask.new.held → (given : List _)
      → IsMerging g.T.Ord.cmp (g.T.Message.suits c.args.job.now.value) (map g.R.LaneReceiver.taken c.loop-lane.receivers) c.loop-lane.held c.loop-lane.lane c.args.to given → IsMerging g.T.Ord.cmp (g.T.Message.suits c.args.job.now.value) (map g.R.LaneReceiver.taken (set c.loop-lane.receivers c.loop-lane.lane c.ask.new.receiver)) (set c.loop-lane.held c.loop-lane.lane c.ask.new.held) (c.loop-lane.lane + 1) c.args.to given
  merging_next (inr past) given merging = merging_still (c.loop-lane.lane + 1) (same_taken past.1) (same_held past.0) given (merging-past g.T.Ord.cmp (g.T.Message.suits c.args.job.now.value) g.met.T.Ord.total (map g.R.LaneReceiver.taken c.loop-lane.receivers) c.loop-lane.held c.loop-lane.lane c.args.to given merging)
  merging_next (inl took) given merging =
      let taken = map g.R.LaneReceiver.taken c.loop-lane.receivers in
      let job = c.loop-lane.invariant.job c.loop-lane.lane c.index-receivers-lane.result within in
      let one = get_or-map g.R.LaneReceiver.taken c.loop-lane.receivers c.loop-lane.lane c.index-receivers-lane.result [] within in
      let lists : map g.R.LaneReceiver.taken (set c.loop-lane.receivers c.loop-lane.lane c.ask.new.receiver) ≡ set taken c.loop-lane.lane (get_or taken c.loop-lane.lane [] ++ took.0 ∷ []) = map-set g.R.LaneReceiver.taken c.loop-lane.receivers c.loop-lane.lane c.ask.new.receiver ∙ ap (λ xs. set taken c.loop-lane.lane xs) (took.2 ∙ ap (λ xs. xs ++ took.0 ∷ []) (sym one)) in
      subst (λ ts. IsMerging g.T.Ord.cmp (g.T.Message.suits c.args.job.now.value) ts (set c.loop-lane.held c.loop-lane.lane c.ask.new.held) (c.loop-lane.lane + 1) c.args.to given) (sym lists)
      (subst (λ h. IsMerging g.T.Ord.cmp (g.T.Message.suits c.args.job.now.value) (set taken c.loop-lane.lane (get_or taken c.loop-lane.lane [] ++ took.0 ∷ [])) (set c.loop-lane.held c.loop-lane.lane h) (c.loop-lane.lane + 1) c.args.to given) (sym took.1)
      (merging-take g.T.Ord.cmp (g.T.Message.suits c.args.job.now.value) g.met.T.Ord.total taken c.loop-lane.held c.loop-lane.lane c.args.to given took.0 c.loop-lane-test.true (subst (λ n. c.loop-lane.lane < n) (sym (length-map c.loop-lane.receivers g.R.LaneReceiver.taken)) within) within_held (subst (λ j. g.T.Message.suits j took.0) job took.3) merging))

  -- a lane that holds nothing after it was asked has ended whole
  whole_next : IsAnswered (g.T.Message.suits (g.R.LaneReceiver.job (get_or c.loop-lane.receivers c.loop-lane.lane c.index-receivers-lane.result))) (g.R.LaneReceiver.taken (get_or c.loop-lane.receivers c.loop-lane.lane c.index-receivers-lane.result)) (g.R.LaneReceiver.taken c.ask.new.receiver) (g.R.LaneReceiver.is_whole c.ask.new.receiver) (get_or c.loop-lane.held c.loop-lane.lane c.index-held-lane.result) c.ask.new.held
      → get_or (set c.loop-lane.held c.loop-lane.lane c.ask.new.held) c.loop-lane.lane None ≡ None → g.R.LaneReceiver.is_whole c.ask.new.receiver ≡ true
  whole_next (inr past) none = past.2
  whole_next (inl took) none = let own = get_or-set_same c.loop-lane.held c.loop-lane.lane c.ask.new.held None within_held in let e : None ≡ Some took.0 = sym none ∙ own ∙ took.1 in cc (e)

  -- a lane that was cut is not passed
  not_cut : c.ask.result ≡ Asked → g.R.LaneReceiver.is_cut (get_or c.loop-lane.receivers c.loop-lane.lane c.index-receivers-lane.result) ≡ true → ⊥
  not_cut asked cut = let e : Asked ≡ Cut = sym asked ∙ c.ask.ensures.again cut in cc (e)

pub returns-in_default : goal.returns-in_default
returns-in_default g c =
    let at = (goal.at.returns-in_default g c).After-ask in
    let not_asked = c.in_default.not-Asked in
    let default = c.index-receivers-lane.result in
    let own : (d : _) → get_or (set c.loop-lane.receivers c.loop-lane.lane c.ask.new.receiver) c.loop-lane.lane d ≡ c.ask.new.receiver = λ d. get_or-set_same c.loop-lane.receivers c.loop-lane.lane c.ask.new.receiver d (within g at) in
    let was : (d : _) → get_or c.loop-lane.receivers c.loop-lane.lane default ≡ get_or c.args.receivers.now c.loop-lane.lane d = λ d. get_or_default c.loop-lane.receivers c.loop-lane.lane default d (within g at) ∙ c.loop-lane.invariant.after c.loop-lane.lane d (omega arith) in
    record {
      within = (from_at g at, omega (arith, c.loop-lane-test.true));
      long = (length-set c.loop-lane.receivers c.loop-lane.lane c.ask.new.receiver ∙ c.loop-lane.invariant.long, length-set c.loop-lane.held c.loop-lane.lane c.ask.new.held ∙ c.loop-lane.invariant.held_long);
      asked = λ asked. absurd (not_asked asked);
      home = step_home g at;
      job = step_job g at;
      seen = step_seen g at;
      merging = λ given merging. merging_still g at c.loop-lane.lane (same_taken g at (c.ask.ensures.same_taken not_asked)) (same_held g at (c.ask.ensures.same_held not_asked)) given (c.loop-lane.invariant.merging given merging);
      whole = step_whole g at;
      others = (step_outside g at, held_outside g at);
      empty = λ is. (
        c.loop-lane-test.true,
        λ d. let found = c.ask.ensures.empty is in (
          subst (λ new. g.R.LaneReceiver.found_empty c.ask.new.cx.board (get_or c.args.receivers.now c.loop-lane.lane d) new) (sym (own d)) (subst (λ old. g.R.LaneReceiver.found_empty c.ask.new.cx.board old c.ask.new.receiver) (was d) found.0),
          subst (λ new. g.R.LaneReceiver.registered c.ask.new.cx.board (get_or c.args.receivers.now c.loop-lane.lane d) new c.args.cx.now.me) (sym (own d)) (subst (λ old. g.R.LaneReceiver.registered c.ask.new.cx.board old c.ask.new.receiver c.args.cx.now.me) (was d) (subst (λ me. g.R.LaneReceiver.registered c.ask.new.cx.board (get_or c.loop-lane.receivers c.loop-lane.lane default) c.ask.new.receiver me) c.loop-lane.invariant.me found.1)),
        ),
      );
      cut = λ is. (
        c.loop-lane-test.true,
        λ d. let found = c.ask.ensures.cut is in
            (ap g.R.LaneReceiver.is_cut (own d) ∙ found.0, subst (λ new. g.R.LaneReceiver.found_ended c.ask.new.cx.board new false) (sym (own d)) found.1),
      );
      again = λ some cut. elim (cases_eq c.args.from c.loop-lane.lane) [
        | inl same ↦ (sym same, c.ask.ensures.again (ap g.R.LaneReceiver.is_cut (was default ∙ ap (λ k. get_or c.args.receivers.now k default) (sym same)) ∙ cut default))
        | inr other ↦ absurd (c.loop-lane.invariant.again (omega (arith, from_at g at, other)) cut)
      ];
      keeps_waiting = step_waiting g at;
      same_board = c.ask.ensures.same_board ∙ c.loop-lane.invariant.board;
      same_task = c.ask.ensures.same_task ∙ c.loop-lane.invariant.me;
      wakes = wakes_next c.args.cx.now.wakes c.loop-lane.cx.wakes c.ask.new.cx.wakes c.loop-lane.invariant.wakes c.ask.ensures.wakes;
    }

pub returns-clause-merging : goal.returns-clause-merging
returns-clause-merging g c given merging =
    let end : c.loop-lane.lane ≡ c.args.to = omega (arith, c.loop-lane-test.false, c.loop-lane.auto, c.requires.within.0) in
    subst (λ lane. IsMerging g.T.Ord.cmp (g.T.Message.suits c.args.job.now.value) (map g.R.LaneReceiver.taken c.loop-lane.receivers) c.loop-lane.held lane c.args.to given) end (c.loop-lane.invariant.merging given merging)

pub loop-lane-preserved : goal.loop-lane-preserved
loop-lane-preserved g c =
    let at = (goal.at.loop-lane-preserved g c).After-ask in
    let asked : c.ask.result ≡ Asked = c.in-Asked.is in
    let answered = c.ask.ensures.asked asked in
    let default = c.index-receivers-lane.result in
    record {
      long = length-set c.loop-lane.receivers c.loop-lane.lane c.ask.new.receiver ∙ c.loop-lane.invariant.long;
      held_long = length-set c.loop-lane.held c.loop-lane.lane c.ask.new.held ∙ c.loop-lane.invariant.held_long;
      home = step_home g at;
      job = step_job g at;
      seen = step_seen g at;
      places = step_places g at;
      merging = λ given merging. merging_next g at answered given (c.loop-lane.invariant.merging given merging);
      whole = λ lane d from before none. elim (cases_eq lane c.loop-lane.lane) [
        | inl same ↦ subst (λ k. g.R.LaneReceiver.is_whole (get_or (set c.loop-lane.receivers c.loop-lane.lane c.ask.new.receiver) k d) ≡ true) (sym same)
            (ap g.R.LaneReceiver.is_whole (get_or-set_same c.loop-lane.receivers c.loop-lane.lane c.ask.new.receiver d (within g at)) ∙ whole_next g at answered (subst (λ k. get_or (set c.loop-lane.held c.loop-lane.lane c.ask.new.held) k None ≡ None) same none))
        | inr other ↦ step_whole g at lane d from (omega (arith, before, other)) none
      ];
      before = λ lane d before. step_other g at lane d (not_before g at lane before) ∙ c.loop-lane.invariant.before lane d before;
      after = λ lane d after. step_other g at lane d (not_after g at lane after) ∙ c.loop-lane.invariant.after lane d (omega (arith, after));
      held_before = λ lane d before. held_other g at lane d (not_before g at lane before) ∙ c.loop-lane.invariant.held_before lane d before;
      held_after = λ lane d after. held_other g at lane d (not_after g at lane after) ∙ c.loop-lane.invariant.held_after lane d (omega (arith, after));
      again = λ some cut. elim (cases_eq c.args.from c.loop-lane.lane) [
        | inl same ↦ not_cut g at asked (ap g.R.LaneReceiver.is_cut (c.loop-lane.invariant.after c.loop-lane.lane default (omega arith) ∙ ap (λ k. get_or c.args.receivers.now k default) (sym same)) ∙ cut default)
        | inr other ↦ c.loop-lane.invariant.again (omega (arith, from_at g at, other)) cut
      ];
      waiting = step_waiting g at;
      board = c.ask.ensures.same_board ∙ c.loop-lane.invariant.board;
      me = c.ask.ensures.same_task ∙ c.loop-lane.invariant.me;
      wakes = wakes_next c.args.cx.now.wakes c.loop-lane.cx.wakes c.ask.new.cx.wakes c.loop-lane.invariant.wakes c.ask.ensures.wakes;
    }
