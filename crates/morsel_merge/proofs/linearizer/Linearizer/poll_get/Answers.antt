use Rattle.std.proofs.Common.{◌≡◌, ◌++◌, All, List, None, true, false, ◌<◌, ◌≤◌, ◌⊎◌, inl, inr, map, get_or, sym, ap, subst, ◌∙◌}
use Rattle.std.specs.Vec.{with_items}
use Rattle.std.proofs.lemmas.Bool.{cases_lt}
use Rattle.std.proofs.lemmas.List.{append-nil, with_items_is}
use Rattle.morsel_prims.specs.declared.poll.Poll.TheVariants.{Ready}
use Rattle.morsel_merge.specs.Got.{got_list}
use Rattle.morsel_merge.specs.Merging.{AreHeldOrWhole, IsMerged, IsMerging}
use Rattle.morsel_merge.proofs.MergeLemmas.{merged}
use Rattle.morsel_merge.proofs.linearizer.Linearizer.poll_get.Given.{Over}
use Rattle.morsel_merge.proofs.linearizer.Linearizer.poll_get.Goals.{After-ask_lanes-stop}
use Rattle.morsel_merge.proofs.linearizer.Linearizer.poll_get.Goals as goal

module _ (g : Over) (c : After-ask_lanes-stop g) where
  receivers : (with_items c.args.self.now.receivers c.ask_lanes-stop.new.receivers).items ≡ c.ask_lanes-stop.new.receivers
  receivers = with_items_is c.args.self.now.receivers c.ask_lanes-stop.new.receivers (c.ask_lanes-stop.ensures.long.0 ∙ c.deref_mut.ensures.len)

  held : (with_items c.args.self.now.held c.ask_lanes-stop.new.held).items ≡ c.ask_lanes-stop.new.held
  held = with_items_is c.args.self.now.held c.ask_lanes-stop.new.held (c.ask_lanes-stop.ensures.long.1 ∙ c.deref_mut-2.ensures.len)

  merging : (given : List _) → IsMerging g.T.Ord.cmp (g.T.Message.suits c.args.self.now.job.value) (map g.M.Receiver.LaneReceiver.taken c.args.self.now.receivers.items) c.args.self.now.held.items c.args.self.now.from c.args.self.now.to given
      → IsMerging g.T.Ord.cmp (g.T.Message.suits c.args.self.now.job.value) (map g.M.Receiver.LaneReceiver.taken (with_items c.args.self.now.receivers c.ask_lanes-stop.new.receivers).items) (with_items c.args.self.now.held c.ask_lanes-stop.new.held).items c.ask_lanes-stop.result.lane c.args.self.now.to given
  merging given was =
      let taken = ap (λ rs. map g.M.Receiver.LaneReceiver.taken rs) receivers in
      subst (λ ts. IsMerging g.T.Ord.cmp (g.T.Message.suits c.args.self.now.job.value) ts (with_items c.args.self.now.held c.ask_lanes-stop.new.held).items c.ask_lanes-stop.result.lane c.args.self.now.to given) (sym taken)
      (subst (λ hs. IsMerging g.T.Ord.cmp (g.T.Message.suits c.args.self.now.job.value) (map g.M.Receiver.LaneReceiver.taken c.ask_lanes-stop.new.receivers) hs c.ask_lanes-stop.result.lane c.args.self.now.to given) (sym held)
      (c.ask_lanes-stop.ensures.merging given
      (subst (λ rs. IsMerging g.T.Ord.cmp (g.T.Message.suits c.args.self.now.job.value) (map g.M.Receiver.LaneReceiver.taken rs) c.deref_mut-2.result.now c.args.self.now.from c.args.self.now.to given) (sym c.deref_mut.ensures.value)
      (subst (λ hs. IsMerging g.T.Ord.cmp (g.T.Message.suits c.args.self.now.job.value) (map g.M.Receiver.LaneReceiver.taken c.args.self.now.receivers.items) hs c.args.self.now.from c.args.self.now.to given) (sym c.deref_mut-2.ensures.value) was))))

  -- the lanes that were asked hold a value or have ended, and the others do so still
  asked_on : AreHeldOrWhole g.M.Receiver.LaneReceiver.is_whole c.ask_lanes-stop.new.receivers c.ask_lanes-stop.new.held c.ask_lanes-stop.result.lane c.args.self.now.to
  asked_on i d within outside none =
      let was : AreHeldOrWhole g.M.Receiver.LaneReceiver.is_whole c.deref_mut.result.now c.deref_mut-2.result.now c.args.self.now.from c.args.self.now.to =
      subst (λ rs. AreHeldOrWhole g.M.Receiver.LaneReceiver.is_whole rs c.deref_mut-2.result.now c.args.self.now.from c.args.self.now.to) (sym c.deref_mut.ensures.value) (subst (λ hs. AreHeldOrWhole g.M.Receiver.LaneReceiver.is_whole c.args.self.now.receivers.items hs c.args.self.now.from c.args.self.now.to) (sym c.deref_mut-2.ensures.value) c.args.self.now.asked) in
      let still : (i < c.args.self.now.from) ⊎ (c.args.self.now.to ≤ i) → g.M.Receiver.LaneReceiver.is_whole (get_or c.ask_lanes-stop.new.receivers i d) ≡ true = λ out. ap g.M.Receiver.LaneReceiver.is_whole (c.ask_lanes-stop.ensures.others.0 i d out) ∙ was i d (subst (λ n. i < n) c.ask_lanes-stop.ensures.long.0 within) out (sym (c.ask_lanes-stop.ensures.others.1 i None out) ∙ none) in
      elim outside [
        | inr after ↦ still (inr after)
        | inl before ↦ elim (cases_lt i c.args.self.now.from) [ inl first ↦ still (inl first) | inr later ↦ c.ask_lanes-stop.ensures.whole i d later before none ]
      ]

pub returns-in-Empty-clause-merging : goal.returns-in-Empty-clause-merging
returns-in-Empty-clause-merging g c given was =
    let at = (goal.at.returns-in-Empty-clause-merging g c).After-ask_lanes-stop in
    subst (λ xs. IsMerging g.T.Ord.cmp (g.T.Message.suits c.args.self.now.job.value) (map g.M.Receiver.LaneReceiver.taken (with_items c.args.self.now.receivers c.ask_lanes-stop.new.receivers).items) (with_items c.args.self.now.held c.ask_lanes-stop.new.held).items c.ask_lanes-stop.result.lane c.args.self.now.to xs) (sym (append-nil given)) (merging g at given was)

pub returns-in-Cut-clause-merging : goal.returns-in-Cut-clause-merging
returns-in-Cut-clause-merging g c given was =
    let at = (goal.at.returns-in-Cut-clause-merging g c).After-ask_lanes-stop in
    subst (λ xs. IsMerging g.T.Ord.cmp (g.T.Message.suits c.args.self.now.job.value) (map g.M.Receiver.LaneReceiver.taken (with_items c.args.self.now.receivers c.ask_lanes-stop.new.receivers).items) (with_items c.args.self.now.held c.ask_lanes-stop.new.held).items c.ask_lanes-stop.result.lane c.args.self.now.to xs) (sym (append-nil given)) (merging g at given was)

pub returns-in-Asked-clause-merging : goal.returns-in-Asked-clause-merging
returns-in-Asked-clause-merging g c given was =
    let at = (goal.at.returns-in-Asked-clause-merging g c).After-ask_lanes-stop in
    subst (λ rs. IsMerging g.T.Ord.cmp (g.T.Message.suits c.args.self.now.job.value) (map g.M.Receiver.LaneReceiver.taken rs.items) c.give.new.self.held.items c.give.new.self.from c.give.new.self.to (given ++ got_list (Ready c.give.result))) (sym c.give.ensures.same_receivers) (c.give.ensures.merging given (merging g at given was))

pub returns-in-Empty-clause-empty : goal.returns-in-Empty-clause-empty
returns-in-Empty-clause-empty g c d =
    let at = (goal.at.returns-in-Empty-clause-empty g c).After-ask_lanes-stop in
    let found = (c.ask_lanes-stop.ensures.empty c.in-Empty.is).1 d in
    subst (λ rs. g.M.Receiver.LaneReceiver.found_empty c.ask_lanes-stop.new.cx.board (get_or c.args.self.now.receivers.items c.ask_lanes-stop.result.lane d) (get_or rs c.ask_lanes-stop.result.lane d)) (sym (receivers g at))
    (subst (λ rs. g.M.Receiver.LaneReceiver.found_empty c.ask_lanes-stop.new.cx.board (get_or rs c.ask_lanes-stop.result.lane d) (get_or c.ask_lanes-stop.new.receivers c.ask_lanes-stop.result.lane d)) c.deref_mut.ensures.value found.0)

pub returns-in-Empty-clause-registered : goal.returns-in-Empty-clause-registered
returns-in-Empty-clause-registered g c d =
    let at = (goal.at.returns-in-Empty-clause-registered g c).After-ask_lanes-stop in
    let found = (c.ask_lanes-stop.ensures.empty c.in-Empty.is).1 d in
    subst (λ rs. g.M.Receiver.LaneReceiver.registered c.ask_lanes-stop.new.cx.board (get_or c.args.self.now.receivers.items c.ask_lanes-stop.result.lane d) (get_or rs c.ask_lanes-stop.result.lane d) c.args.cx.now.me) (sym (receivers g at))
    (subst (λ rs. g.M.Receiver.LaneReceiver.registered c.ask_lanes-stop.new.cx.board (get_or rs c.ask_lanes-stop.result.lane d) (get_or c.ask_lanes-stop.new.receivers c.ask_lanes-stop.result.lane d) c.args.cx.now.me) c.deref_mut.ensures.value found.1)

pub returns-in-Cut-clause-cut : goal.returns-in-Cut-clause-cut
returns-in-Cut-clause-cut g c =
    let at = (goal.at.returns-in-Cut-clause-cut g c).After-ask_lanes-stop in
    let found = c.ask_lanes-stop.ensures.cut c.in-Cut.is in
    λ _. (found.0, λ d. ap (λ rs. g.M.Receiver.LaneReceiver.is_cut (get_or rs c.ask_lanes-stop.result.lane d)) (receivers g at) ∙ (found.1 d).0)

pub returns-in-Cut-clause-found_cut : goal.returns-in-Cut-clause-found_cut
returns-in-Cut-clause-found_cut g c =
    let at = (goal.at.returns-in-Cut-clause-found_cut g c).After-ask_lanes-stop in
    let found = c.ask_lanes-stop.ensures.cut c.in-Cut.is in
    λ _ d. subst (λ rs. g.M.Receiver.LaneReceiver.found_ended c.ask_lanes-stop.new.cx.board (get_or rs c.ask_lanes-stop.result.lane d) false) (sym (receivers g at)) (found.1 d).1

pub returns-in-Asked-clause-suits : goal.returns-in-Asked-clause-suits
returns-in-Asked-clause-suits g c given was = let at = (goal.at.returns-in-Asked-clause-suits g c).After-ask_lanes-stop in c.give.ensures.suits given (merging g at given was)

pub returns-in-Asked-clause-merged : goal.returns-in-Asked-clause-merged
returns-in-Asked-clause-merged g c end given was =
    let at = (goal.at.returns-in-Asked-clause-merged g c).After-ask_lanes-stop in
    subst (λ rs. IsMerged g.T.Ord.cmp (map g.M.Receiver.LaneReceiver.taken rs.items) given) (sym c.give.ensures.same_receivers)
    (merged g.T.Ord.cmp (g.T.Message.suits c.args.self.now.job.value) g.met.T.Ord.total (map g.M.Receiver.LaneReceiver.taken (with_items c.args.self.now.receivers c.ask_lanes-stop.new.receivers).items) (with_items c.args.self.now.held c.ask_lanes-stop.new.held).items c.ask_lanes-stop.result.lane c.args.self.now.to given (c.give.ensures.none end) (merging g at given was))

pub invariant_of-self-clause-homes : goal.invariant_of-self-clause-homes
invariant_of-self-clause-homes g c =
    let at = (goal.at.invariant_of-self-clause-homes g c).After-ask_lanes-stop in
    subst (λ rs. All (λ end. g.M.Receiver.LaneReceiver.home end ≡ (g.M.Board.Board.id c.args.self.now.board.value).lane_table) rs) (sym (receivers g at))
    (subst (λ table. All (λ end. g.M.Receiver.LaneReceiver.home end ≡ table) c.ask_lanes-stop.new.receivers) (sym c.requires.home) c.ask_lanes-stop.ensures.home)

pub invariant_of-self-clause-jobs : goal.invariant_of-self-clause-jobs
invariant_of-self-clause-jobs g c =
    let at = (goal.at.invariant_of-self-clause-jobs g c).After-ask_lanes-stop in
    subst (λ rs. All (λ end. g.M.Receiver.LaneReceiver.job end ≡ c.args.self.now.job.value) rs) (sym (receivers g at)) c.ask_lanes-stop.ensures.job

pub invariant_of-self-clause-asked : goal.invariant_of-self-clause-asked
invariant_of-self-clause-asked g c =
    let at = (goal.at.invariant_of-self-clause-asked g c).After-ask_lanes-stop in
    subst (λ rs. AreHeldOrWhole g.M.Receiver.LaneReceiver.is_whole rs (with_items c.args.self.now.held c.ask_lanes-stop.new.held).items c.ask_lanes-stop.result.lane c.args.self.now.to) (sym (receivers g at))
    (subst (λ hs. AreHeldOrWhole g.M.Receiver.LaneReceiver.is_whole c.ask_lanes-stop.new.receivers hs c.ask_lanes-stop.result.lane c.args.self.now.to) (sym (held g at)) (asked_on g at))
