use Rattle.std.proofs.Common.{◌≡◌, ◌≤◌, List, map, refl, sym, subst, ◌∙◌}
use Rattle.std.specs.Vec.{with_items}
use Rattle.std.proofs.lemmas.List.{with_items_is}
use Rattle.morsel_merge.specs.Ends.{sender_seen}
use Rattle.morsel_merge.specs.Spread.{AreHeld, AreSameLanes, AreSent}
use Rattle.morsel_merge.proofs.SearchLemmas.{places_seen, rooms_seen}
use Rattle.morsel_merge.proofs.SpreadLemmas.{seen_still}
use Rattle.morsel_merge.proofs.distributor.DistSenderLaneSenderBoard.len_bound.Given.{Over}
use Rattle.morsel_merge.proofs.distributor.DistSenderLaneSenderBoard.len_bound.Goals.{After-held_bound}
use Rattle.morsel_merge.proofs.distributor.DistSenderLaneSenderBoard.len_bound.Goals as goal

module _ (g : Over) (c : After-held_bound g) where
  items : (with_items c.args.self.now.lanes c.held_bound.new.lanes).items ≡ c.held_bound.new.lanes
  items = with_items_is c.args.self.now.lanes c.held_bound.new.lanes (c.held_bound.ensures.looked.long ∙ c.deref_mut.ensures.len)

  -- a fact of the lanes before and after, of the sender before and after
  both : (P : List g.row.M-Sender.Denot → List g.row.M-Sender.Denot → Type 0) → P c.deref_mut.result.now c.held_bound.new.lanes → P c.args.self.now.lanes.items (with_items c.args.self.now.lanes c.held_bound.new.lanes).items
  both P fact = subst (λ xs. P c.args.self.now.lanes.items xs) (sym items) (subst (λ xs. P xs c.held_bound.new.lanes) c.deref_mut.ensures.value fact)

  same : AreSameLanes (sender_seen g.M.Sender.LaneSender.home g.M.Sender.LaneSender.lane g.M.Sender.LaneSender.room g.M.Sender.LaneSender.job g.M.Sender.LaneSender.wait_places) c.args.self.now.lanes.items (with_items c.args.self.now.lanes c.held_bound.new.lanes).items
  same = both (λ olds news. map (sender_seen g.M.Sender.LaneSender.home g.M.Sender.LaneSender.lane g.M.Sender.LaneSender.room g.M.Sender.LaneSender.job g.M.Sender.LaneSender.wait_places) news ≡ map (sender_seen g.M.Sender.LaneSender.home g.M.Sender.LaneSender.lane g.M.Sender.LaneSender.room g.M.Sender.LaneSender.job g.M.Sender.LaneSender.wait_places) olds) c.held_bound.ensures.looked.same_seen

pub invariant_of-self-clause-homes : goal.invariant_of-self-clause-homes
invariant_of-self-clause-homes g c = seen_still (λ e. e.home ≡ (g.M.Board.Board.id c.args.self.now.board.value).lane_table) (sender_seen g.M.Sender.LaneSender.home g.M.Sender.LaneSender.lane g.M.Sender.LaneSender.room g.M.Sender.LaneSender.job g.M.Sender.LaneSender.wait_places) c.args.self.now.lanes.items (with_items c.args.self.now.lanes c.held_bound.new.lanes).items (same g ((goal.at.invariant_of-self-clause-homes g c).After-held_bound)) c.args.self.now.homes

pub invariant_of-self-clause-jobs : goal.invariant_of-self-clause-jobs
invariant_of-self-clause-jobs g c = seen_still (λ e. e.job ≡ c.args.self.now.job.value) (sender_seen g.M.Sender.LaneSender.home g.M.Sender.LaneSender.lane g.M.Sender.LaneSender.room g.M.Sender.LaneSender.job g.M.Sender.LaneSender.wait_places) c.args.self.now.lanes.items (with_items c.args.self.now.lanes c.held_bound.new.lanes).items (same g ((goal.at.invariant_of-self-clause-jobs g c).After-held_bound)) c.args.self.now.jobs

pub invariant_of-self-clause-rooms : goal.invariant_of-self-clause-rooms
invariant_of-self-clause-rooms g c = seen_still (λ e. e.room ≤ 65536) (sender_seen g.M.Sender.LaneSender.home g.M.Sender.LaneSender.lane g.M.Sender.LaneSender.room g.M.Sender.LaneSender.job g.M.Sender.LaneSender.wait_places) c.args.self.now.lanes.items (with_items c.args.self.now.lanes c.held_bound.new.lanes).items (same g ((goal.at.invariant_of-self-clause-rooms g c).After-held_bound)) c.args.self.now.rooms

pub invariant_of-self-clause-sent : goal.invariant_of-self-clause-sent
invariant_of-self-clause-sent g c =
    both g ((goal.at.invariant_of-self-clause-sent g c).After-held_bound) (λ olds news. AreSent (map g.M.Sender.LaneSender.sent olds) c.args.self.now.log.seat.me.0 → AreSent (map g.M.Sender.LaneSender.sent news) c.args.self.now.log.seat.me.0) (λ sent. subst (λ ls. AreSent ls c.args.self.now.log.seat.me.0) (sym c.held_bound.ensures.looked.same_sent) sent) c.args.self.now.sent

pub returns-clause-same_end : goal.returns-clause-same_end
returns-clause-same_end g c =
    let at = (goal.at.returns-clause-same_end g c).After-held_bound in
    (refl, refl, rooms_seen (sender_seen g.M.Sender.LaneSender.home g.M.Sender.LaneSender.lane g.M.Sender.LaneSender.room g.M.Sender.LaneSender.job g.M.Sender.LaneSender.wait_places) (λ e. e.room) c.args.self.now.lanes.items (with_items c.args.self.now.lanes c.held_bound.new.lanes).items (same g at), refl, places_seen (sender_seen g.M.Sender.LaneSender.home g.M.Sender.LaneSender.lane g.M.Sender.LaneSender.room g.M.Sender.LaneSender.job g.M.Sender.LaneSender.wait_places) (λ e. e.places) c.args.self.now.lanes.items (with_items c.args.self.now.lanes c.held_bound.new.lanes).items (same g at))

pub returns-clause-at_least : goal.returns-clause-at_least
returns-clause-at_least g c =
    let at = (goal.at.returns-clause-at_least g c).After-held_bound in
    let held = c.held_bound.ensures.at_least in
    (held.0, (same g at, both g at (λ olds news. AreHeld (g.M.Sender.LaneSender.found_held c.held_bound.new.cx.board) olds news held.0) held.1), held.2)
