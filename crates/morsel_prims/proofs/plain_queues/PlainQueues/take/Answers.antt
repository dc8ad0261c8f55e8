use Rattle.std.proofs.Common.{rules, ap, sym, refl, ◌∙◌, subst, ◌≡◌, set, [], ◌∷◌, ◌++◌, Some, None, drop, slice_get, length, ◌-◌}
use Rattle.morsel_prims.specs.Marks.{ArePlainLanes, are_sendable, recv_waits_of, send_waits_of, sent_row}
use Rattle.morsel_prims.specs.Rows.{IsNext, place_of_row, list_of_row}
use Rattle.circular_buffer.proofs.Places.{slice_get-set_same}
use Rattle.morsel_prims.proofs.MarkLemmas.{next_of_lane, taken_within, found, lane_changes, lane_waits, taken_changes, lane_gives, all_was_taken, only_lane, first_rest, none_first, popped_none, sendable-first, first_job}
use Rattle.morsel_prims.proofs.plain_queues.PlainQueues.take.Goals as goal

pub index_mut-lane-requires : goal.index_mut-lane-requires
index_mut-lane-requires g c = let small = taken_within _ _ _ _ _ c.args.self.now.kept c.look.ensures.list c.requires.place in search rules

pub invariant_of-self : goal.invariant_of-self
invariant_of-self g c =
    let small = taken_within _ _ _ _ _ c.args.self.now.kept c.look.ensures.list c.requires.place in let there = found _ _ _ small c.index_mut-lane.ensures.value in
    let none : slice_get c.index_mut-lane.result.now.queue.items 0 ≡ None = search rules in
    record {
      kept = subst (λ rs. ArePlainLanes rs (set c.args.self.now.lanes.items c.args.index (record { queue = c.pop_front.new.self; room = c.index_mut-lane.result.now.room; shut = c.index_mut-lane.result.now.shut; send_waits = c.index_mut-lane.result.now.send_waits; recv_waits = c.index_mut-lane.result.now.recv_waits })))
          (sym c.look.ensures.same.1)
          (lane_changes _ _ _ c.index_mut-lane.result.now _ c.args.self.now.kept small there (λ sent taken. lane_waits sent taken c.index_mut-lane.result.now _ refl refl (c.pop_front.ensures.items ∙ popped_none _ (none_first _ none))));
    }

pub returns-in_default-clause-empty : goal.returns-in_default-clause-empty
returns-in_default-clause-empty g c _ =
    let small = taken_within _ _ _ _ _ c.args.self.now.kept c.look.ensures.list c.requires.place in let none : slice_get c.index_mut-lane.result.now.queue.items 0 ≡ None = search rules in
    (_, slice_get-set_same c.args.self.now.lanes.items c.args.index _ small, ap (λ b. b.items) c.pop_front.ensures.items ∙ ap (drop 1) (none_first _ none))

pub invariant_of-self-2 : goal.invariant_of-self-2
invariant_of-self-2 g c =
    let small = taken_within _ _ _ _ _ c.args.self.now.kept c.look.ensures.list c.requires.place in let there = found _ _ _ small c.index_mut-lane.ensures.value in
    let head : slice_get c.index_mut-lane.result.now.queue.items 0 ≡ Some c.in-Some.mark = search rules in
    let first = first_rest _ _ head ∙ ap (λ z. c.in-Some.mark ∷ z) (sym (ap (λ b. b.items) c.pop_front.ensures.items)) in let rows = c.look.ensures.same in
    record {
      kept = subst (λ rs. ArePlainLanes rs (set c.args.self.now.lanes.items c.args.index (record { queue = c.pop_front.new.self; room = c.index_mut-lane.result.now.room; shut = c.index_mut-lane.result.now.shut; send_waits = c.take.new.self; recv_waits = c.index_mut-lane.result.now.recv_waits })))
          (sym (c.copy.ensures.rows ∙ (λ i. set (rows.1 i) (place_of_row (rows.0 i)) (list_of_row (rows.0 i) ++ c.in-Some.mark ∷ []))))
          (taken_changes _ _ _ _ _ _ c.index_mut-lane.result.now _ c.args.self.now.kept c.look.ensures.list c.requires.place there (λ sent. lane_gives sent _ _ c.index_mut-lane.result.now _ first (ap (λ b. b.capacity) c.pop_front.ensures.items) refl refl c.requires.unshut));
    }

pub returns-clause-sendable : goal.returns-clause-sendable
returns-clause-sendable g c =
    let small = taken_within _ _ _ _ _ c.args.self.now.kept c.look.ensures.list c.requires.place in let there = found _ _ _ small c.index_mut-lane.ensures.value in
    let head : slice_get c.index_mut-lane.result.now.queue.items 0 ≡ Some c.in-Some.mark = search rules in
    sendable-first c.in-Some.mark _ (sym (ap are_sendable (first_rest _ _ head)) ∙ (c.args.self.now.kept.1 _ _ there).sendable)

pub returns-clause-job : goal.returns-clause-job
returns-clause-job g c =
    let small = taken_within _ _ _ _ _ c.args.self.now.kept c.look.ensures.list c.requires.place in let there = found _ _ _ small c.index_mut-lane.ensures.value in
    let head : slice_get c.index_mut-lane.result.now.queue.items 0 ≡ Some c.in-Some.mark = search rules in
    first_job _ _ _ _ _ _ c.in-Some.mark c.index_mut-lane.result.now c.args.self.now.kept c.look.ensures.list c.requires.place there (first_rest _ _ head) c.requires.unshut

pub returns-clause-woken : goal.returns-clause-woken
returns-clause-woken g c =
    let small = taken_within _ _ _ _ _ c.args.self.now.kept c.look.ensures.list c.requires.place in
    let there = found _ _ _ small c.index_mut-lane.ensures.value in let took : c.take.result ≡ c.index_mut-lane.result.now.send_waits = search rules in took ∙ ap send_waits_of (sym there)

pub returns-in_default-clause-all : goal.returns-in_default-clause-all
returns-in_default-clause-all g c _ =
    let small = taken_within _ _ _ _ _ c.args.self.now.kept c.look.ensures.list c.requires.place in let there = found _ _ _ small c.index_mut-lane.ensures.value in
    let none : slice_get c.index_mut-lane.result.now.queue.items 0 ≡ None = search rules in
    let all = all_was_taken _ _ _ _ _ c.index_mut-lane.result.now c.args.self.now.kept c.look.ensures.list c.requires.place there c.requires.unshut (none_first _ none) in
    ap (λ rs. sent_row rs c.args.index) c.look.ensures.same.1 ∙ (all ∙ ap list_of_row (sym c.look.ensures.same.0))

pub returns-in_default-clause-same_waits : goal.returns-in_default-clause-same_waits
returns-in_default-clause-same_waits g c =
    let small = taken_within _ _ _ _ _ c.args.self.now.kept c.look.ensures.list c.requires.place in let there = found _ _ _ small c.index_mut-lane.ensures.value in
    ap recv_waits_of (slice_get-set_same c.args.self.now.lanes.items c.args.index _ small) ∙ sym (ap recv_waits_of there)

pub returns-in_default-clause-others : goal.returns-in_default-clause-others
returns-in_default-clause-others g c = only_lane c.args.self.now.lanes.items c.args.index _

pub returns-clause-same_waits : goal.returns-clause-same_waits
returns-clause-same_waits g c =
    let small = taken_within _ _ _ _ _ c.args.self.now.kept c.look.ensures.list c.requires.place in let there = found _ _ _ small c.index_mut-lane.ensures.value in
    ap recv_waits_of (slice_get-set_same c.args.self.now.lanes.items c.args.index _ small) ∙ sym (ap recv_waits_of there)

pub returns-clause-others : goal.returns-clause-others
returns-clause-others g c = only_lane c.args.self.now.lanes.items c.args.index _

pub copy-requires-clause-next : goal.copy-requires-clause-next
copy-requires-clause-next g c =
    let small = taken_within _ _ _ _ _ c.args.self.now.kept c.look.ensures.list c.requires.place in let there = found _ _ _ small c.index_mut-lane.ensures.value in
    let head : slice_get c.index_mut-lane.result.now.queue.items 0 ≡ Some c.in-Some.mark = search rules in
    subst (λ rs. IsNext rs (place_of_row c.look.new.row.badge.views - 1) (length (list_of_row c.look.new.row.badge.views)) c.in-Some.mark) (sym c.look.ensures.same.1)
    (subst (λ vs. IsNext c.args.self.now.roll.seat.me.0.rows (place_of_row vs - 1) (length (list_of_row vs)) c.in-Some.mark) (sym c.look.ensures.same.0)
    (next_of_lane _ _ _ _ _ c.in-Some.mark _ c.index_mut-lane.result.now c.args.self.now.kept c.look.ensures.list c.requires.place there c.requires.unshut (first_rest _ _ head)))

pub returns-clause-nobody : goal.returns-clause-nobody
returns-clause-nobody g c =
    let small = taken_within _ _ _ _ _ c.args.self.now.kept c.look.ensures.list c.requires.place in let nobody : c.take.new.self ≡ None = search rules in
    ap send_waits_of (slice_get-set_same c.args.self.now.lanes.items c.args.index _ small) ∙ nobody
