use Rattle.std.proofs.Common.{rules, ap, sym, refl, ◌∙◌, subst, ◌≡◌, set, None}
use Rattle.morsel_prims.proofs.MarkLemmas.{lane_within, found, sent_changes, lane_ends, sent_row-set, only_lane}
use Rattle.circular_buffer.proofs.Places.{slice_get-set_same}
use Rattle.morsel_prims.specs.Marks.{ArePlainLanes, recv_waits_of, send_waits_of, sent_row}
use Rattle.morsel_prims.proofs.plain_queues.PlainQueues.close.Goals as goal

pub index_mut-lane-requires : goal.index_mut-lane-requires
index_mut-lane-requires g c = let small = lane_within _ _ _ _ _ c.args.self.now.kept c.write.ensures.same c.requires.place in search rules

pub returns-clause-woken : goal.returns-clause-woken
returns-clause-woken g c =
    let small = lane_within _ _ _ _ _ c.args.self.now.kept c.write.ensures.same c.requires.place in
    let there = found _ _ _ small c.index_mut-lane.ensures.value in let took : c.take.result ≡ c.index_mut-lane.result.now.recv_waits = search rules in took ∙ ap recv_waits_of (sym there)

pub invariant_of-self : goal.invariant_of-self
invariant_of-self g c =
    let small = lane_within _ _ _ _ _ c.args.self.now.kept c.write.ensures.same c.requires.place in let there = found _ _ _ small c.index_mut-lane.ensures.value in record {
      kept = subst (λ rs. ArePlainLanes rs (set c.args.self.now.lanes.items c.args.index (record { queue = c.push_back.new.self; room = c.index_mut-lane.result.now.room; shut = c.index_mut-lane.result.now.shut; send_waits = c.index_mut-lane.result.now.send_waits; recv_waits = c.take.new.self })))
          (sym c.write.ensures.rows)
          (sent_changes _ _ _ _ _ _ c.index_mut-lane.result.now _ c.args.self.now.kept c.write.ensures.same c.requires.place there (λ taken. lane_ends _ taken _ c.index_mut-lane.result.now _ c.requires.unclosed refl refl c.push_back.ensures.items));
    }

pub returns-clause-row : goal.returns-clause-row
returns-clause-row g c = ap (λ rs. sent_row rs c.args.index) c.write.ensures.rows ∙ (sent_row-set _ _ _ _ _ c.write.ensures.same c.requires.place ∙ sym c.write.ensures.list)

pub returns-clause-same_waits : goal.returns-clause-same_waits
returns-clause-same_waits g c =
    let small = lane_within _ _ _ _ _ c.args.self.now.kept c.write.ensures.same c.requires.place in let there = found _ _ _ small c.index_mut-lane.ensures.value in
    ap send_waits_of (slice_get-set_same c.args.self.now.lanes.items c.args.index _ small) ∙ sym (ap send_waits_of there)

pub returns-clause-others : goal.returns-clause-others
returns-clause-others g c = only_lane c.args.self.now.lanes.items c.args.index _

pub returns-clause-nobody : goal.returns-clause-nobody
returns-clause-nobody g c =
    let small = lane_within _ _ _ _ _ c.args.self.now.kept c.write.ensures.same c.requires.place in let nobody : c.take.new.self ≡ None = search rules in
    ap recv_waits_of (slice_get-set_same c.args.self.now.lanes.items c.args.index _ small) ∙ nobody
