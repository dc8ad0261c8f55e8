use Rattle.std.proofs.Common.{rules, ap, sym, refl, ◌∙◌, subst, ◌≡◌, set, true, None}
use Rattle.morsel_prims.specs.Marks.{ArePlainLanes, recv_waits_of, send_waits_of}
use Rattle.circular_buffer.proofs.Places.{slice_get-set_same}
use Rattle.morsel_prims.proofs.MarkLemmas.{taken_within, found, taken_changes, lane_shuts, only_lane}
use Rattle.morsel_prims.proofs.plain_queues.PlainQueues.shut.Goals as goal

pub index_mut-lane-requires : goal.index_mut-lane-requires
index_mut-lane-requires g c = let small = taken_within _ _ _ _ _ c.args.self.now.kept c.write.ensures.same c.requires.place in search rules

pub invariant_of-self : goal.invariant_of-self
invariant_of-self g c =
    let small = taken_within _ _ _ _ _ c.args.self.now.kept c.write.ensures.same c.requires.place in let there = found _ _ _ small c.index_mut-lane.ensures.value in record {
      kept = subst (λ rs. ArePlainLanes rs (set c.args.self.now.lanes.items c.args.index (record { queue = c.index_mut-lane.result.now.queue; room = c.index_mut-lane.result.now.room; shut = true; send_waits = c.take.new.self; recv_waits = c.index_mut-lane.result.now.recv_waits })))
          (sym c.write.ensures.rows)
          (taken_changes _ _ _ _ _ _ c.index_mut-lane.result.now _ c.args.self.now.kept c.write.ensures.same c.requires.place there (λ sent. lane_shuts sent _ c.index_mut-lane.result.now _ refl refl refl));
    }

pub returns-clause-shut : goal.returns-clause-shut
returns-clause-shut g c = let small = taken_within _ _ _ _ _ c.args.self.now.kept c.write.ensures.same c.requires.place in (_, slice_get-set_same c.args.self.now.lanes.items c.args.index _ small, refl)

pub returns-clause-woken : goal.returns-clause-woken
returns-clause-woken g c =
    let small = taken_within _ _ _ _ _ c.args.self.now.kept c.write.ensures.same c.requires.place in
    let there = found _ _ _ small c.index_mut-lane.ensures.value in let took : c.take.result ≡ c.index_mut-lane.result.now.send_waits = search rules in took ∙ ap send_waits_of (sym there)

pub returns-clause-same_waits : goal.returns-clause-same_waits
returns-clause-same_waits g c =
    let small = taken_within _ _ _ _ _ c.args.self.now.kept c.write.ensures.same c.requires.place in let there = found _ _ _ small c.index_mut-lane.ensures.value in
    ap recv_waits_of (slice_get-set_same c.args.self.now.lanes.items c.args.index _ small) ∙ sym (ap recv_waits_of there)

pub returns-clause-others : goal.returns-clause-others
returns-clause-others g c = only_lane c.args.self.now.lanes.items c.args.index _

pub returns-clause-nobody : goal.returns-clause-nobody
returns-clause-nobody g c =
    let small = taken_within _ _ _ _ _ c.args.self.now.kept c.write.ensures.same c.requires.place in let nobody : c.take.new.self ≡ None = search rules in
    ap send_waits_of (slice_get-set_same c.args.self.now.lanes.items c.args.index _ small) ∙ nobody
