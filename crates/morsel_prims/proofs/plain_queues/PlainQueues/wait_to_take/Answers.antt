use Rattle.std.proofs.Common.{rules, ap, sym, refl, ◌∙◌, ◌≡◌}
use Rattle.morsel_prims.specs.Marks.{recv_waits_of}
use Rattle.circular_buffer.proofs.Places.{slice_get-set_same}
use Rattle.morsel_prims.proofs.MarkLemmas.{taken_within, found, only_waits, only_lane, same_lane}
use Rattle.morsel_prims.proofs.plain_queues.PlainQueues.wait_to_take.Goals as goal

pub index_mut-lane-requires : goal.index_mut-lane-requires
index_mut-lane-requires g c = let small = taken_within _ _ _ _ _ c.args.self.now.kept c.look.ensures.list c.requires.place in search rules

pub invariant_of-self : goal.invariant_of-self
invariant_of-self g c =
    let small = taken_within _ _ _ _ _ c.args.self.now.kept c.look.ensures.list c.requires.place in let there = found _ _ _ small c.index_mut-lane.ensures.value in record {
      kept = only_waits _ _ _ _ _ _ c.look.ensures.same.1 c.args.self.now.kept small there refl refl refl;
    }

pub returns-clause-waits : goal.returns-clause-waits
returns-clause-waits g c =
    let small = taken_within _ _ _ _ _ c.args.self.now.kept c.look.ensures.list c.requires.place in ap recv_waits_of (slice_get-set_same c.args.self.now.lanes.items c.args.index _ small)

pub returns-clause-lane : goal.returns-clause-lane
returns-clause-lane g c lane is =
    let small = taken_within _ _ _ _ _ c.args.self.now.kept c.look.ensures.list c.requires.place in let there = found _ _ _ small c.index_mut-lane.ensures.value in
    let same : c.index_mut-lane.result.now ≡ lane = same_lane _ _ (sym there ∙ is) in
    (_, slice_get-set_same c.args.self.now.lanes.items c.args.index _ small, ap (λ l. l.shut) same, ap (λ l. l.room) same, ap (λ l. l.queue) same, ap (λ l. l.send_waits) same)

pub returns-clause-others : goal.returns-clause-others
returns-clause-others g c = only_lane c.args.self.now.lanes.items c.args.index _
