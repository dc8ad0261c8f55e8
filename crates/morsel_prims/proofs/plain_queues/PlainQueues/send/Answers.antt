use Rattle.std.proofs.Common.{rules, ap, sym, refl, ◌∙◌, subst, ◌≤◌, ◌≡◌, length, set, arith, length-append, [], ◌∷◌, ◌++◌, None}
use Rattle.morsel_prims.proofs.MarkLemmas.{lane_within, found, sent_changes, lane_takes, same_lane, kept_fewer, only_lane}
use Rattle.circular_buffer.proofs.Places.{slice_get-set_same}
use Rattle.morsel_prims.specs.Marks.{ArePlainLanes, recv_waits_of, send_waits_of}
use Rattle.morsel_prims.specs.Rows.{place_of_row, list_of_row}
use Rattle.morsel_prims.specs.declared.plain_item.Mark.TheVariants.{Value}
use Rattle.morsel_prims.proofs.plain_queues.PlainQueues.send.Goals as goal

pub index-lane-requires : goal.index-lane-requires
index-lane-requires g c = let small = lane_within _ _ _ _ _ c.args.self.now.kept c.look.ensures.list c.requires.place in search rules

pub index_mut-lane-requires : goal.index_mut-lane-requires
index_mut-lane-requires g c = let small = lane_within _ _ _ _ _ c.args.self.now.kept c.look.ensures.list c.requires.place in search rules

pub invariant_of-self : goal.invariant_of-self
invariant_of-self g c = record { kept = subst (λ rows. ArePlainLanes rows c.args.self.now.lanes.items) (sym c.look.ensures.same.1) c.args.self.now.kept }

pub invariant_of-self-then-len-lane : goal.invariant_of-self-then-len-lane
invariant_of-self-then-len-lane g c = record { kept = subst (λ rows. ArePlainLanes rows c.args.self.now.lanes.items) (sym c.look.ensures.same.1) c.args.self.now.kept }

pub returns-then-lane-clause-closed : goal.returns-then-lane-clause-closed
returns-then-lane-clause-closed g c =
    let small = lane_within _ _ _ _ _ c.args.self.now.kept c.look.ensures.list c.requires.place in (c.index-lane.result.now, found _ _ _ small c.index-lane.ensures, c.if-lane.true)

pub returns-then-len-lane-clause-full : goal.returns-then-len-lane-clause-full
returns-then-len-lane-clause-full g c =
    let small = lane_within _ _ _ _ _ c.args.self.now.kept c.look.ensures.list c.requires.place in
    (c.index-lane.result.now, found _ _ _ small c.index-lane.ensures, c.if-lane.false, subst (λ n. c.index-lane.result.now.room ≤ n) c.len.ensures.len c.if-len-lane.true)

pub returns-clause-woken : goal.returns-clause-woken
returns-clause-woken g c =
    let small = lane_within _ _ _ _ _ c.args.self.now.kept c.look.ensures.list c.requires.place in
    let there = found _ _ _ small c.index_mut-lane.ensures.value in let took : c.take.result ≡ c.index_mut-lane.result.now.recv_waits = search rules in took ∙ ap recv_waits_of (sym there)

pub invariant_of-self-2 : goal.invariant_of-self-2
invariant_of-self-2 g c =
    let small = lane_within _ _ _ _ _ c.args.self.now.kept c.look.ensures.list c.requires.place in
    let seen = found _ _ _ small c.index-lane.ensures in let there = found _ _ _ small c.index_mut-lane.ensures.value in
    let same : c.index-lane.result.now ≡ c.index_mut-lane.result.now = same_lane _ _ (sym seen ∙ there) in
    let full = c.if-len-lane.false in let len = c.len.ensures.len in
    let room : c.index-lane.result.now.room ≡ c.index_mut-lane.result.now.room = ap (λ l. l.room) same in
    let items : length c.index-lane.result.now.queue.items ≡ length c.index_mut-lane.result.now.queue.items = ap (λ l. length l.queue.items) same in
    let opened = sym (ap (λ l. l.shut) same) ∙ c.if-lane.false in
    let rows = c.look.ensures.same in
    record {
      kept = subst (λ rs. ArePlainLanes rs (set c.args.self.now.lanes.items c.args.index (record { queue = c.push_back.new.self; room = c.index_mut-lane.result.now.room; shut = c.index_mut-lane.result.now.shut; send_waits = c.index_mut-lane.result.now.send_waits; recv_waits = c.take.new.self })))
          (sym (c.write.ensures.rows ∙ (λ i. set (rows.1 i) (place_of_row (rows.0 i)) (list_of_row (rows.0 i) ++ Value c.args.value ∷ []))))
          (sent_changes _ _ _ _ _ _ c.index_mut-lane.result.now _ c.args.self.now.kept c.look.ensures.list c.requires.place there (λ taken. lane_takes _ taken _ c.index_mut-lane.result.now _ c.requires.job c.requires.unclosed opened refl refl (omega arith) c.push_back.ensures.items));
    }

pub returns-clause-room : goal.returns-clause-room
returns-clause-room g c =
    let small = lane_within _ _ _ _ _ c.args.self.now.kept c.look.ensures.list c.requires.place in
    let seen = found _ _ _ small c.index-lane.ensures in let there = found _ _ _ small c.index_mut-lane.ensures.value in
    let same : c.index-lane.result.now ≡ c.index_mut-lane.result.now = same_lane _ _ (sym seen ∙ there) in
    let full = c.if-len-lane.false in let len = c.len.ensures.len in
    let room : c.index-lane.result.now.room ≡ c.index_mut-lane.result.now.room = ap (λ l. l.room) same in
    let items : length c.index-lane.result.now.queue.items ≡ length c.index_mut-lane.result.now.queue.items = ap (λ l. length l.queue.items) same in
    let opened = sym (ap (λ l. l.shut) same) ∙ c.if-lane.false in
    let kept = ap (λ b. length b.items) c.push_back.ensures.items in let fewer = kept_fewer c.index_mut-lane.result.now.queue.capacity (c.index_mut-lane.result.now.queue.items ++ Value c.args.value ∷ []) in
    let longer = length-append c.index_mut-lane.result.now.queue.items (Value c.args.value ∷ []) in
    (_, slice_get-set_same c.args.self.now.lanes.items c.args.index _ small, opened, omega arith)

pub returns-clause-same_waits : goal.returns-clause-same_waits
returns-clause-same_waits g c =
    let small = lane_within _ _ _ _ _ c.args.self.now.kept c.look.ensures.list c.requires.place in let there = found _ _ _ small c.index_mut-lane.ensures.value in
    ap send_waits_of (slice_get-set_same c.args.self.now.lanes.items c.args.index _ small) ∙ sym (ap send_waits_of there)

pub returns-clause-others : goal.returns-clause-others
returns-clause-others g c = only_lane c.args.self.now.lanes.items c.args.index _

pub returns-clause-nobody : goal.returns-clause-nobody
returns-clause-nobody g c =
    let small = lane_within _ _ _ _ _ c.args.self.now.kept c.look.ensures.list c.requires.place in let nobody : c.take.new.self ≡ None = search rules in
    ap recv_waits_of (slice_get-set_same c.args.self.now.lanes.items c.args.index _ small) ∙ nobody
