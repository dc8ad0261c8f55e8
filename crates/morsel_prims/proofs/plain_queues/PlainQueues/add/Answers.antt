use Rattle.std.proofs.Common.{rules, ap, sym, refl, ◌∙◌, subst, ◌≡◌, ◌+◌, length, [], ◌∷◌, ◌++◌, false, None, slice_get}
use Rattle.circular_buffer.proofs.Places.{slice_get-last}
use Rattle.circular_buffer.specs.Buffer.{buffer}
use Rattle.morsel_prims.proofs.MakeLemmas.{lane_added, only_last}
use Rattle.morsel_prims.specs.Marks.{ArePlainLanes, OnlyLane, recv_waits_of, send_waits_of}
use Rattle.morsel_prims.specs.declared.plain_item.Mark.TheVariants.{Job}
use Rattle.morsel_prims.proofs.plain_queues.PlainQueues.add.Goals as goal

pub invariant_of-self : goal.invariant_of-self
invariant_of-self g c = record { kept = subst (λ ls. ArePlainLanes c.args.self.now.roll.seat.me.0.rows ls) (sym c.reserve.ensures.items) c.args.self.now.kept }

pub invariant_of-self-2 : goal.invariant_of-self-2
invariant_of-self-2 g c =
    let made : c.in_ok-queue.queue ≡ buffer [] (c.args.room + 1) = search rules in
    let rows = c.begin-taken.ensures.rows ∙ ap (λ rs. rs ++ (Job c.of.result c.args.room ∷ []) ∷ []) c.begin-sent.ensures.rows in
    let lanes = c.push_reserved.ensures.items ∙ ap (λ z. z ++ (record { queue = c.in_ok-queue.queue; room = c.args.room; shut = false; send_waits = None; recv_waits = None }) ∷ []) c.reserve.ensures.items in
    record {
      kept = subst (λ ls. ArePlainLanes c.begin-taken.new.self.seat.me.0.rows ls) (sym lanes)
          (subst (λ rs. ArePlainLanes rs (c.args.self.now.lanes.items ++ (record { queue = c.in_ok-queue.queue; room = c.args.room; shut = false; send_waits = None; recv_waits = None }) ∷ [])) (sym rows) (lane_added c.args.self.now.roll.seat.me.0.rows c.args.self.now.lanes.items c.of.result c.args.room (record { queue = c.in_ok-queue.queue; room = c.args.room; shut = false; send_waits = None; recv_waits = None }) c.args.self.now.kept made refl refl));
    }

pub returns-clause-others : goal.returns-clause-others
returns-clause-others g c =
    let lanes = c.push_reserved.ensures.items ∙ ap (λ z. z ++ (record { queue = c.in_ok-queue.queue; room = c.args.room; shut = false; send_waits = None; recv_waits = None }) ∷ []) c.reserve.ensures.items in let index : c.len-index.result ≡ length c.args.self.now.lanes.items = search rules in
    subst (λ n. OnlyLane n c.args.self.now.lanes.items c.push_reserved.new.self.items) (sym index) (subst (λ ls. OnlyLane (length c.args.self.now.lanes.items) c.args.self.now.lanes.items ls) (sym lanes) (only_last c.args.self.now.lanes.items (record { queue = c.in_ok-queue.queue; room = c.args.room; shut = false; send_waits = None; recv_waits = None })))

pub returns-clause-nobody : goal.returns-clause-nobody
returns-clause-nobody g c =
    let lanes = c.push_reserved.ensures.items in let index : c.len-index.result ≡ length c.reserve.new.self.items = search rules in
    let last = ap (λ ls. slice_get ls c.len-index.result) lanes ∙ slice_get-last c.reserve.new.self.items _ _ index in (ap send_waits_of last, ap recv_waits_of last)
