use Rattle.std.proofs.Common.{◌≡◌, ap, sym, refl, ◌∙◌, subst, inl, inr, ◌++◌}
use Rattle.morsel_prims.specs.Waiting.{KeepsOthersWaiting}
use Rattle.morsel_prims.proofs.WaitLemmas.{wait_both}
use Rattle.morsel_prims.proofs.hand_on.HandOn.poll_step.Given.{Over}
use Rattle.morsel_prims.proofs.hand_on.HandOn.poll_step.Goals.{After-poll_send, then-is_none+in-Ready-Ok+in-Some-1, then-is_none+in-Ready-Ok+in-None-1, else-is_none}
use Rattle.morsel_prims.proofs.hand_on.HandOn.poll_step.Goals as goal

-- the receiving end may have been polled, and then the sending end was
both_wait : (g : Over) (c : After-poll_send g) → KeepsOthersWaiting (g.R.LaneReceiver.wait_places c.args.self.now.from ++ g.S.LaneSender.wait_places c.args.self.now.to) c.args.cx.now.me (g.B.Board.waits_at c.args.cx.now.board) (g.B.Board.waits_at c.poll_send.new.cx.board) c.poll_send.new.cx.wakes
both_wait g c =
    let begun : KeepsOthersWaiting (g.R.LaneReceiver.wait_places c.args.self.now.from) c.args.cx.now.me (g.B.Board.waits_at c.args.cx.now.board) (g.B.Board.waits_at c.if-is_none.cx.board) c.if-is_none.cx.wakes =
    elim c.if-is_none.branch [
      | then-is_none+in-Ready-Ok+in-Some-1 w ↦ subst (λ cx. KeepsOthersWaiting (g.R.LaneReceiver.wait_places c.args.self.now.from) c.args.cx.now.me (g.B.Board.waits_at c.args.cx.now.board) (g.B.Board.waits_at cx.board) cx.wakes) (sym w.cx-is) w.poll_recv.ensures.keeps_waiting
      | then-is_none+in-Ready-Ok+in-None-1 w ↦ subst (λ cx. KeepsOthersWaiting (g.R.LaneReceiver.wait_places c.args.self.now.from) c.args.cx.now.me (g.B.Board.waits_at c.args.cx.now.board) (g.B.Board.waits_at cx.board) cx.wakes) (sym w.cx-is) w.poll_recv.ensures.keeps_waiting
      | else-is_none w ↦ subst (λ cx. KeepsOthersWaiting (g.R.LaneReceiver.wait_places c.args.self.now.from) c.args.cx.now.me (g.B.Board.waits_at c.args.cx.now.board) (g.B.Board.waits_at cx.board) cx.wakes) (sym w.cx-is) (λ place. inl (inl refl))
    ] in
    let to : g.S.LaneSender.wait_places c.if-is_none.self.to ≡ g.S.LaneSender.wait_places c.args.self.now.to =
    elim c.if-is_none.branch [ then-is_none+in-Ready-Ok+in-Some-1 w ↦ ap (λ s. g.S.LaneSender.wait_places s.to) w.self-is | then-is_none+in-Ready-Ok+in-None-1 w ↦ ap (λ s. g.S.LaneSender.wait_places s.to) w.self-is | else-is_none w ↦ ap (λ s. g.S.LaneSender.wait_places s.to) w.self-is ] in
    let me : c.if-is_none.cx.me ≡ c.args.cx.now.me =
    elim c.if-is_none.branch [ then-is_none+in-Ready-Ok+in-Some-1 w ↦ ap (λ cx. cx.me) w.cx-is ∙ w.poll_recv.ensures.same_task | then-is_none+in-Ready-Ok+in-None-1 w ↦ ap (λ cx. cx.me) w.cx-is ∙ w.poll_recv.ensures.same_task | else-is_none w ↦ ap (λ cx. cx.me) w.cx-is ] in
    wait_both _ _ _ _ _ _ _ _ _ _ to me c.poll_send.ensures.wakes begun c.poll_send.ensures.keeps_waiting

pub returns-in-Pending-poll_send-clause-keeps_waiting : goal.returns-in-Pending-poll_send-clause-keeps_waiting
returns-in-Pending-poll_send-clause-keeps_waiting g c = both_wait g (goal.at.returns-in-Pending-poll_send-clause-keeps_waiting g c).After-poll_send

pub returns-in-Ready-Ok-poll_send-clause-keeps_waiting : goal.returns-in-Ready-Ok-poll_send-clause-keeps_waiting
returns-in-Ready-Ok-poll_send-clause-keeps_waiting g c = both_wait g (goal.at.returns-in-Ready-Ok-poll_send-clause-keeps_waiting g c).After-poll_send

pub returns-in-Ready-Err-poll_send-clause-keeps_waiting : goal.returns-in-Ready-Err-poll_send-clause-keeps_waiting
returns-in-Ready-Err-poll_send-clause-keeps_waiting g c = both_wait g (goal.at.returns-in-Ready-Err-poll_send-clause-keeps_waiting g c).After-poll_send
