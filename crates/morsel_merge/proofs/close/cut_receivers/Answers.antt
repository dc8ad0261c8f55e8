use Rattle.std.proofs.Common.{arith, ◌≡◌, ◌++◌, ◌∷◌, [], All, ap, sym, subst, refl, ◌∙◌, append_assoc}
use Rattle.std.proofs.lemmas.Grind.{common_steps}
use Rattle.std.specs.Vec.Iter.{into_iter_items}
use Rattle.morsel_merge.specs.Boards.{OnEarlierEnd, OnLaterEnd}
use Rattle.morsel_merge.proofs.AskLemmas.{wakes_next}
use Rattle.morsel_merge.proofs.BoardLemmas.{earlier_ends-push, found_woken-push, waits_next}
use Rattle.morsel_merge.proofs.close.cut_receivers.Goals as goal

pub loop-receiver-preserved : goal.loop-receiver-preserved
loop-receiver-preserved g c =
    let facts = c.cut.ensures in
    let before = c.loop-receiver.yielded in
    let end = c.in-Some.receiver in
    let waits = g.B.Board.waits_at in
    record {
      all = append_assoc before (end ∷ []) (into_iter_items c.next.new.self) ∙ ap (λ xs. before ++ xs) (sym c.in-Some.ensures.steps.0) ∙ c.loop-receiver.invariant.all;
      cut = earlier_ends-push waits (λ board end. g.R.LaneReceiver.has_cut board end) before (before ++ end ∷ []) end c.loop-receiver.cx.board c.cut.new.cx.board c.loop-receiver.cx.wakes c.cut.new.cx.wakes refl facts.wakes facts.keeps_waiting facts.cut c.loop-receiver.invariant.cut;
      woken = found_woken-push (λ end left tasks. OnLaterEnd waits c.args.cx.now.board (λ board. g.R.LaneReceiver.found_waiting_cut board end tasks)) before before (before ++ end ∷ []) end end c.loop-receiver.cx.wakes c.cut.new.cx.wakes refl facts.wakes c.loop-receiver.invariant.woken
          (facts.woken.0, (c.loop-receiver.cx.board, c.loop-receiver.cx.wakes, c.loop-receiver.invariant.waiting, facts.woken.1), facts.woken.2);
      waiting = waits_next (waits c.args.cx.now.board) (waits c.loop-receiver.cx.board) (waits c.cut.new.cx.board) c.loop-receiver.cx.wakes c.cut.new.cx.wakes facts.wakes c.loop-receiver.invariant.waiting facts.keeps_waiting;
      board = facts.same_board ∙ c.loop-receiver.invariant.board;
      me = facts.same_task ∙ c.loop-receiver.invariant.me;
      wakes = wakes_next c.args.cx.now.wakes c.loop-receiver.cx.wakes c.cut.new.cx.wakes c.loop-receiver.invariant.wakes facts.wakes;
    }

pub returns-clause-cut : goal.returns-clause-cut
returns-clause-cut g c =
    let all : c.loop-receiver.yielded ≡ c.args.receivers.items = grind (arith, common_steps) in
    subst (λ ends. All (λ end. OnEarlierEnd g.B.Board.waits_at c.loop-receiver.cx.board c.loop-receiver.cx.wakes (λ board. g.R.LaneReceiver.has_cut board end)) ends) all c.loop-receiver.invariant.cut
