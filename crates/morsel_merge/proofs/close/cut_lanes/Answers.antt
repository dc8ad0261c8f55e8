use Rattle.std.proofs.Common.{arith, ◌≡◌, ◌++◌, ◌∷◌, [], All, ap, sym, subst, refl, ◌∙◌, append_assoc}
use Rattle.std.proofs.lemmas.Grind.{common_steps}
use Rattle.std.specs.Vec.Iter.{into_iter_items}
use Rattle.morsel_merge.specs.Boards.{OnEarlierEnd, OnLaterEnd}
use Rattle.morsel_merge.proofs.AskLemmas.{wakes_next}
use Rattle.morsel_merge.proofs.BoardLemmas.{earlier_ends-push, found_woken-push, waits_next}
use Rattle.morsel_merge.proofs.close.cut_lanes.Goals as goal

pub loop-lane-preserved : goal.loop-lane-preserved
loop-lane-preserved g c =
    let facts = c.cut.ensures in
    let before = c.loop-lane.yielded in
    let end = c.in-Some.lane in
    let waits = g.B.Board.waits_at in
    record {
      all = append_assoc before (end ∷ []) (into_iter_items c.next.new.self) ∙ ap (λ xs. before ++ xs) (sym c.in-Some.ensures.steps.0) ∙ c.loop-lane.invariant.all;
      cut = earlier_ends-push waits (λ board end. g.S.LaneSender.has_cut board end) before (before ++ end ∷ []) end c.loop-lane.cx.board c.cut.new.cx.board c.loop-lane.cx.wakes c.cut.new.cx.wakes refl facts.wakes facts.keeps_waiting facts.cut c.loop-lane.invariant.cut;
      woken = found_woken-push (λ end left tasks. OnLaterEnd waits c.args.cx.now.board (λ board. g.S.LaneSender.found_waiting_cut board end tasks)) before before (before ++ end ∷ []) end end c.loop-lane.cx.wakes c.cut.new.cx.wakes refl facts.wakes c.loop-lane.invariant.woken
          (facts.woken.0, (c.loop-lane.cx.board, c.loop-lane.cx.wakes, c.loop-lane.invariant.waiting, facts.woken.1), facts.woken.2);
      waiting = waits_next (waits c.args.cx.now.board) (waits c.loop-lane.cx.board) (waits c.cut.new.cx.board) c.loop-lane.cx.wakes c.cut.new.cx.wakes facts.wakes c.loop-lane.invariant.waiting facts.keeps_waiting;
      board = facts.same_board ∙ c.loop-lane.invariant.board;
      me = facts.same_task ∙ c.loop-lane.invariant.me;
      wakes = wakes_next c.args.cx.now.wakes c.loop-lane.cx.wakes c.cut.new.cx.wakes c.loop-lane.invariant.wakes facts.wakes;
    }

pub returns-clause-cut : goal.returns-clause-cut
returns-clause-cut g c =
    let all : c.loop-lane.yielded ≡ c.args.lanes.items = grind (arith, common_steps) in
    subst (λ ends. All (λ end. OnEarlierEnd g.B.Board.waits_at c.loop-lane.cx.board c.loop-lane.cx.wakes (λ board. g.S.LaneSender.has_cut board end)) ends) all c.loop-lane.invariant.cut
