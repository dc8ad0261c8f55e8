use Rattle.std.proofs.Common.{◌++◌, ◌∷◌, [], map, ap, sym, ◌∙◌, arith, append_assoc}
use Rattle.std.proofs.lemmas.List.{length_push, map_push}
use Rattle.std.specs.Vec.Iter.{into_iter_items}
use Rattle.morsel_merge.specs.Boards.{OnLaterEnd}
use Rattle.morsel_merge.proofs.AskLemmas.{wakes_next}
use Rattle.morsel_merge.proofs.BoardLemmas.{earlier_ends-push, found_woken-push, waits_next}
use Rattle.morsel_merge.proofs.close.finish_lanes.Goals as goal

pub loop-lane-preserved : goal.loop-lane-preserved
loop-lane-preserved g c =
    let facts = c.finish.ensures in
    let items = c.push_reserved.ensures.items in
    let before = c.loop-lane.yielded in
    let end = c.in-Some.lane in
    let left = c.finish.result in
    let waits = g.B.Board.waits_at in
    record {
      all = append_assoc before (end ∷ []) (into_iter_items c.next.new.self) ∙ ap (λ xs. before ++ xs) (sym c.in-Some.ensures.steps.0) ∙ c.loop-lane.invariant.all;
      len = omega (arith, c.push_reserved.ensures.len, c.loop-lane.invariant.len, length_push before end);
      room = omega (arith, c.push_reserved.ensures.capacity, c.loop-lane.invariant.room);
      lanes = ap (λ xs. map g.S.LaneSender.receipt_lane xs) items ∙ map_push g.S.LaneSender.receipt_lane c.loop-lane.receipts.items left ∙ ap (λ xs. xs ++ g.S.LaneSender.receipt_lane left ∷ []) c.loop-lane.invariant.lanes
          ∙ ap (λ x. map g.S.LaneSender.lane before ++ x ∷ []) facts.lane.0 ∙ sym (map_push g.S.LaneSender.lane before end);
      homes = ap (λ xs. map g.S.LaneSender.receipt_home xs) items ∙ map_push g.S.LaneSender.receipt_home c.loop-lane.receipts.items left ∙ ap (λ xs. xs ++ g.S.LaneSender.receipt_home left ∷ []) c.loop-lane.invariant.homes
          ∙ ap (λ x. map g.S.LaneSender.home before ++ x ∷ []) facts.lane.1 ∙ sym (map_push g.S.LaneSender.home before end);
      sent = ap (λ xs. map g.S.LaneSender.all_sent xs) items ∙ map_push g.S.LaneSender.all_sent c.loop-lane.receipts.items left ∙ ap (λ xs. xs ++ g.S.LaneSender.all_sent left ∷ []) c.loop-lane.invariant.sent
          ∙ ap (λ x. map g.S.LaneSender.sent before ++ x ∷ []) facts.sent ∙ sym (map_push g.S.LaneSender.sent before end);
      finished = earlier_ends-push waits (λ board receipt. g.S.LaneSender.has_finished board receipt) c.loop-lane.receipts.items c.push_reserved.new.self.items left c.loop-lane.cx.board c.finish.new.cx.board c.loop-lane.cx.wakes c.finish.new.cx.wakes items facts.wakes facts.keeps_waiting facts.finished c.loop-lane.invariant.finished;
      woken = found_woken-push (λ end receipt tasks. OnLaterEnd waits c.args.cx.now.board (λ board. g.S.LaneSender.found_waiting_finish board end receipt tasks)) before c.loop-lane.receipts.items c.push_reserved.new.self.items end left c.loop-lane.cx.wakes c.finish.new.cx.wakes items facts.wakes c.loop-lane.invariant.woken
          (facts.woken.0, (c.loop-lane.cx.board, c.loop-lane.cx.wakes, c.loop-lane.invariant.waiting, facts.woken.1), facts.woken.2);
      waiting = waits_next (waits c.args.cx.now.board) (waits c.loop-lane.cx.board) (waits c.finish.new.cx.board) c.loop-lane.cx.wakes c.finish.new.cx.wakes facts.wakes c.loop-lane.invariant.waiting facts.keeps_waiting;
      board = facts.same_board ∙ c.loop-lane.invariant.board;
      me = facts.same_task ∙ c.loop-lane.invariant.me;
      wakes = wakes_next c.args.cx.now.wakes c.loop-lane.cx.wakes c.finish.new.cx.wakes c.loop-lane.invariant.wakes facts.wakes;
    }
