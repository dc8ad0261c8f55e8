use Rattle.std.proofs.Common.{◌≡◌, All, subst, ◌∙◌, inl, inr, arith}
use Rattle.morsel_merge.specs.Ends.{sender_seen}
use Rattle.morsel_merge.specs.Spread.{IsLook}
use Rattle.morsel_merge.proofs.AskLemmas.{wakes_next}
use Rattle.morsel_merge.proofs.SpreadLemmas.{looked_at-on}
use Rattle.morsel_merge.proofs.choose.choose.Goals as goal

pub loop-turn-preserved : goal.loop-turn-preserved
loop-turn-preserved g c =
    record {
      within = elim c.shorter-best.ensures.one [
        | inl first ↦ omega (arith, first, c.loop-turn.invariant.within, c.look-held-in-loop-turn.ensures.looked.long)
        | inr second ↦ omega (arith, second, c.requires.within, c.loop-turn.invariant.looked.long, c.look-held-in-loop-turn.ensures.looked.long)
      ];
      home = subst (λ b. All (λ end. g.S.LaneSender.home end ≡ (g.B.Board.id b).lane_table) c.look-held-in-loop-turn.new.lanes) c.loop-turn.invariant.board c.look-held-in-loop-turn.ensures.home;
      looked = looked_at-on (sender_seen g.S.LaneSender.home g.S.LaneSender.lane g.S.LaneSender.room g.S.LaneSender.job g.S.LaneSender.wait_places) g.S.LaneSender.sent (IsLook g.S.LaneSender.found_held g.S.LaneSender.found_full g.S.LaneSender.found_closed) c.args.lanes.now c.loop-turn.lanes c.look-held-in-loop-turn.new.lanes c.loop-turn.invariant.looked c.look-held-in-loop-turn.ensures.looked;
      board = c.look-held-in-loop-turn.ensures.unchanged ∙ c.loop-turn.invariant.board;
      me = c.look-held-in-loop-turn.ensures.same_task ∙ c.loop-turn.invariant.me;
      wakes = wakes_next c.args.cx.now.wakes c.loop-turn.cx.wakes c.look-held-in-loop-turn.new.cx.wakes c.loop-turn.invariant.wakes c.look-held-in-loop-turn.ensures.wakes;
    }
