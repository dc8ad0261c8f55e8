use Rattle.std.proofs.Common.{◌≡◌, ◌<◌, All, length}
use Rattle.morsel_prims.specs.Woken.{KeepsWakes}
use Rattle.morsel_merge.specs.Ends.{sender_seen}
use Rattle.morsel_merge.specs.Spread.{AreLookedAt, IsLook}
use Rattle.morsel_merge.proofs.choose.choose.Given as goal

abbrev pub invariant-loop-turn : goal.invariant-loop-turn
invariant-loop-turn g l = record {
  within : l.best.0 < length l.lanes;
  home : All (λ end. g.S.LaneSender.home end ≡ (g.B.Board.id l.fn.cx.board).lane_table) l.lanes;
  looked : AreLookedAt (sender_seen g.S.LaneSender.home g.S.LaneSender.lane g.S.LaneSender.room g.S.LaneSender.job g.S.LaneSender.wait_places) g.S.LaneSender.sent (IsLook g.S.LaneSender.found_held g.S.LaneSender.found_full g.S.LaneSender.found_closed) l.fn.lanes l.lanes;
  board : l.cx.board ≡ l.fn.cx.board;
  me : l.cx.me ≡ l.fn.cx.me;
  wakes : KeepsWakes l.fn.cx.wakes l.cx.wakes;
}
