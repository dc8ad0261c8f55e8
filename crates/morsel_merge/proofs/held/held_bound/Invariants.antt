use Rattle.std.proofs.Common.{◌≡◌, ◌<◌, ◌≤◌, ◌*◌, ℕ, All, List, length, map, slice_index_or, sum, take}
use Rattle.morsel_prims.specs.Woken.{KeepsWakes}
use Rattle.morsel_merge.specs.Ends.{sender_seen}
use Rattle.morsel_merge.specs.Spread.{AreLookedAt, IsLook}
use Rattle.morsel_merge.proofs.held.held_bound.Given as goal

abbrev pub invariant-loop-lane : goal.invariant-loop-lane
invariant-loop-lane g l = record {
  home : All (λ end. g.S.LaneSender.home end ≡ (g.B.Board.id l.fn.cx.board).lane_table) l.lanes;
  looked : AreLookedAt (sender_seen g.S.LaneSender.home g.S.LaneSender.lane g.S.LaneSender.room g.S.LaneSender.job g.S.LaneSender.wait_places) g.S.LaneSender.sent (IsLook g.S.LaneSender.found_held g.S.LaneSender.found_full g.S.LaneSender.found_closed) l.fn.lanes l.lanes;
  after : (lane : ℕ) (d : _) → l.lane ≤ lane → slice_index_or l.lanes lane d ≡ slice_index_or l.fn.lanes lane d;
  held : (counts : List ℕ) × (length counts ≡ l.lane) × (sum counts ≤ l.bound) × ((lane : ℕ) (d : _) → lane < l.lane → g.S.LaneSender.found_held l.fn.cx.board (slice_index_or l.fn.lanes lane d) (slice_index_or l.lanes lane d) (slice_index_or counts lane 0));
  most : l.bound ≤ sum (take l.lane (map g.S.LaneSender.room l.fn.lanes));
  small : l.bound ≤ l.lane * 65536;
  board : l.cx.board ≡ l.fn.cx.board;
  me : l.cx.me ≡ l.fn.cx.me;
  wakes : KeepsWakes l.fn.cx.wakes l.cx.wakes;
}
