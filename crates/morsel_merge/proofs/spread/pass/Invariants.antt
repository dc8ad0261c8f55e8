use Rattle.std.proofs.Common.{◌≡◌, ◌⊎◌, ◌<◌, ◌≤◌, ℕ, true, false, All, length, map, slice_index_or}
use Rattle.morsel_prims.specs.Woken.{KeepsWakes}
use Rattle.morsel_merge.specs.Ends.{sender_seen}
use Rattle.morsel_merge.proofs.spread.pass.Given as goal

abbrev pub invariant-loop-lane : goal.invariant-loop-lane
invariant-loop-lane g l = record {
  long : length l.lanes ≡ length l.fn.lanes;
  home : All (λ end. g.S.LaneSender.home end ≡ (g.B.Board.id l.fn.cx.board).lane_table) l.lanes;
  job : All (λ end. g.S.LaneSender.job end ≡ l.job.value) l.lanes;
  seen : map (sender_seen g.S.LaneSender.home g.S.LaneSender.lane g.S.LaneSender.room g.S.LaneSender.job g.S.LaneSender.wait_places) l.lanes ≡ map (sender_seen g.S.LaneSender.home g.S.LaneSender.lane g.S.LaneSender.room g.S.LaneSender.job g.S.LaneSender.wait_places) l.fn.lanes;
  sent : map g.S.LaneSender.sent l.lanes ≡ map g.S.LaneSender.sent l.fn.lanes;
  before : (lane : ℕ) (d : _) → lane < l.fn.from → slice_index_or l.lanes lane d ≡ slice_index_or l.fn.lanes lane d;
  after : (lane : ℕ) (d : _) → l.lane ≤ lane → slice_index_or l.lanes lane d ≡ slice_index_or l.fn.lanes lane d;
  refused : (lane : ℕ) (d : _) → l.fn.from ≤ lane → lane < l.lane → g.S.LaneSender.found_full l.fn.cx.board (slice_index_or l.fn.lanes lane d) (slice_index_or l.lanes lane d) ⊎ g.S.LaneSender.found_closed l.fn.cx.board (slice_index_or l.fn.lanes lane d) (slice_index_or l.lanes lane d);
  full : l.full ≡ true → (lane : ℕ) × (l.fn.from ≤ lane) × (lane < l.lane) × ((d : _) → g.S.LaneSender.found_full l.fn.cx.board (slice_index_or l.fn.lanes lane d) (slice_index_or l.lanes lane d));
  closed : l.full ≡ false → (lane : ℕ) (d : _) → l.fn.from ≤ lane → lane < l.lane → g.S.LaneSender.found_closed l.fn.cx.board (slice_index_or l.fn.lanes lane d) (slice_index_or l.lanes lane d);
  log : l.log.seat.me.0 ≡ l.fn.log.seat.me.0;
  table : l.log.seat.table_id ≡ l.fn.log.seat.table_id;
  value : l.value ≡ l.fn.value;
  board : l.cx.board ≡ l.fn.cx.board;
  me : l.cx.me ≡ l.fn.cx.me;
  wakes : KeepsWakes l.fn.cx.wakes l.cx.wakes;
}
