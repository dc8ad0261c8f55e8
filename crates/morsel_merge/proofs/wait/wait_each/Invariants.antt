use Rattle.std.proofs.Common.{◌≡◌, ◌+◌, ◌<◌, ℕ, All, slice_index_or}
use Rattle.std.specs.List.{flat_map}
use Rattle.morsel_prims.specs.Waiting.{KeepsOthersWaiting}
use Rattle.morsel_prims.specs.Woken.{KeepsWakes}
use Rattle.morsel_merge.specs.Boards.{OnEarlier}
use Rattle.morsel_merge.specs.Ends.{sender_seen}
use Rattle.morsel_merge.specs.Spread.{AreLookedAt, IsAwaited, IsLook}
use Rattle.morsel_merge.proofs.wait.wait_each.Given as goal

abbrev pub invariant-loop-lane : goal.invariant-loop-lane
invariant-loop-lane g l = record {
  home : All (λ end. g.S.LaneSender.home end ≡ (g.B.Board.id l.cx.board).lane_table) l.lanes;
  job : All (λ end. g.S.LaneSender.job end ≡ l.job.value) l.lanes;
  looked : AreLookedAt (sender_seen g.S.LaneSender.home g.S.LaneSender.lane g.S.LaneSender.room g.S.LaneSender.job g.S.LaneSender.wait_places) g.S.LaneSender.sent (IsLook g.S.LaneSender.found_held g.S.LaneSender.found_full g.S.LaneSender.found_closed) l.fn.lanes l.lanes;
  places : flat_map g.S.LaneSender.wait_places l.lanes ≡ flat_map g.S.LaneSender.wait_places l.fn.lanes;
  awaited : (lane : ℕ) (d : _) → lane < l.lane → OnEarlier g.B.Board.waits_at (flat_map g.S.LaneSender.wait_places l.fn.lanes) l.fn.cx.me l.cx.board l.cx.wakes (IsAwaited (IsLook g.S.LaneSender.found_held g.S.LaneSender.found_full g.S.LaneSender.found_closed) g.S.LaneSender.found_full g.S.LaneSender.found_closed g.S.LaneSender.registered l.fn.cx.me (slice_index_or l.fn.lanes lane d) (slice_index_or l.lanes lane d));
  last : (lane : ℕ) (d : _) → lane + 1 ≡ l.lane → IsAwaited (IsLook g.S.LaneSender.found_held g.S.LaneSender.found_full g.S.LaneSender.found_closed) g.S.LaneSender.found_full g.S.LaneSender.found_closed g.S.LaneSender.registered l.fn.cx.me (slice_index_or l.fn.lanes lane d) (slice_index_or l.lanes lane d) l.cx.board;
  waiting : KeepsOthersWaiting (flat_map g.S.LaneSender.wait_places l.fn.lanes) l.fn.cx.me (g.B.Board.waits_at l.fn.cx.board) (g.B.Board.waits_at l.cx.board) l.cx.wakes;
  log : l.log.seat.me.0 ≡ l.fn.log.seat.me.0;
  table : l.log.seat.table_id ≡ l.fn.log.seat.table_id;
  value : l.value ≡ l.fn.value;
  board : g.B.Board.id l.cx.board ≡ g.B.Board.id l.fn.cx.board;
  me : l.cx.me ≡ l.fn.cx.me;
  wakes : KeepsWakes l.fn.cx.wakes l.cx.wakes;
}
