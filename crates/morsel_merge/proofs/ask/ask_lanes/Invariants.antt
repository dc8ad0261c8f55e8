use Rattle.std.proofs.Common.{◌≡◌, ◌<◌, ◌≤◌, ℕ, true, All, List, None, length, map, slice_index_or}
use Rattle.std.specs.List.{flat_map}
use Rattle.morsel_prims.specs.Waiting.{KeepsOthersWaiting}
use Rattle.morsel_prims.specs.Woken.{KeepsWakes}
use Rattle.morsel_merge.specs.Ends.{receiver_seen}
use Rattle.morsel_merge.specs.Merging.{IsMerging}
use Rattle.morsel_merge.proofs.ask.ask_lanes.Given as goal

abbrev pub invariant-loop-lane : goal.invariant-loop-lane
invariant-loop-lane g l = record {
  long : length l.receivers ≡ length l.fn.receivers;
  held_long : length l.held ≡ length l.fn.held;
  home : All (λ end. g.R.LaneReceiver.home end ≡ (g.B.Board.id l.fn.cx.board).lane_table) l.receivers;
  job : All (λ end. g.R.LaneReceiver.job end ≡ l.job.value) l.receivers;
  seen : map (receiver_seen g.R.LaneReceiver.home g.R.LaneReceiver.lane g.R.LaneReceiver.job g.R.LaneReceiver.wait_places) l.receivers ≡ map (receiver_seen g.R.LaneReceiver.home g.R.LaneReceiver.lane g.R.LaneReceiver.job g.R.LaneReceiver.wait_places) l.fn.receivers;
  places : flat_map g.R.LaneReceiver.wait_places l.receivers ≡ flat_map g.R.LaneReceiver.wait_places l.fn.receivers;
  merging : (given : List _) → IsMerging g.T.Ord.cmp (g.T.Message.suits l.job.value) (map g.R.LaneReceiver.taken l.fn.receivers) l.fn.held l.fn.from l.fn.to given → IsMerging g.T.Ord.cmp (g.T.Message.suits l.job.value) (map g.R.LaneReceiver.taken l.receivers) l.held l.lane l.fn.to given;
  whole : (lane : ℕ) (d : _) → l.fn.from ≤ lane → lane < l.lane → slice_index_or l.held lane None ≡ None → g.R.LaneReceiver.is_whole (slice_index_or l.receivers lane d) ≡ true;
  before : (lane : ℕ) (d : _) → lane < l.fn.from → slice_index_or l.receivers lane d ≡ slice_index_or l.fn.receivers lane d;
  after : (lane : ℕ) (d : _) → l.lane ≤ lane → slice_index_or l.receivers lane d ≡ slice_index_or l.fn.receivers lane d;
  held_before : (lane : ℕ) (d : _) → lane < l.fn.from → slice_index_or l.held lane d ≡ slice_index_or l.fn.held lane d;
  held_after : (lane : ℕ) (d : _) → l.lane ≤ lane → slice_index_or l.held lane d ≡ slice_index_or l.fn.held lane d;
  again : l.fn.from < l.lane → ((d : _) → g.R.LaneReceiver.is_cut (slice_index_or l.fn.receivers l.fn.from d) ≡ true) → ⊥;
  waiting : KeepsOthersWaiting (flat_map g.R.LaneReceiver.wait_places l.fn.receivers) l.fn.cx.me (g.B.Board.waits_at l.fn.cx.board) (g.B.Board.waits_at l.cx.board) l.cx.wakes;
  board : g.B.Board.id l.cx.board ≡ g.B.Board.id l.fn.cx.board;
  me : l.cx.me ≡ l.fn.cx.me;
  wakes : KeepsWakes l.fn.cx.wakes l.cx.wakes;
}
