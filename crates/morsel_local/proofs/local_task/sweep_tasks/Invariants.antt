use Rattle.std.proofs.Common.{◌≡◌, ◌+◌, ◌≤◌, ℕ, All, length, slice_index_or, take}
use Rattle.morsel_local.specs.Sweeps.{AreSwept, IsKept, count_ended, spawned_bodies}
use Rattle.morsel_local.specs.declared.local_task.LocalTask.{LocalTask}
use Rattle.morsel_local.proofs.local_task.sweep_tasks.Given as goal

abbrev pub invariant-loop-at : goal.invariant-loop-at
invariant-loop-at g l = record {
  long : length l.tasks ≡ length l.fn.tasks;
  swept : AreSwept g.T.Task g.B.Board 1 (take l.at l.fn.tasks) (take l.at l.tasks) l.fn.cx l.cx;
  rest : (k : ℕ) (d : LocalTask g.row.T.Denot g.row.T-Out.Denot) → l.at ≤ k → slice_index_or l.tasks k d ≡ slice_index_or l.fn.tasks k d;
  kept : All (IsKept g.T.Task (g.B.Board.id l.fn.cx.board)) l.tasks;
  spawned : spawned_bodies l.tasks ≡ spawned_bodies l.fn.tasks;
  ended : count_ended l.tasks ≡ count_ended l.fn.tasks + l.ended;
  few : l.ended ≤ l.at;
  board : g.B.Board.id l.cx.board ≡ g.B.Board.id l.fn.cx.board;
}
