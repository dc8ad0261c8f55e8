use Rattle.std.proofs.Common.{◌≡◌, ◌≤◌, ℕ, All, slice_index_or, take, length}
use Rattle.morsel_local.specs.Sweeps.{AreAbandoned, IsKept}
use Rattle.morsel_local.specs.declared.local_task.LocalTask.{LocalTask}
use Rattle.morsel_local.proofs.local_task.abandon_tasks.Given as goal

abbrev pub invariant-loop-at : goal.invariant-loop-at
invariant-loop-at g l = record {
  long : length l.tasks ≡ length l.fn.tasks;
  abandoned : AreAbandoned g.T.Task g.B.Board (take l.at l.fn.tasks) l.fn.cx l.cx;
  rest : (k : ℕ) (d : LocalTask g.row.T.Denot g.row.T-Out.Denot) → l.at ≤ k → slice_index_or l.tasks k d ≡ slice_index_or l.fn.tasks k d;
  kept : All (IsKept g.T.Task (g.B.Board.id l.fn.cx.board)) l.tasks;
  board : g.B.Board.id l.cx.board ≡ g.B.Board.id l.fn.cx.board;
}
