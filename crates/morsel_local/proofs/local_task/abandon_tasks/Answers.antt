use Rattle.std.proofs.Common.{sym, subst, ◌∙◌, ◌<◌, length, arith, length-set}
use Rattle.std.proofs.lemmas.List.Elements.{All-set}
use Rattle.morsel_local.specs.Sweeps.{IsAbandonedAt, IsKept, IsKeptAt}
use Rattle.morsel_local.proofs.SweepLemmas.{abandoned-step, rest-step}
use Rattle.morsel_local.proofs.local_task.abandon_tasks.Goals as goal

pub loop-at-preserved : goal.loop-at-preserved
loop-at-preserved g c =
    let within : c.loop-at.at < length c.loop-at.tasks = omega (arith, c.loop-at.invariant.long, c.loop-at-test.true) in
    record {
      long = length-set c.loop-at.tasks c.loop-at.at c.abandon_task.new.task ∙ c.loop-at.invariant.long;
      abandoned = abandoned-step g.T.Task g.B.Board c.args.tasks.now c.loop-at.tasks c.loop-at.at c.index-tasks-at.result c.args.cx.now c.loop-at.cx c.abandon_task.new.cx (omega (arith, within, c.loop-at.invariant.long)) c.loop-at.invariant.rest c.index-tasks-at.is c.loop-at.invariant.abandoned (subst (λ t. IsAbandonedAt g.T.Task g.B.Board t.at c.loop-at.cx c.abandon_task.new.cx) (sym c.index-tasks-at.is) c.abandon_task.ensures.abandoned);
      rest = rest-step c.args.tasks.now c.loop-at.tasks c.loop-at.at c.abandon_task.new.task c.loop-at.invariant.rest;
      kept = All-set (IsKept g.T.Task (g.B.Board.id c.args.cx.now.board)) c.loop-at.tasks c.loop-at.at c.abandon_task.new.task (subst (IsKeptAt g.T.Task (g.B.Board.id c.args.cx.now.board) c.abandon_task.new.task.spawned) (sym c.abandon_task.ensures.taken) tt) c.loop-at.invariant.kept;
      board = c.abandon_task.ensures.same_board ∙ c.loop-at.invariant.board;
    }
