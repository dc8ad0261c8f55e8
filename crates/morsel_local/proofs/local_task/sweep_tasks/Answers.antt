use Rattle.std.proofs.Common.{sym, subst, ◌∙◌, ◌<◌, ◌+◌, length, arith, length-set}
use Rattle.std.proofs.lemmas.List.Elements.{All-set}
use Rattle.morsel_local.specs.Sweeps.{IsKept, ended_in}
use Rattle.morsel_local.proofs.SweepLemmas.{count-set, rest-step, spawned-set, swept-step}
use Rattle.morsel_local.proofs.local_task.sweep_tasks.Goals as goal

pub loop-at-preserved : goal.loop-at-preserved
loop-at-preserved g c =
    let within : c.loop-at.at < length c.loop-at.tasks = omega (arith, c.loop-at.invariant.long, c.loop-at-test.true) in
    record {
      long = length-set c.loop-at.tasks c.loop-at.at c.turn-ended.new.task ∙ c.loop-at.invariant.long;
      swept = swept-step g.T.Task g.B.Board c.args.tasks.now c.loop-at.tasks c.loop-at.at c.index-tasks-at.result c.turn-ended.new.task c.args.cx.now c.loop-at.cx c.turn-ended.new.cx (omega (arith, within, c.loop-at.invariant.long)) c.loop-at.invariant.long c.loop-at.invariant.rest c.index-tasks-at.is c.loop-at.invariant.swept (subst (λ t. Rattle.morsel_local.specs.Sweeps.IsTurn g.T.Task g.B.Board (c.loop-at.at + 1) t c.turn-ended.new.task c.loop-at.cx c.turn-ended.new.cx) (sym c.index-tasks-at.is) c.turn-ended.ensures.turn);
      rest = rest-step c.args.tasks.now c.loop-at.tasks c.loop-at.at c.turn-ended.new.task c.loop-at.invariant.rest;
      kept = All-set (IsKept g.T.Task (g.B.Board.id c.args.cx.now.board)) c.loop-at.tasks c.loop-at.at c.turn-ended.new.task (subst (λ h. IsKept g.T.Task h c.turn-ended.new.task) c.loop-at.invariant.board c.turn-ended.ensures.kept) c.loop-at.invariant.kept;
      spawned = spawned-set c.loop-at.tasks c.loop-at.at c.turn-ended.new.task c.index-tasks-at.result within c.turn-ended.ensures.spawned ∙ c.loop-at.invariant.spawned;
      ended = omega (arith, count-set c.loop-at.tasks c.loop-at.at c.turn-ended.new.task c.index-tasks-at.result within, c.turn-ended.ensures.ended, c.loop-at.invariant.ended);
      few = omega (arith, c.loop-at.invariant.few, c.turn-ended.ensures.at_most);
      board = c.turn-ended.ensures.same_board ∙ c.loop-at.invariant.board;
    }
