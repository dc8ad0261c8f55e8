use Rattle.std.proofs.Common.{◌∙◌, sym, subst, refl}
use Rattle.morsel_merge.proofs.AskLemmas.{wakes_next}
use Rattle.morsel_merge.proofs.BoardLemmas.{others_wait, waits_none}
use Rattle.morsel_prims.specs.Waiting.{KeepsOthersWaiting}
use Rattle.morsel_lane_pipe.specs.Stepped.{IsOn, places_if}
use Rattle.morsel_lane_pipe.specs.Tasks.{Has}
use Rattle.morsel_lane_pipe.proofs.SteppedLemmas.{on-begin, on-can, on-met, on-next, on-ready, on-waiting}
use Rattle.morsel_lane_pipe.proofs.stepping.SteppingTask.poll.Given.{Over}
use Rattle.morsel_lane_pipe.proofs.stepping.SteppingTask.poll.Goals.{After-step}
use Rattle.morsel_lane_pipe.proofs.stepping.SteppingTask.poll.Goals as goal

module _ (g : Over) (c : After-step g) where
  -- after the steps so far, and one more
  on : IsOn (g.T.Stepwise.can_step (g.B.Board.id c.args.cx.now.board)) g.T.Stepwise.seen g.T.Stepwise.fails g.T.Stepwise.leaves c.args.self.now.task c.step.new.self.task
  on = on-next (g.T.Stepwise.can_step (g.B.Board.id c.args.cx.now.board)) g.T.Stepwise.seen g.T.Stepwise.fails g.T.Stepwise.leaves c.args.self.now.task c.steps.self.task c.step.new.self.task c.steps.invariant.on
      (subst (λ id. IsOn (g.T.Stepwise.can_step id) g.T.Stepwise.seen g.T.Stepwise.fails g.T.Stepwise.leaves c.steps.self.task c.step.new.self.task) c.steps.invariant.board c.step.ensures.again)

  waiting : KeepsOthersWaiting (places_if c.args.self.now.task (λ task. (g.T.Stepwise.seen task).places)) c.args.cx.now.me (g.B.Board.waits_at c.args.cx.now.board) (g.B.Board.waits_at c.step.new.cx.board) c.step.new.cx.wakes
  waiting = on-waiting (g.T.Stepwise.can_step (g.B.Board.id c.args.cx.now.board)) g.T.Stepwise.seen g.T.Stepwise.fails g.T.Stepwise.leaves c.args.self.now.task c.steps.self.task c.args.cx.now.me c.steps.cx.me (g.B.Board.waits_at c.args.cx.now.board) (g.B.Board.waits_at c.steps.cx.board) (g.B.Board.waits_at c.step.new.cx.board) c.steps.cx.wakes c.step.new.cx.wakes
      c.steps.invariant.on c.steps.invariant.me c.step.ensures.wakes c.steps.invariant.waiting c.step.ensures.keeps_waiting

pub step-requires : goal.step-requires
step-requires g c = record { can_step = subst (λ id. Has c.steps.self.task (g.T.Stepwise.can_step id)) (sym c.steps.invariant.board) (on-can (g.T.Stepwise.can_step (g.B.Board.id c.args.cx.now.board)) g.T.Stepwise.seen g.T.Stepwise.fails g.T.Stepwise.leaves c.args.self.now.task c.steps.self.task c.steps.invariant.on) }

pub steps-init : goal.steps-init
steps-init g c = record {
  on = on-begin (g.T.Stepwise.can_step (g.B.Board.id c.args.cx.now.board)) g.T.Stepwise.seen g.T.Stepwise.fails g.T.Stepwise.leaves c.args.self.now.task c.requires.can_poll;
  waiting = others_wait (places_if c.args.self.now.task (λ task. (g.T.Stepwise.seen task).places)) c.args.cx.now.me (g.B.Board.waits_at c.args.cx.now.board) (g.B.Board.waits_at c.args.cx.now.board) c.args.cx.now.wakes (waits_none (g.B.Board.waits_at c.args.cx.now.board) c.args.cx.now.wakes);
  board = refl;
  me = refl;
  wakes = (refl, λ n has. has);
}

pub steps-preserved : goal.steps-preserved
steps-preserved g c =
    let at = (goal.at.steps-preserved g c).After-step in
    record {
      on = on g at;
      waiting = waiting g at;
      board = c.step.ensures.same_board ∙ c.steps.invariant.board;
      me = c.step.ensures.same_task ∙ c.steps.invariant.me;
      wakes = wakes_next c.args.cx.now.wakes c.steps.cx.wakes c.step.new.cx.wakes c.steps.invariant.wakes c.step.ensures.wakes;
    }

pub returns-in-Ready-Some-clause-ready : goal.returns-in-Ready-Some-clause-ready
returns-in-Ready-Some-clause-ready g c =
    on-ready (g.T.Stepwise.can_step (g.B.Board.id c.args.cx.now.board)) g.T.Stepwise.seen g.T.Stepwise.fails g.T.Stepwise.leaves g.T.Stepwise.gives c.end.result c.in-Ready-Some.ending c.args.self.now.task c.steps.self.task c.step.new.self.task c.steps.invariant.on
    (subst (λ id. IsOn (g.T.Stepwise.can_step id) g.T.Stepwise.seen g.T.Stepwise.fails g.T.Stepwise.leaves c.steps.self.task c.step.new.self.task) c.steps.invariant.board c.step.ensures.again) c.end.ensures.gives c.end.ensures.failed (λ fault same. c.in-Ready-Some.ensures.failed fault (c.in-Ready-Some.field-0-is ∙ same))

pub returns-in-Ready-Some-clause-met : goal.returns-in-Ready-Some-clause-met
returns-in-Ready-Some-clause-met g c =
    let at = (goal.at.returns-in-Ready-Some-clause-met g c).After-step in
    on-met (g.T.Stepwise.can_step (g.B.Board.id c.args.cx.now.board)) g.T.Stepwise.seen g.T.Stepwise.fails g.T.Stepwise.leaves (g.B.Board.waits_at) g.T.Stepwise.met_cut c.end.result c.in-Ready-Some.ending c.args.self.now.task c.step.new.self.task c.step.new.cx.board c.end.new.cx.board c.end.new.cx.wakes c.end.ensures.asked (λ same. c.in-Ready-Some.ensures.met (c.in-Ready-Some.field-0-is ∙ same)) (on g at) c.end.ensures.keeps_waiting
