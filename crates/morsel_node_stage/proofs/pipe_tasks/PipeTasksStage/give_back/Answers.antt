use Rattle.std.proofs.Common.{subst}
use Rattle.morsel_lane_pipe.specs.declared.receipts.PipeOut.{PipeOut}
use Rattle.morsel_phase.specs.Stages.{HasNoFault}
use Rattle.morsel_phase.proofs.StageLemmas.{all_between, all_others}
use Rattle.morsel_node_stage.proofs.pipe_tasks.PipeTasksStage.give_back.Goals as goal

pub unreachable-requires : goal.unreachable-requires
unreachable-requires g c =
    let owed = c.requires.owed in
    all_between (HasNoFault g.P.Task.gives) owed.0 owed.1 owed.2 owed.3 c.in-Failed.field-0 (subst (λ (out : PipeOut g.row.R.Denot). g.P.Task.gives owed.2 out) c.in-Failed.is owed.4)

pub returns-clause-owed : goal.returns-clause-owed
returns-clause-owed g c before after task owed gave = all_others (HasNoFault g.P.Task.gives) before after task owed
