use Rattle.morsel_pipe_task.proofs.pipe_task.PipeWorkStepwiseBoard.step.Goals as goal

pub returns-in-Merging-clause-keeps_waiting : goal.returns-in-Merging-clause-keeps_waiting
returns-in-Merging-clause-keeps_waiting g c = rw c.in-Merging.is c.step.ensures.keeps_waiting

pub returns-in-Inserting-clause-keeps_waiting : goal.returns-in-Inserting-clause-keeps_waiting
returns-in-Inserting-clause-keeps_waiting g c = rw c.in-Inserting.is c.step-in-Inserting.ensures.keeps_waiting

pub returns-in-Distributing-clause-keeps_waiting : goal.returns-in-Distributing-clause-keeps_waiting
returns-in-Distributing-clause-keeps_waiting g c = rw c.in-Distributing.is c.step-in-Distributing.ensures.keeps_waiting

pub returns-in-HandingOn-clause-keeps_waiting : goal.returns-in-HandingOn-clause-keeps_waiting
returns-in-HandingOn-clause-keeps_waiting g c = rw c.in-HandingOn.is c.step-in-HandingOn.ensures.keeps_waiting
