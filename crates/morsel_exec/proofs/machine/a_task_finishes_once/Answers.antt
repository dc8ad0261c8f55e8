use Rattle.morsel_exec.proofs.FinishLemmas.{finishes_once, finishes_after_take}
use Rattle.morsel_exec.proofs.machine.a_task_finishes_once.Goals as goal

pub returns-clause-once : goal.returns-clause-once
returns-clause-once c = finishes_once

pub returns-clause-after_a_take : goal.returns-clause-after_a_take
returns-clause-after_a_take c = finishes_after_take
