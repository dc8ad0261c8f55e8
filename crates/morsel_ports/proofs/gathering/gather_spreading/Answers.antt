use Rattle.std.proofs.Common.{sym}
use Rattle.morsel_pipe_task.specs.declared.pipe_task.PipeWork.TheVariants.{HandingOn, Distributing}
use Rattle.morsel_ports.proofs.BetweenLemmas.{gathered}
use Rattle.morsel_ports.proofs.gathering.gather_spreading.Goals as goal

pub returns-clause-tasks : goal.returns-clause-tasks
returns-clause-tasks g c =
    rw (sym c.in-Some.ensures.value) (gathered (λ task. task.task) HandingOn c.new-tasks.result.items c.push.new.self.items c.add_handing_on.new.tasks.items c.new.result (Distributing c.in-Some.distributing) c.args.handing_on.items c.new-tasks.ensures.items c.in_ok-push.ensures.items c.new.ensures c.in_ok-add_handing_on.ensures.tasks)
