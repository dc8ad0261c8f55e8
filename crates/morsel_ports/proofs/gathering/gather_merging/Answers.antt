use Rattle.std.proofs.Common.{sym}
use Rattle.morsel_pipe_task.specs.declared.pipe_task.PipeWork.TheVariants.{Inserting, Merging}
use Rattle.morsel_ports.proofs.BetweenLemmas.{gathered}
use Rattle.morsel_ports.proofs.gathering.gather_merging.Goals as goal

pub returns-clause-tasks : goal.returns-clause-tasks
returns-clause-tasks g c =
    rw (sym c.in-Some.ensures.value) (gathered (λ task. task.task) Inserting c.new-tasks.result.items c.push.new.self.items c.add_inserting.new.tasks.items c.new.result (Merging c.in-Some.merging) c.args.inserting.items c.new-tasks.ensures.items c.in_ok-push.ensures.items c.new.ensures c.in_ok-add_inserting.ensures.tasks)
