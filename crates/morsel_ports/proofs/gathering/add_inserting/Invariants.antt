use Rattle.std.proofs.Common.{◌≡◌, ◌++◌, Some, map}
use Rattle.std.specs.Vec.Iter.{into_iter_items}
use Rattle.morsel_pipe_task.specs.declared.pipe_task.PipeWork.TheVariants.{Inserting}
use Rattle.morsel_ports.proofs.gathering.add_inserting.Given as goal

abbrev pub invariant-each : goal.invariant-each
invariant-each g l = map (λ task. task.task) l.tasks.items ++ map (λ task. Some (Inserting task)) (into_iter_items l.task-iterator) ≡ map (λ task. task.task) l.fn.tasks.items ++ map (λ task. Some (Inserting task)) l.fn.inserting.items
