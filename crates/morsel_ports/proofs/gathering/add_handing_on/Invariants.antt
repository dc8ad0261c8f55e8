use Rattle.std.proofs.Common.{◌≡◌, ◌++◌, Some, map}
use Rattle.std.specs.Vec.Iter.{into_iter_items}
use Rattle.morsel_pipe_task.specs.declared.pipe_task.PipeWork.TheVariants.{HandingOn}
use Rattle.morsel_ports.proofs.gathering.add_handing_on.Given as goal

abbrev pub invariant-each : goal.invariant-each
invariant-each g l = map (λ task. task.task) l.tasks.items ++ map (λ task. Some (HandingOn task)) (into_iter_items l.task-iterator) ≡ map (λ task. task.task) l.fn.tasks.items ++ map (λ task. Some (HandingOn task)) l.fn.handing_on.items
