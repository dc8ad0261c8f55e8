use Rattle.std.proofs.Common.{◌≡◌, ◌++◌, ℕ, All}
use Rattle.std.specs.Vec.Iter.{into_iter_items}
use Rattle.morsel_stage.specs.Joined.{outputs_left}
use Rattle.morsel_stage.specs.Unjoined.{unjoined}
use Rattle.morsel_pair.proofs.spawn.spawn_each.Given as goal

abbrev pub invariant-tasks : goal.invariant-tasks
invariant-tasks g l = record {
  each : unjoined l.local.tasks ++ into_iter_items l.task-iterator ≡ unjoined l.fn.local.tasks ++ l.fn.tasks.items;
  none_ended : (n : ℕ) → outputs_left n l.local.tasks ≡ outputs_left n l.fn.local.tasks;
  can_poll : All (g.T.Task.can_poll l.fn.local.home) (into_iter_items l.task-iterator);
  same_cx : l.local.cx ≡ l.fn.local.cx;
  same_home : l.local.home ≡ l.fn.local.home;
  same_capacity : l.local.capacity ≡ l.fn.local.capacity;
}
