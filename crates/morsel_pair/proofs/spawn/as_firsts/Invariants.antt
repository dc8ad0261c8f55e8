use Rattle.std.proofs.Common.{◌≡◌, ◌++◌}
use Rattle.std.specs.Vec.Iter.{into_iter_items}
use Rattle.morsel_pair.specs.Pairs.{firsts_of_two, seconds_of_two}
use Rattle.morsel_pair.proofs.spawn.as_firsts.Given as goal

abbrev pub invariant-tasks : goal.invariant-tasks
invariant-tasks g l = record {
  each : firsts_of_two l.tasks.items ++ into_iter_items l.task-iterator ≡ firsts_of_two l.fn.tasks.items ++ l.fn.more.items;
  same_others : seconds_of_two l.tasks.items ≡ seconds_of_two l.fn.tasks.items;
}
