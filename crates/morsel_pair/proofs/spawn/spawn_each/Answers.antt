use Rattle.std.proofs.Common.{All, ap, subst, ◌∙◌}
use Rattle.std.proofs.lemmas.List.Elements.{All-tail}
use Rattle.std.specs.Vec.Iter.{into_iter_items}
use Rattle.morsel_local.specs.Sweeps.{LocalSeen}
use Rattle.morsel_stage.specs.Unjoined.{unjoined}
use Rattle.morsel_stage.proofs.SpawnLemmas.{left_spawned, list_more}
use Rattle.morsel_stage.proofs.UnjoinedLemmas.{unjoined_spawned}
use Rattle.morsel_pair.proofs.spawn.spawn_each.Given.{Over}
use Rattle.morsel_pair.proofs.spawn.spawn_each.Goals as goal

module _ (g : Over) where
  abbrev Seen : Type 0
  Seen = LocalSeen g.row.T.Denot g.row.B.Denot g.row.T-Out.Denot

pub tasks-preserved : goal.tasks-preserved
tasks-preserved g c =
    let left = into_iter_items c.next.new.self in
    let are = ap (λ (local : Seen g). local.tasks) c.in-Ok.ensures.ok in
    record {
      each = list_more (unjoined c.tasks.local.tasks) (unjoined c.spawn.new.self.tasks) (into_iter_items c.tasks.task-iterator) left (unjoined c.args.local.now.tasks) c.args.tasks.items c.in-Some.task c.in-Some.ensures.steps.0 (ap unjoined are ∙ unjoined_spawned c.tasks.local.tasks c.in-Some.task) c.tasks.invariant.each;
      none_ended = λ n. left_spawned n c.tasks.local.tasks c.spawn.new.self.tasks c.in-Some.task are ∙ c.tasks.invariant.none_ended n;
      can_poll = All-tail (g.T.Task.can_poll c.args.local.now.home) c.in-Some.task left (subst (All (g.T.Task.can_poll c.args.local.now.home)) c.in-Some.ensures.steps.0 c.tasks.invariant.can_poll);
      same_cx = ap (λ (local : Seen g). local.cx) c.in-Ok.ensures.ok ∙ c.tasks.invariant.same_cx;
      same_home = ap (λ (local : Seen g). local.home) c.in-Ok.ensures.ok ∙ c.tasks.invariant.same_home;
      same_capacity = ap (λ (local : Seen g). local.capacity) c.in-Ok.ensures.ok ∙ c.tasks.invariant.same_capacity;
    }
