use Rattle.std.proofs.Common.{◌≡◌, ◌++◌, ◌∷◌, [], All, ap, subst, ◌∙◌}
use Rattle.std.proofs.lemmas.List.Elements.{All-tail}
use Rattle.std.specs.Vec.Iter.{into_iter_items}
use Rattle.morsel_local.specs.Sweeps.{LocalSeen, new_task}
use Rattle.morsel_stage.specs.declared.one_of.OneOf.{OneOf}
use Rattle.morsel_stage.specs.declared.one_of.OneOf.TheVariants.{Second}
use Rattle.morsel_stage.specs.Kinds.{firsts, seconds, thirds}
use Rattle.morsel_stage.specs.Unjoined.{unjoined}
use Rattle.morsel_stage.proofs.SpawnLemmas.{left_spawned, spawned_second, list_more}
use Rattle.morsel_stage.proofs.spawn.spawn_seconds.Given.{Over}
use Rattle.morsel_stage.proofs.spawn.spawn_seconds.Goals as goal

module _ (g : Over) where
  abbrev Seen : Type 0
  Seen = LocalSeen (OneOf g.row.A.Denot g.row.M.Denot g.row.Z.Denot) g.row.B.Denot (OneOf g.row.A-Out.Denot g.row.M-Out.Denot g.row.Z-Out.Denot)

pub tasks-preserved : goal.tasks-preserved
tasks-preserved g c =
    let left = into_iter_items c.next.new.self in
    let more = spawned_second c.tasks.local.tasks c.spawn.new.self.tasks c.in-Some.task (ap (λ (local : Seen g). local.tasks) c.in-Ok.ensures.ok) in
    record {
      each = list_more (seconds (unjoined c.tasks.local.tasks)) (seconds (unjoined c.spawn.new.self.tasks)) (into_iter_items c.tasks.task-iterator) left (seconds (unjoined c.args.local.now.tasks)) c.args.tasks.items c.in-Some.task c.in-Some.ensures.steps.0 more.0 c.tasks.invariant.each;
      same_firsts = more.1 ∙ c.tasks.invariant.same_firsts;
      same_thirds = more.2 ∙ c.tasks.invariant.same_thirds;
      none_ended = λ n. left_spawned n c.tasks.local.tasks c.spawn.new.self.tasks (Second c.in-Some.task) (ap (λ (local : Seen g). local.tasks) c.in-Ok.ensures.ok) ∙ c.tasks.invariant.none_ended n;
      can_poll = All-tail (g.M.Task.can_poll c.args.local.now.home) c.in-Some.task left (subst (All (g.M.Task.can_poll c.args.local.now.home)) c.in-Some.ensures.steps.0 c.tasks.invariant.can_poll);
      same_cx = ap (λ (local : Seen g). local.cx) c.in-Ok.ensures.ok ∙ c.tasks.invariant.same_cx;
      same_home = ap (λ (local : Seen g). local.home) c.in-Ok.ensures.ok ∙ c.tasks.invariant.same_home;
      same_capacity = ap (λ (local : Seen g). local.capacity) c.in-Ok.ensures.ok ∙ c.tasks.invariant.same_capacity;
    }
