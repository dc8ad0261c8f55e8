use Rattle.std.proofs.Common.{◌∷◌, [], ap, ◌∙◌, append-nil}
use Rattle.std.specs.Vec.Iter.{into_iter_items}
use Rattle.morsel_stage.proofs.SpawnLemmas.{list_more}
use Rattle.morsel_pair.specs.declared.two_of.TwoOf.TheVariants.{Second}
use Rattle.morsel_pair.specs.Pairs.{firsts_of_two, seconds_of_two}
use Rattle.morsel_pair.proofs.PairLemmas.{two_firsts_more, two_seconds_more}
use Rattle.morsel_pair.proofs.spawn.as_seconds.Goals as goal

pub tasks-preserved : goal.tasks-preserved
tasks-preserved g c =
    let left = into_iter_items c.next.new.self in
    let are = c.in_ok-push.ensures.items in
    record {
      each = list_more (seconds_of_two c.tasks.tasks.items) (seconds_of_two c.push.new.self.items) (into_iter_items c.tasks.task-iterator) left (seconds_of_two c.args.tasks.now.items) c.args.more.items c.in-Some.task c.in-Some.ensures.steps.0 (ap seconds_of_two are ∙ two_seconds_more c.tasks.tasks.items (Second c.in-Some.task ∷ [])) c.tasks.invariant.each;
      same_others = ap firsts_of_two are ∙ two_firsts_more c.tasks.tasks.items (Second c.in-Some.task ∷ []) ∙ append-nil (firsts_of_two c.tasks.tasks.items) ∙ c.tasks.invariant.same_others;
    }
