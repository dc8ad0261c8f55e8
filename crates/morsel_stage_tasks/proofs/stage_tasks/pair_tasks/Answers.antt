use Rattle.std.proofs.Common.{All, subst, sym}
use Rattle.morsel_stage_tasks.proofs.TaskLemmas.{added_both, all_of_two}
use Rattle.morsel_stage_tasks.proofs.stage_tasks.pair_tasks.Goals as goal

pub returns-clause-owed : goal.returns-clause-owed
returns-clause-owed g c =
    let are = added_both c.new-tasks.result.items c.as_firsts.new.tasks.items c.as_seconds.new.tasks.items c.args.first.tasks.items c.args.second.tasks.items c.new-tasks.ensures.items c.in_ok-as_firsts.ensures.firsts c.as_firsts.ensures.same_seconds
    c.in_ok-as_seconds.ensures.seconds c.as_seconds.ensures.same_firsts in (
      subst (g.S.Stage.owes c.args.first.stage) (sym are.0) c.requires.first_owed,
      subst (g.T.Stage.owes c.args.second.stage) (sym are.1) c.requires.second_owed,
    )

pub returns-clause-can_poll : goal.returns-clause-can_poll
returns-clause-can_poll g c id firsts seconds =
    let are = added_both c.new-tasks.result.items c.as_firsts.new.tasks.items c.as_seconds.new.tasks.items c.args.first.tasks.items c.args.second.tasks.items c.new-tasks.ensures.items c.in_ok-as_firsts.ensures.firsts c.as_firsts.ensures.same_seconds
    c.in_ok-as_seconds.ensures.seconds c.as_seconds.ensures.same_firsts in
    all_of_two (g.S.Task.Task.can_poll id) (g.T.Task.Task.can_poll id) c.as_seconds.new.tasks.items (subst (All (g.S.Task.Task.can_poll id)) (sym are.0) firsts) (subst (All (g.T.Task.Task.can_poll id)) (sym are.1) seconds)
