use Rattle.std.proofs.Common.{refl, sym, subst, ◌∙◌}
use Rattle.morsel_stage_tasks.proofs.start.start_tasks.Goals as goal

pub spawn_each-requires : goal.spawn_each-requires
spawn_each-requires g c = record { can_poll = rw (c.in_ok-local.ensures.empty) c.requires.can_poll }

-- tasks that are spawned have not ended
pub returns-clause-none_ended : goal.returns-clause-none_ended
returns-clause-none_ended g c = c.spawn_each.ensures.none_ended _ ∙ (rw (c.in_ok-local.ensures.empty) refl)

pub returns-clause-each : goal.returns-clause-each
returns-clause-each g c = c.in_ok-spawn_each.ensures.spawned ∙ (rw (c.in_ok-local.ensures.empty) refl)

pub returns-clause-owed : goal.returns-clause-owed
returns-clause-owed g c = subst (g.S.Stage.owes c.args.tasks.stage) (sym (returns-clause-each g c)) c.requires.owed
