use Rattle.std.proofs.Common.{◌≡◌, ℕ, All, ap, refl, sym, subst, ◌∙◌}
use Rattle.morsel_prims.specs.Polled.{BoardId}
use Rattle.morsel_local.specs.Sweeps.{LocalSeen}
use Rattle.morsel_stage.specs.declared.one_of.OneOf.{OneOf}
use Rattle.morsel_stage.specs.Joined.{outputs_left}
use Rattle.morsel_stage.proofs.spawn.spawn_all.Given.{Over}
use Rattle.morsel_stage.proofs.spawn.spawn_all.Goals as goal

module _ (g : Over) where
  abbrev Seen : Type 0
  Seen = LocalSeen (OneOf g.row.A.Denot g.row.M.Denot g.row.Z.Denot) g.row.B.Denot (OneOf g.row.A-Out.Denot g.row.M-Out.Denot g.row.Z-Out.Denot)

  none_in : (local empty : Seen) → local ≡ empty → (n : ℕ) → outputs_left n empty.tasks ≡ 0 → outputs_left n local.tasks ≡ 0
  none_in local empty is n none = ap (λ (l : Seen). outputs_left n l.tasks) is ∙ none

pub spawn_firsts-requires : goal.spawn_firsts-requires
spawn_firsts-requires g c = record {
  can_poll = subst (λ (id : BoardId). All (g.A.Task.can_poll id) c.args.tasks.firsts.items) (sym (ap (λ (local : Seen g). local.home) c.in_ok-local.ensures.empty)) c.requires.firsts;
}

pub spawn_seconds-requires : goal.spawn_seconds-requires
spawn_seconds-requires g c = record {
  can_poll = subst (λ (id : BoardId). All (g.M.Task.can_poll id) c.args.tasks.seconds.items) (sym (c.spawn_firsts.ensures.same_home ∙ ap (λ (local : Seen g). local.home) c.in_ok-local.ensures.empty)) c.requires.seconds;
}

pub spawn_thirds-requires : goal.spawn_thirds-requires
spawn_thirds-requires g c = record {
  can_poll = subst (λ (id : BoardId). All (g.Z.Task.can_poll id) c.args.tasks.spreading.items)
      (sym (c.spawn_seconds.ensures.same_home ∙ c.spawn_firsts.ensures.same_home ∙ ap (λ (local : Seen g). local.home) c.in_ok-local.ensures.empty)) c.requires.spreading;
}

pub spawn_thirds-requires-2 : goal.spawn_thirds-requires-2
spawn_thirds-requires-2 g c = record {
  can_poll = subst (λ (id : BoardId). All (g.Z.Task.can_poll id) c.args.tasks.merging.items)
      (sym (c.spawn_thirds.ensures.same_home ∙ c.spawn_seconds.ensures.same_home ∙ c.spawn_firsts.ensures.same_home ∙ ap (λ (local : Seen g). local.home) c.in_ok-local.ensures.empty)) c.requires.merging;
}

-- tasks that are spawned have not ended
pub returns-clause-none_ended : goal.returns-clause-none_ended
returns-clause-none_ended g c =
    c.spawn_thirds-2.ensures.none_ended _ ∙ c.spawn_thirds.ensures.none_ended _ ∙ c.spawn_seconds.ensures.none_ended _ ∙ c.spawn_firsts.ensures.none_ended _
    ∙ none_in g _ _ c.in_ok-local.ensures.empty _ refl
