use Rattle.std.proofs.Common.{◌≡◌, ◌⊎◌, [], ap, subst, ◌∙◌}
use Rattle.std.specs.Arc.{arc_value}
use Rattle.morsel_meaning.specs.declared.fault.Fault.TheVariants.{OutOfMemory}
use Rattle.morsel_group.specs.GroupCauses.{GroupCause}
use Rattle.morsel_group_units.specs.GroupAsks.{rules_shape}
use Rattle.morsel_group_units.specs.GroupKeepers.{TakenGroupsSeen}
use Rattle.morsel_group_units.specs.TakenLoads.{PlacesRise, rows_taken}
use Rattle.morsel_group_units.proofs.FinishLemmas.{cause_found, cause_kept, grouped_rows}
use Rattle.morsel_group_units.proofs.taken.TakenGroups.finish.Goals as goal

pub returns-in-Some-clause-refused : goal.returns-in-Some-clause-refused
returns-in-Some-clause-refused c =
    let inside = c.self.inside in
    let none : inside.loads.items ≡ [] = ap (λ (seen : TakenGroupsSeen). seen.taken) c.self.view_is ∙ c.requires.ended in
    let rise = subst (PlacesRise 0) c.deref.ensures.value c.in-Ok.ensures.rise in
    subst (λ (seen : TakenGroupsSeen). (c.in-Some.fault ≡ OutOfMemory) ⊎ GroupCause (rules_shape seen.rules) (rows_taken seen.ordered) c.in-Some.fault) c.self.view_is
    (cause_kept c.groups_have_causes.ensures.groups (arc_value inside.rules) inside.locals.items inside.fault c.in-Some.fault inside.ordered.items inside.loads.items c.in-Some.is none rise c.self.invariant)

pub returns-in-Err-grouped-clause-refused : goal.returns-in-Err-grouped-clause-refused
returns-in-Err-grouped-clause-refused c =
    let inside = c.self.inside in
    let none : inside.loads.items ≡ [] = ap (λ (seen : TakenGroupsSeen). seen.taken) c.self.view_is ∙ c.requires.ended in
    let rise = subst (PlacesRise 0) c.deref.ensures.value c.in-Ok.ensures.rise in
    subst (λ (seen : TakenGroupsSeen). (c.in-Err-grouped.fault ≡ OutOfMemory) ⊎ GroupCause (rules_shape seen.rules) (rows_taken seen.ordered) c.in-Err-grouped.fault) c.self.view_is
    (cause_found c.groups_have_causes.ensures.groups c.groups_have_causes.ensures.sums (arc_value inside.rules) inside.locals.items inside.fault c.in-Err-grouped.fault inside.ordered.items inside.loads.items c.deref-2.result.now c.in-None.is none rise c.self.invariant c.deref-2.ensures
    (λ lists taken. c.in-Err-grouped.ensures.refused lists taken))

pub of-requires : goal.of-requires
of-requires c =
    let inside = c.self.inside in
    let none : inside.loads.items ≡ [] = ap (λ (seen : TakenGroupsSeen). seen.taken) c.self.view_is ∙ c.requires.ended in
    let rise = subst (PlacesRise 0) c.deref.ensures.value c.in-Ok.ensures.rise in
    record {
      grouped = grouped_rows c.groups_have_causes.ensures.fit (arc_value inside.rules) inside.locals.items inside.fault inside.ordered.items inside.loads.items c.deref-2.result.now c.in-Ok-grouped.frame c.in-None.is none rise c.self.invariant c.deref-2.ensures
          c.in-Ok-grouped.ensures.columns (λ lists taken. c.in-Ok-grouped.ensures.rows lists taken) (λ lists taken. c.in-Ok-grouped.ensures.few lists taken)
          (λ lists taken. c.in-Ok-grouped.ensures.enough lists taken) (λ lists taken. c.in-Ok-grouped.ensures.sums lists taken);
    }
