use Rattle.std.proofs.Common.{◌≡◌, ◌++◌, List, ap, sym, subst, ◌∙◌}
use Rattle.std.specs.Arc.{arc_value}
use Rattle.std.proofs.lemmas.List.{append_assoc}
use Rattle.morsel_group_units.specs.GroupAsks.{GroupRulesSeen}
use Rattle.morsel_group_units.specs.GroupKeepers.{TakenGroupsSeen}
use Rattle.morsel_group_units.specs.LocalTakings.{HoldAllLoads, HoldsLoads}
use Rattle.morsel_group_units.specs.declared.taken_load.TakenLoad.{TakenLoad}
use Rattle.morsel_group_units.proofs.taken.TakenGroups.append.Goals as goal

pub invariant_of-self : goal.invariant_of-self
invariant_of-self c =
    let inside = c.self.inside in
    let parts = c.into_parts-local in
    let asked : c.args.keeper.rules ≡ arc_value inside.rules = c.requires.rules ∙ sym (ap (λ (seen : TakenGroupsSeen). seen.rules) c.self.view_is) in
    let own = subst (λ (rules : GroupRulesSeen). HoldsLoads rules parts.result.0 parts.ensures.holds.0 parts.result.1 c.args.keeper.taken) asked parts.ensures.holds.1 in
    let more : inside.loads.items ++ c.args.keeper.taken ≡ c.append.new.self.items = ap (λ (loads : List TakenLoad). inside.loads.items ++ loads) (sym parts.ensures.loads) ∙ sym c.in-Ok.ensures.items in
    let all : (inside.ordered.items ++ inside.loads.items) ++ c.args.keeper.taken ≡ inside.ordered.items ++ c.append.new.self.items = append_assoc inside.ordered.items inside.loads.items c.args.keeper.taken ∙ ap (λ (loads : List TakenLoad). inside.ordered.items ++ loads) more in
    subst (HoldAllLoads (arc_value inside.rules) c.put.new.locals.items c.put.new.held) all
    (c.put.ensures.holds (arc_value inside.rules) parts.ensures.holds.0 (inside.ordered.items ++ inside.loads.items) c.args.keeper.taken c.self.invariant own)
