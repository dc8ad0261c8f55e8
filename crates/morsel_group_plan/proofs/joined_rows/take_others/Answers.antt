use Rattle.std.proofs.Common.{◌≡◌, true, false, sym, ap, subst, ◌∙◌}
use Rattle.std.specs.Arc.{arc_value}
use Rattle.morsel_join.specs.declared.build_side.Build.{Build}
use Rattle.morsel_join.specs.BuildSides.{kept_side}
use Rattle.morsel_join_phases.specs.JoinPhases.{has_alone}
use Rattle.morsel_join_plan.proofs.CourseLemmas.{wants_there}
use Rattle.morsel_group_plan.proofs.LoneFacts.{takes_found, takes_with_alone}
use Rattle.morsel_group_plan.proofs.joined_rows.take_others.Goals as goal

pub take_rest-requires-clause-has : goal.take_rest-requires-clause-has
take_rest-requires-clause-has g c = (let has = c.requires.has in (arc_value c.args.build.now, has.0, has.1, has.2, has.3, has.4, has.5))

pub returns-then-gives_alone-clause-takes : goal.returns-then-gives_alone-clause-takes
returns-then-gives_alone-clause-takes g c group lane alone_is takes =
    let side = kept_side (arc_value c.args.build.now) in
    let has : has_alone side.rules ≡ true = sym (ap (λ (b : Build). has_alone b.rules) c.deref.ensures) ∙ sym c.gives_alone.ensures ∙ c.if-gives_alone.true in
    takes_with_alone _ group side lane c.args.alone.now c.args.given (wants_there side c.requires.right ∙ has) alone_is (c.in_ok-take_rest.ensures.took group _ takes)

pub returns-clause-takes : goal.returns-clause-takes
returns-clause-takes g c group lane alone_is takes =
    let side = kept_side (arc_value c.args.build.now) in
    let has : has_alone side.rules ≡ false = sym (ap (λ (b : Build). has_alone b.rules) c.deref.ensures) ∙ sym c.gives_alone.ensures ∙ c.if-gives_alone.false in
    takes_found _ group side lane c.args.given (wants_there side c.requires.right ∙ has) takes
