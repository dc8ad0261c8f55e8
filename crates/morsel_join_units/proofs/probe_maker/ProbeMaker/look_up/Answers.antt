use Rattle.std.proofs.Common.{rules, ◌≡◌, ◌++◌, ◌∷◌, [], List, ap, sym, subst, ◌∙◌}
use Rattle.std.specs.Arc.{arc_value}
use Rattle.morsel_meaning.specs.Values.{Row, Table}
use Rattle.morsel_join.specs.declared.build_side.Build.{Build}
use Rattle.morsel_join.specs.Hits.{AreMarks, HaveHit}
use Rattle.morsel_join_units.specs.LookedUps.{rows_looked_up}
use Rattle.morsel_join_units.proofs.LookedLemmas.{rows-more}
use Rattle.morsel_join_units.proofs.probe_maker.ProbeMaker.look_up.Goals as goal

pub mark-requires : goal.mark-requires
mark-requires c =
    let now = c.in_ok-probing.probing in
    let build : arc_value now.build ≡ arc_value c.args.self.now.build = search rules in
    record {
      probing = search rules;
      marks = subst (λ (b : Build). AreMarks b c.args.self.now.hits.seen.items) (sym build) c.requires.maker.hits.len;
    }

pub returns-clause-maker : goal.returns-clause-maker
returns-clause-maker c =
    let now = c.in_ok-probing.probing in
    let build : arc_value now.build ≡ arc_value c.args.self.now.build = search rules in
    let old = c.args.self.now.looked.items in
    let pushed : c.push.new.self.items ≡ old ++ c.args.looked ∷ [] = search rules in
    let rows : rows_looked_up old ++ now.frame.rows ≡ rows_looked_up c.push.new.self.items =
    ap (λ (t : Table). rows_looked_up old ++ t.rows) (c.in_ok-probing.ensures.frame ∙ sym c.requires.frame) ∙ rows-more old c.args.looked ∙ ap rows_looked_up (sym pushed) in
    let marked : HaveHit (arc_value now.build) c.mark.new.hits.seen.items (rows_looked_up old ++ now.frame.rows) =
    c.mark.ensures.hit (rows_looked_up old) (subst (λ (b : Build). HaveHit b c.args.self.now.hits.seen.items (rows_looked_up old)) (sym build) c.requires.maker.hits) in
    record {
      built = c.requires.maker.built;
      some = c.requires.maker.some;
      hits = subst (λ (b : Build). HaveHit b c.mark.new.hits.seen.items (rows_looked_up c.push.new.self.items)) build (subst (λ (rs : List Row). HaveHit (arc_value now.build) c.mark.new.hits.seen.items rs) rows marked);
    }

pub returns-clause-hits : goal.returns-clause-hits
returns-clause-hits c =
    let now = c.in_ok-probing.probing in
    let build : arc_value now.build ≡ arc_value c.args.self.now.build = search rules in
    λ asked hit.
    subst (λ (b : Build). HaveHit b c.mark.new.hits.seen.items (asked ++ c.args.frame.rows)) build
    (subst (λ (t : Table). HaveHit (arc_value now.build) c.mark.new.hits.seen.items (asked ++ t.rows)) c.in_ok-probing.ensures.frame
    (c.mark.ensures.hit asked (subst (λ (b : Build). HaveHit b c.args.self.now.hits.seen.items asked) (sym build) hit)))
