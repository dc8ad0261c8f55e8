use Rattle.std.proofs.Common.{rules, ◌≡◌, sym, subst, arith}
use Rattle.morsel_meaning.specs.Values.{Table}
use Rattle.morsel_group_phases.specs.GroupPhases.{FitsGroup}
use Rattle.morsel_group_phases.specs.declared.phase.GroupPhase.TheVariants as phases
use Rattle.morsel_group_phases.proofs.phase.GroupPhase.take_giver.Goals as goal

pub returns-clause-gives_for : goal.returns-clause-gives_for
returns-clause-gives_for g c job sent fits =
    let source = c.in-Source.source in
    let old : c.args.self.now ≡ phases.Source source = search rules in
    let there = subst (λ phase. FitsGroup g.J.RowsJob.gives_cuts g.J.RowsJob.is_given phase job sent) old fits in
    let made = c.in_ok-giver.ensures in
    record {
      given = subst (λ (frame : Table). g.J.RowsJob.is_given frame.schema frame.rows sent) (sym made.frame) there;
      some = rw made.rows.0 c.requires.some;
      within = omega (arith, made.rows.1);
    }
