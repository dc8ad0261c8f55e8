use Rattle.std.proofs.Common.{rules, ◌≡◌, List, sym, subst}
use Rattle.morsel_meaning.specs.Values.{Row}
use Rattle.morsel_join.specs.declared.build_side.Build.{Build}
use Rattle.morsel_join.specs.BuildSides.{kept_side}
use Rattle.morsel_join.specs.Sides.{rows_alone}
use Rattle.morsel_join_units.specs.LoneGivers.{HasLeft}
use Rattle.morsel_join_units.specs.LookedUps.{rows_looked_up}
use Rattle.morsel_join_phases.specs.JoinPhases.{FitsJoin}
use Rattle.morsel_join_phases.specs.declared.phase.JoinPhase.TheVariants as phases
use Rattle.morsel_join_phases.proofs.phase.JoinPhase.take_giver.Goals as goal

pub returns-clause-gives_for : goal.returns-clause-gives_for
returns-clause-gives_for g c kept asked sent fits =
    let emit = c.in-Emit.emit in
    let old : c.args.self.now ≡ phases.Emit emit = search rules in
    let rows : List Row = rows_looked_up emit.looked.value.items in
    let there = subst (λ phase. FitsJoin g.J.RowsJob.gives_rows g.J.RowsJob.gives g.J.RowsJob.is_all g.J.RowsJob.finds g.J.RowsJob.is_alone phase kept asked sent) old fits in
    let built = c.in_ok-giver.ensures.build in
    record {
      from = asked;
      asked = rows;
      alone = subst (λ (b : Build). g.J.RowsJob.is_alone (kept_side b) asked sent) (sym built) there.1;
      all = there.0 rows emit.asked;
      giver_is = c.in_ok-giver.ensures.giver;
      left = subst (λ (b : Build). HasLeft (rows_alone (kept_side b) rows) c.in_ok-giver.giver) (sym built) c.in_ok-giver.ensures.left_of_looked;
    }
