use Rattle.std.proofs.Common.{rules, ap, sym, subst}
use Rattle.std.specs.Arc.{arc_value}
use Rattle.morsel_join.specs.BuildSides.{kept_side}
use Rattle.morsel_join.specs.LoneRows.{LeavesAlone}
use Rattle.morsel_join.specs.Sides.{rows_alone}
use Rattle.morsel_join_units.specs.RowCutters.{HasCut}
use Rattle.morsel_join_units.proofs.LoneLemmas.{did-alone}
use Rattle.morsel_join_units.proofs.lone_giver.LoneGiverLoadsGiver.next.Goals as goal

pub returns-clause-suits : goal.returns-clause-suits
returns-clause-suits g c =
    λ to for_job.
    let m = c.in_ok-morsel.morsel in
    g.met.J.RowsJob.alone_suit (kept_side (arc_value c.args.self.now.lone.build)) for_job.from to for_job.asked m.frame m.seq m.source_token m.stretch for_job.alone for_job.all c.in_ok-morsel.ensures.columns (c.in_ok-morsel.ensures.cut _ for_job.left)

pub returns-clause-did : goal.returns-clause-did
returns-clause-did g c =
    λ before did.
    let m = c.in_ok-morsel.morsel in
    let same = c.in_ok-morsel.ensures.same in
    did-alone c.args.self.now _ before m.frame m.seq m.source_token m.stretch (record { build = ap arc_value same.0; hits = ap (λ hits. hits.value) same.1; number = same.2 }) c.in_ok-morsel.ensures.rows c.in_ok-morsel.ensures.number (search rules) did

pub returns-clause-gives_for : goal.returns-clause-gives_for
returns-clause-gives_for g c =
    let same = c.in_ok-morsel.ensures.same in
    λ to for_job.
    record {
      from = for_job.from;
      asked = for_job.asked;
      alone = subst (λ build. g.J.RowsJob.is_alone (kept_side (arc_value build)) for_job.from to) (sym same.0) for_job.alone;
      all = for_job.all;
      giver_is = record { lone = c.in_ok-morsel.ensures.giver.lone; some = c.in_ok-morsel.ensures.giver.some; place = c.in_ok-morsel.ensures.giver.place };
      left = let more = c.in_ok-morsel.ensures.left _ for_job.left in
          subst (λ build. HasCut (LeavesAlone c.give.new.self.lone) (rows_alone (kept_side (arc_value build)) for_job.asked) c.give.new.self.cutter.given) (sym same.0) more;
    }
