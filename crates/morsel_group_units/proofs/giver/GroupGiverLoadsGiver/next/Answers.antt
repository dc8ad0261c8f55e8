use Rattle.std.proofs.Common.{rules, sym, subst}
use Rattle.morsel_meaning.specs.Values.{Table}
use Rattle.morsel_group_units.proofs.GiverLemmas.{did_more}
use Rattle.morsel_group_units.proofs.giver.GroupGiverLoadsGiver.next.Goals as goal

pub returns-clause-suits : goal.returns-clause-suits
returns-clause-suits g c =
    λ to for_job.
    let m = c.in_ok-morsel.morsel in
    g.met.J.RowsJob.given_suit c.args.self.now.frame.schema c.args.self.now.frame.rows to m.frame m.seq m.source_token m.stretch for_job.given c.in_ok-morsel.ensures.columns c.in_ok-morsel.ensures.cut

pub returns-clause-did : goal.returns-clause-did
returns-clause-did g c =
    λ before did.
    let m = c.in_ok-morsel.morsel in
    let same = c.in_ok-morsel.ensures.same in
    did_more c.args.self.now _ before m.frame m.seq m.source_token m.stretch (record { frame = same.0; number = same.2 }) c.in_ok-morsel.ensures.cut c.in_ok-morsel.ensures.skip c.in_ok-morsel.ensures.at c.in_ok-morsel.ensures.number (search rules) did

pub returns-clause-gives_for : goal.returns-clause-gives_for
returns-clause-gives_for g c =
    let same = c.in_ok-morsel.ensures.same in
    λ to for_job.
    record {
      given = subst (λ (frame : Table). g.J.RowsJob.is_given frame.schema frame.rows to) (sym same.0) for_job.given;
      some = rw same.1 for_job.some;
      within = c.in_ok-morsel.ensures.within;
    }
