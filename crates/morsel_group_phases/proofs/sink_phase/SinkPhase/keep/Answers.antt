use Rattle.std.proofs.Common.{List, map, sym, subst}
use Rattle.morsel_rows_job.specs.RowsJobs.{IsCutFor}
use Rattle.morsel_group_units.specs.TakenLoads.{rows_taken}
use Rattle.morsel_group_units.specs.declared.taken_load.TakenLoad.{TakenLoad}
use Rattle.morsel_group_phases.specs.LaneEnds.{TookFrom, lane_ended}
use Rattle.morsel_group_phases.proofs.EndLemmas.{suits_more}
use Rattle.morsel_group_phases.proofs.sink_phase.SinkPhase.keep.Goals as goal

pub invariant_of-self-clause-suits : goal.invariant_of-self-clause-suits
invariant_of-self-clause-suits g c = suits_more (IsCutFor g.J.LoadJob.suits c.args.self.now.job.value) c.args.self.now.taken.taken c.args.keeper.taken c.append.new.self.taken c.append.ensures.taken c.args.self.now.suits c.requires.suits

pub invariant_of-self-clause-took : goal.invariant_of-self-clause-took
invariant_of-self-clause-took g c =
    subst (λ (loads : List TakenLoad). ∥ TookFrom g.J.RowsJob.yields (map lane_ended c.args.self.now.ends.items) (rows_taken loads) ∥₁) (sym c.append.ensures.same.1) c.args.self.now.took
