use Rattle.std.proofs.Common.{List, map, sym, subst}
use Rattle.morsel_group_units.specs.TakenLoads.{rows_taken}
use Rattle.morsel_group_units.specs.declared.taken_load.TakenLoad.{TakenLoad}
use Rattle.morsel_group_phases.specs.LaneEnds.{TookFrom, lane_ended}
use Rattle.morsel_group_phases.specs.SinkPhases.{sink_ends}
use Rattle.morsel_group_phases.proofs.EndLemmas.{cause_taken}
use Rattle.morsel_group_phases.proofs.sink_phase.SinkPhase.grouped.Goals as goal

pub returns-in-Err-finish-clause-refused : goal.returns-in-Err-finish-clause-refused
returns-in-Err-finish-clause-refused g c =
    let closed = c.in-Ok.closed in
    cause_taken g.J.RowsJob.yields (sink_ends c.args.self) (map lane_ended closed.0.items) closed.1.rules c.args.self.taken.rules closed.1.ordered c.in-Err-finish.fault c.in-Ok.ensures.ends c.in-Ok.ensures.rules c.in-Ok.ensures.took c.in-Err-finish.ensures.refused

pub of-requires : goal.of-requires
of-requires g c =
    record { took = subst (λ (loads : List TakenLoad). ∥ TookFrom g.J.RowsJob.yields (map lane_ended c.in-Ok.closed.0.items) (rows_taken loads) ∥₁) (sym c.in-Ok-finish.ensures.same.1) c.in-Ok.ensures.took }
