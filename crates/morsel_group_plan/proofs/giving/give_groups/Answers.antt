use Rattle.std.proofs.Common.{sym, ap, subst, ◌∙◌}
use Rattle.morsel_scan.specs.ScanColumns.{output_fields}
use Rattle.morsel_line.specs.RowStages.{GivenRows, StageSeen, staged_columns}
use Rattle.morsel_emit_run.specs.EmitRuns.{SweepsPlace, WritesPlaceOrNot}
use Rattle.morsel_group_units.specs.GroupAsks.{rules_output}
use Rattle.morsel_scan_units.specs.LaneJobs.{LaneFor}
use Rattle.morsel_join_plan.proofs.PortFacts.{all_some, some_follows, some_here}
use Rattle.morsel_join_plan.proofs.TurnFacts.{tokens_again}
use Rattle.morsel_group_plan.proofs.GivingFacts.{swept, unswept, wrote_last}
use Rattle.morsel_group_plan.proofs.giving.give_groups.Goals as goal

pub returns-in-Err-clause-sweeps : goal.returns-in-Err-clause-sweeps
returns-in-Err-clause-sweeps g c = all_some _ c.args.node.now (λ node group ends takes. unswept (record { scan = c.args.lanes.rows.scan; reader = c.args.lanes.rows.reader }) ends c.args.lanes.rows.outside c.args.steps.now)

pub give_into-requires-clause-tokens : goal.give_into-requires-clause-tokens
give_into-requires-clause-tokens g c = some_follows _ _ c.args.board.now c.requires.tokens (λ board hold. tokens_again _ _ c.in-Ok.place.rows _ _ (ap (λ (lane : LaneFor). lane.tokens) c.in-Ok.ensures.rows) hold)

pub give_into-requires-clause-columns : goal.give_into-requires-clause-columns
give_into-requires-clause-columns g c =
    let it = rw (sym c.in-Some.ensures.value) at c.requires.takes in
    let gives = c.in-Ok.ensures.gives it.0 it.1 it.2 in
    it.3 ∙ sym (ap (λ (stage : StageSeen). staged_columns stage (output_fields c.in-Ok.place.rows.scan.scan)) gives.stage_is)

pub returns-clause-sweeps : goal.returns-clause-sweeps
returns-clause-sweeps g c = some_here _ c.args.node.now c.in-Some.first c.in-Some.ensures.value (λ group ends takes.
    let gives = c.in-Ok.ensures.gives group ends takes in
    let stage = GivenRows (rules_output group) gives.groups in
    swept (record { scan = c.args.lanes.rows.scan; reader = c.args.lanes.rows.reader }) group ends c.args.lanes.rows.outside c.in-Ok.place.given.stage c.args.steps.now c.give_into.new.steps gives
    (subst (λ (lane : LaneFor). SweepsPlace lane.scan lane.reader lane.outside stage c.args.steps.now c.give_into.new.steps) c.in-Ok.ensures.rows (c.give_into.ensures.sweeps stage gives.stage_is tt)))

pub returns-clause-gives : goal.returns-clause-gives
returns-clause-gives g c = some_here _ c.args.node.now c.in-Some.first c.in-Some.ensures.value (λ group ends takes.
    let gives = c.in-Ok.ensures.gives group ends takes in
    let stage = GivenRows (rules_output group) gives.groups in
    wrote_last (record { scan = c.args.lanes.rows.scan; reader = c.args.lanes.rows.reader }) group ends c.args.lanes.rows.outside (g.H.Io.seen c.args.io.now) c.give_into.result c.of_writing.result (g.H.Io.seen c.give_into.new.io) c.in-Ok.place.given.stage gives
    c.of_writing.ensures.last c.of_writing.ensures.same
    (subst (λ (lane : LaneFor). WritesPlaceOrNot lane.scan lane.reader lane.outside stage (g.H.Io.seen c.args.io.now) c.give_into.result (g.H.Io.seen c.give_into.new.io)) c.in-Ok.ensures.rows (c.give_into.ensures.writes stage gives.stage_is tt)))
