use Rattle.std.proofs.Common.{refl, sym, ap, ◌∙◌}
use Rattle.std.specs.Arc.{arc_value}
use Rattle.morsel_scan.specs.ScanColumns.{output_fields}
use Rattle.morsel_join.specs.BuildSides.{kept_side}
use Rattle.morsel_line.specs.RowStages.{AloneRows, StageSeen, staged_columns}
use Rattle.morsel_scan_units.specs.LaneJobs.{LaneFor}
use Rattle.morsel_join_lines.proofs.PortLemmas.{gives_of_kept}
use Rattle.morsel_join_plan.proofs.PortFacts.{tokens_two}
use Rattle.morsel_join_plan.proofs.TurnFacts.{gives_there, giving_node, is_emitting, staged_again, texts_again, unswept_alone}
use Rattle.morsel_join_plan.proofs.alone.write_alone.Goals as goal

pub give_into-requires-clause-kept : goal.give_into-requires-clause-kept
give_into-requires-clause-kept g c =
    staged_again (AloneRows (kept_side (arc_value c.args.build.now))) c.args.lanes.now.rows c.args.lanes.now.kept c.args.lanes.now.given (ap (λ (lane : LaneFor). lane.stage) c.requires.texts) c.requires.kept

pub give_into-requires-clause-texts : goal.give_into-requires-clause-texts
give_into-requires-clause-texts g c =
    texts_again (AloneRows (kept_side (arc_value c.args.build.now))) c.args.lanes.now.rows c.args.lanes.now.given (ap (λ (lane : LaneFor). lane.stage) c.requires.texts) c.requires.texts

pub give_into-requires-clause-columns : goal.give_into-requires-clause-columns
give_into-requires-clause-columns g c =
    c.in-Ok-joined_sink.ensures.columns ∙ sym (ap (λ (st : StageSeen). staged_columns st (output_fields c.args.lanes.now.rows.scan.scan)) (ap (λ (lane : LaneFor). lane.stage) c.requires.texts))

pub give_into-requires-clause-gives : goal.give_into-requires-clause-gives
give_into-requires-clause-gives g c =
    let ready = rw (sym c.in-Some.ensures.value) at c.requires.ready in
    let has = rw (sym c.in-Some.ensures.value) at c.requires.has in
    gives_of_kept c.args.run.line.pipelines c.args.lanes.now.kept c.args.lanes.now.first.recv.items c.args.lanes.now.first.send.items _
    (giving_node _ _ _ (c.in-Ok.ensures.pipelines ∙ ready) refl refl c.in-Ok.ensures.idle (is_emitting _ (arc_value c.args.build.now) (record c.args.lanes.now.rows { tokens = has.0 }) c.args.given (c.in-Ok.ensures.has _ _ has.1)))
    (record { first = c.args.lanes.now.rows; second = c.args.lanes.now.rows; takes = c.requires.first_recv; gives = c.requires.first_send })

pub give_into-requires-clause-first_tokens : goal.give_into-requires-clause-first_tokens
give_into-requires-clause-first_tokens g c = tokens_two c.args.lanes.now.rows c.args.lanes.now.first.recv.items c.requires.first_recv

pub give_into-requires-clause-fits : goal.give_into-requires-clause-fits
give_into-requires-clause-fits g c =
    let has = rw (sym c.in-Some.ensures.value) at c.requires.has in (
      c.args.lanes.now.rows,
      c.args.lanes.now.rows,
      c.args.lanes.now.kept,
      c.requires.first_recv,
      c.requires.first_send,
      gives_there _ (arc_value c.args.build.now) c.args.lanes.now.rows c.args.lanes.now.kept has.0 c.args.given (c.in-Ok.ensures.has _ _ has.1) (ap (λ (lane : LaneFor). lane.kind) c.requires.rows) (ap (λ (lane : LaneFor). lane.stage) c.requires.rows) c.requires.all c.requires.kept,
    )

pub give_into-requires-clause-fails : goal.give_into-requires-clause-fails
give_into-requires-clause-fails g c fault is = is

pub returns-clause-sweeps : goal.returns-clause-sweeps
returns-clause-sweeps g c = c.give_into.ensures.sweeps (AloneRows (kept_side (arc_value c.args.build.now))) (ap (λ (lane : LaneFor). lane.stage) c.requires.texts) tt

pub returns-clause-writes : goal.returns-clause-writes
returns-clause-writes g c = c.give_into.ensures.writes (AloneRows (kept_side (arc_value c.args.build.now))) (ap (λ (lane : LaneFor). lane.stage) c.requires.texts) tt

pub returns-in_default-end_looking_up-clause-sweeps : goal.returns-in_default-end_looking_up-clause-sweeps
returns-in_default-end_looking_up-clause-sweeps g c = unswept_alone c.args.lanes.now.rows.scan c.args.lanes.now.rows.reader c.args.lanes.now.rows.outside (kept_side (arc_value c.args.build.now)) c.args.steps.now

pub returns-in_default-joined_sink-clause-sweeps : goal.returns-in_default-joined_sink-clause-sweeps
returns-in_default-joined_sink-clause-sweeps g c = unswept_alone c.args.lanes.now.rows.scan c.args.lanes.now.rows.reader c.args.lanes.now.rows.outside (kept_side (arc_value c.args.build.now)) c.args.steps.now
